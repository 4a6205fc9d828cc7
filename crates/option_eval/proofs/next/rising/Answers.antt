-- In a sorted list a place is new just if it is past the last one taken: so each is taken once, and those taken rise.
use Rattle.std.proofs.Common.{arith, get_or, nat_le, refl}
use Rattle.option_eval.proofs.Sets.Asking.{deduped_none, deduped_next, deduped_all, deduped_high, ascending_from, contains_head}
use Rattle.option_eval.proofs.next.rising.Goals as goal

pub loop-rest-init : goal.loop-rest-init
loop-rest-init c = rw c.new-next.ensures.items (record {
  deduped = deduped_none c.args.sorted.now;
  ascending = ascending_from c.args.sorted.now 0 (λ k d below. omega arith) (λ i j d order below. c.requires.order i j d order below);
  rising = omega arith;
})

pub overflow_add-low : goal.overflow_add-low
overflow_add-low c =
    let has = c.loop-rest.invariant.deduped.within (get_or c.loop-rest.rest.now 0 0) (contains_head c.loop-rest.rest.now c.in-len1-up.len_at_least) in
    omega (arith, c.requires.small (get_or c.loop-rest.rest.now 0 0) has)

pub loop-rest-preserved : goal.loop-rest-preserved
loop-rest-preserved c =
    let old = c.loop-rest.invariant in
    let place = get_or c.loop-rest.rest.now 0 0 in
    let all =
    deduped_next c.args.sorted.now c.loop-rest.rest.now c.loop-rest.next.items c.in_ok-next.next.items c.loop-rest.low
    (nat_le c.loop-rest.low place) c.in-len1-up.len_at_least old.deduped old.ascending old.rising refl c.in_ok-next.ensures in
    record {
      deduped = all.0;
      ascending = all.1;
      rising = all.2;
    }

pub returns-clause-same : goal.returns-clause-same
returns-clause-same c = λ q. deduped_all c.args.sorted.now c.loop-rest.rest.now c.loop-rest.next.items c.loop-rest.low q c.in_default.len_below c.loop-rest.invariant.deduped

pub returns-clause-rising : goal.returns-clause-rising
returns-clause-rising c = λ high below. deduped_high c.args.sorted.now c.loop-rest.rest.now c.loop-rest.next.items c.loop-rest.low high c.loop-rest.invariant.deduped c.loop-rest.invariant.rising below
