-- One place more is tried with the bits that the places before it left (`picks_all-more`), and takes at most the visits of its
-- rule; in the end all places are tried.
use Rattle.std.proofs.Common.{◌≡◌, ℕ, ◌+◌, ◌<◌, ◌≤◌, List, length, get_or, take, subst, arith}
use Rattle.std.proofs.lemmas.List.{take_all, take_more}
use Rattle.std.proofs.lemmas.List.Sums.{sum_by_more, sum_by_more_le}
use Rattle.rule_eval.specs.Picking.{PicksAll}
use Rattle.rule_eval.specs.Work.{visits_among, visits_at}
use Rattle.rule_eval.proofs.Picked.{picks_all-more, picks_all-none}
use Rattle.rule_eval.proofs.hits.pick_all.Goals as goal

pub loop-place-init : goal.loop-place-init
loop-place-init g c = record {
  picks = λ means test find tells.
      rw c.new-found.ensures.items (picks_all-none test c.args.set.now.rules (record { head = c.args.item.now.head.now; payload = c.args.item.now.payload.now }) c.args.bits.now);
  visits = λ means find. omega arith;
}

pub loop-place-preserved : goal.loop-place-preserved
loop-place-preserved g c =
    let below : c.loop-place.place-index < length c.args.places.now = omega arith in
    record {
      picks = λ means test find tells.
          rw (take_more c.args.places.now c.loop-place.place-index 0 below)
          (picks_all-more test c.args.set.now.rules (record { head = c.args.item.now.head.now; payload = c.args.item.now.payload.now })
          (take c.loop-place.place-index c.args.places.now) (get_or c.args.places.now c.loop-place.place-index 0)
          c.args.bits.now c.loop-place.bits c.pick.new.bits c.loop-place.found.items c.pick.new.found.items
          (c.loop-place.invariant.picks means test find tells) (c.in_ok-pick.ensures.picks means test find tells));
      visits = λ means find.
          let so_far = c.loop-place.invariant.visits means find in
          let now = c.pick.ensures.visits means find in
          omega (arith, so_far, now, sum_by_more (visits_at c.args.set.now.rules (length c.args.item.now.payload.now)) c.args.places.now c.loop-place.place-index 0 below);
    }

pub returns-in_err-pick-clause-visits : goal.returns-in_err-pick-clause-visits
returns-in_err-pick-clause-visits g c = λ means find.
    let below : c.loop-place.place-index < length c.args.places.now = omega arith in
    let so_far = c.loop-place.invariant.visits means find in
    let now = c.pick.ensures.visits means find in
    omega (arith, so_far, now, sum_by_more_le (visits_at c.args.set.now.rules (length c.args.item.now.payload.now)) c.args.places.now c.loop-place.place-index 0 below)

pub returns-clause-picks : goal.returns-clause-picks
returns-clause-picks g c = λ means test find tells.
    let all : take c.loop-place.place-index c.args.places.now ≡ c.args.places.now = take_all c.loop-place.place-index c.args.places.now (omega arith) in
    subst
    (λ (xs : List ℕ). PicksAll test c.args.set.now.rules (record { head = c.args.item.now.head.now; payload = c.args.item.now.payload.now }) xs c.args.bits.now c.loop-place.bits
    c.loop-place.found.items) all
    (c.loop-place.invariant.picks means test find tells)

pub returns-clause-visits : goal.returns-clause-visits
returns-clause-visits g c = λ means find.
    let all : take c.loop-place.place-index c.args.places.now ≡ c.args.places.now = take_all c.loop-place.place-index c.args.places.now (omega arith) in
    subst (λ (xs : List ℕ). c.loop-place.visits ≤ c.args.visits.now + visits_among c.args.set.now.rules (length c.args.item.now.payload.now) xs) all
    (c.loop-place.invariant.visits means find)
