-- Up to `at` all ends that are wanted were added, each or one; the next
-- one found is past these, and ends the search where one is enough.
use Rattle.std.proofs.Common.{length, arith}
use Rattle.option_eval.proofs.Sets.Rising.{rising_high}
use Rattle.option_eval.proofs.Sets.Sweeping.{begins, adds_next, adds_all, on_from_low, on_from_high, rising_next}
use Rattle.option_eval.proofs.sweep.gather.Goals as goal

pub loop-start-init : goal.loop-start-init
loop-start-init c =
    let needle = c.args.needle.now in
    let begun =
    begins c.args.every needle.nocase c.args.payload.now needle.bytes.now c.args.low c.args.end c.args.places.items
    c.is_empty.result c.is_empty.ensures c.requires.order c.requires.rising in
    rw c.first_start-at.ensures (record {
      low = begun.0;
      high = begun.1;
      added = begun.2;
      rising = begun.3;
    })

pub loop-start-preserved : goal.loop-start-preserved
loop-start-preserved c =
    let needle = c.args.needle.now in
    let old = c.loop-start.invariant in
    let start = c.in-Some.start in
    let first = c.in-Some.ensures.0 in
    let from = first.low in
    let below = first.high in
    let low = old.low in
    let pushed =
    adds_next c.args.every needle.nocase c.args.payload.now needle.bytes.now c.args.low c.loop-start.at start c.args.end
    c.args.places.items c.loop-start.next.items low old.added first c.in-Some.ensures.1 in
    let risen =
    rising_next c.args.every c.loop-start.next.items c.loop-start.at start c.args.end (length needle.bytes.now) from below
    old.rising in
    let next_low = on_from_low c.args.every start c.args.end below in
    let next_high = on_from_high c.args.every start c.args.end below in
    rw (c.next_start-at.ensures, c.in_ok-push.ensures.ok) (record {
      low = omega arith;
      high = next_high;
      added = pushed;
      rising = risen;
    })

pub returns-clause-found : goal.returns-clause-found
returns-clause-found c =
    let needle = c.args.needle.now in
    adds_all c.args.every needle.nocase c.args.payload.now needle.bytes.now c.args.low c.loop-start.at c.args.end
    c.args.places.items c.loop-start.next.items c.loop-start.invariant.added c.loop-start.invariant.high c.in_default.ensures

pub returns-clause-rising : goal.returns-clause-rising
returns-clause-rising c =
    let high = c.loop-start.invariant.high in
    rising_high c.loop-start.next.items 0 _ _ (omega arith) c.loop-start.invariant.rising
