-- The event comes before none of those looked at, so the first that it does come before, or the end, is its place.
use Rattle.std.proofs.Common.{arith, ◌≤◌, ◌∙◌, length, sym}
use Rattle.std.proofs.lemmas.List.Sums.{position_or_len_is}
use Rattle.event_filters.proofs.queue.place_for.Goals as goal

pub returns-then-comes_before-clause-place : goal.returns-then-comes_before-clause-place
returns-then-comes_before-clause-place c =
    sym (position_or_len_is _ c.args.queue.now c.loop-place.place 0 (omega arith) c.loop-place.invariant (λ _. sym c.comes_before.ensures ∙ c.if-comes_before.true))

pub returns-clause-place : goal.returns-clause-place
returns-clause-place c =
    sym (position_or_len_is _ c.args.queue.now (length c.args.queue.now) 0 (omega arith) (λ k below. c.loop-place.invariant k (omega arith)) (λ lt. absurd (omega arith)))
