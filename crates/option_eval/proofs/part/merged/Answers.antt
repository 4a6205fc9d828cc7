-- To sort a state's places and drop those that come again leaves the same places, so they stay below 2 ^ 63.
use Rattle.std.proofs.Common.{◌^◌, ℕ, List, Contains}
use Rattle.option_eval.proofs.Extractions.Stepping.{sorted_same}
use Rattle.option_eval.proofs.part.merged.Goals as goal

pub rising-requires-clause-small : goal.rising-requires-clause-small
rising-requires-clause-small c = λ q has.
    c.requires.small q
    ((sorted_same c.args.state.places.items c.sorted.result.items c.as_slice-2.result.now c.as_slice-2.result.now
    c.sorted.ensures.same c.as_slice-2.ensures (λ p. (λ x. x, λ x. x)) q).0
    has)

pub returns-clause-same : goal.returns-clause-same
returns-clause-same c = λ q.
    sorted_same c.args.state.places.items c.sorted.result.items c.as_slice-2.result.now c.in_ok-places.places.items
    c.sorted.ensures.same c.as_slice-2.ensures c.in_ok-places.ensures.same q

pub returns-clause-rising : goal.returns-clause-rising
returns-clause-rising c = c.in_ok-places.ensures.rising (2 ^ 63) (λ q has.
    c.requires.small q
    ((sorted_same c.args.state.places.items c.sorted.result.items c.as_slice-2.result.now c.as_slice-2.result.now
    c.sorted.ensures.same c.as_slice-2.ensures (λ p. (λ x. x, λ x. x)) q).0
    has))
