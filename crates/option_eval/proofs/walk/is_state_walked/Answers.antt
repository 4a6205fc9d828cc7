-- A state's places, sorted and each once, are the same places, so
-- the ways from them are the same; without a place there is no way.
use Rattle.std.proofs.Common.{◌+◌, ℕ, List, length, arith, sym, subst, ◌∙◌, Contains}
use Rattle.std.proofs.lemmas.Bool.{eqb-true}
use Rattle.std.proofs.lemmas.Result.{IfOk-weaker}
use Rattle.option_eval.specs.Sets.{IsRising}
use Rattle.option_eval.proofs.Extractions.Stepping.{walked_by, leaves_nowhere, leaves_same, one_same, sorted_same}
use Rattle.option_eval.proofs.walk.is_state_walked.Goals as goal

pub rising-requires-clause-small : goal.rising-requires-clause-small
rising-requires-clause-small g c = λ q has.
    let in_state =
    (sorted_same c.args.state.places.items c.sorted.result.items c.as_slice-2.result.now c.as_slice-2.result.now
    c.sorted.ensures.same c.as_slice-2.ensures (λ p. (λ x. x, λ x. x)) q).0
    has in
    let within = c.requires.inside q in_state in
    omega arith

pub returns-then-is_empty-clause-right : goal.returns-then-is_empty-clause-right
returns-then-is_empty-clause-right g c = λ means made known.
    let places = c.in_ok-places.places.items in
    let same = sorted_same c.args.state.places.items c.sorted.result.items c.as_slice-2.result.now places c.sorted.ensures.same c.as_slice-2.ensures c.in_ok-places.ensures.same in
    leaves_same means c.args.payload.now c.args.options.now c.args.state.values places c.args.state.places.items c.args.after.now.states c.args.after.now.states (λ q. (same q).0) (λ q. (same q).1)
    (leaves_nowhere means c.args.payload.now c.args.options.now c.args.state.values places c.args.after.now.states (eqb-true _ 0 (sym c.is_empty.ensures ∙ c.if-is_empty.true)))

pub invariant_of-at-clause-rising : goal.invariant_of-at-clause-rising
invariant_of-at-clause-rising g c =
    let places = c.in_ok-places.places.items in
    let same = sorted_same c.args.state.places.items c.sorted.result.items c.as_slice-2.result.now c.as_slice-2.result.now c.sorted.ensures.same c.as_slice-2.ensures (λ p. (λ x. x, λ x. x)) in
    let risen = c.in_ok-places.ensures.rising (length c.args.payload.now + 1) (λ q has. let below = c.requires.inside q ((same q).0 has) in omega arith) in
    subst (λ (xs : List ℕ). IsRising 0 xs (length c.args.payload.now + 1)) (sym c.as_slice-3.ensures) risen

pub returns-clause-right : goal.returns-clause-right
returns-clause-right g c = λ means made known.
    let same =
    sorted_same c.args.state.places.items c.sorted.result.items c.as_slice-2.result.now c.in_ok-places.places.items
    c.sorted.ensures.same c.as_slice-2.ensures c.in_ok-places.ensures.same in
    let up : (q : ℕ) → Contains c.as_slice-3.result.now q → Contains c.args.state.places.items q =
    λ q has. (same q).0 (subst (λ (xs : List ℕ). Contains xs q) c.as_slice-3.ensures has) in
    let down : (q : ℕ) → Contains c.args.state.places.items q → Contains c.as_slice-3.result.now q =
    λ q has. subst (λ (xs : List ℕ). Contains xs q) (sym c.as_slice-3.ensures) ((same q).1 has) in
    IfOk-weaker c.is_walked.result _ _
    (λ walked h. walked_by walked _ _ _ _ h
    (λ m. one_same means c.args.payload.now c.args.options.now c.args.state.values c.as_slice-3.result.now
    c.args.state.places.items up m)
    (λ left. leaves_same means c.args.payload.now c.args.options.now c.args.state.values c.as_slice-3.result.now
    c.args.state.places.items c.args.after.now.states c.is_walked.new.after.states up down left))
    (c.is_walked.ensures.right means made known)
