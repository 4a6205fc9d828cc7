-- The walk from the payload's start finds a way or leaves states after the first extraction; a way
-- through from these is one from the start, and the visits of both are together within the bounds.
use Rattle.std.proofs.Common.{◌+◌, ◌≤◌, ◌∷◌, [], ℕ, List, Some, None, Contains, ⊎_elim, length, refl, sym, subst, arith}
use Rattle.std.specs.Prelude.{⊤}
use Rattle.std.proofs.lemmas.Result.{IfOk-weaker}
use Rattle.rule_types.specs.declared.option.Opt.{Opt}
use Rattle.option_eval.specs.Places.{start}
use Rattle.option_eval.specs.Sets.{point}
use Rattle.option_eval.specs.States.{MatchesFromSome, Leaves}
use Rattle.option_eval.specs.Walks.{MatchesFrom, MatchesFromOne, IsListed, HasValues, visits_of, upto_extraction, after_extraction}
use Rattle.option_eval.proofs.Extractions.Extracting.{contains_one}
use Rattle.option_eval.proofs.Extractions.Knowing.{known_nothing, rising_nothing}
use Rattle.option_eval.proofs.Extractions.Stating.{some_nowhere, each_nowhere}
use Rattle.option_eval.proofs.Extractions.Stepping.{match_true, match_false, visits_split, apart_split, upto_nothing, sum_of_lists, one_of_lists}
use Rattle.option_eval.proofs.passing.is_passed.Goals as goal

pub returns-in_err-is_walked-clause-bounded : goal.returns-in_err-is_walked-clause-bounded
returns-in_err-is_walked-clause-bounded g c = λ nothing.
    subst (λ (os : List Opt). c.is_walked.new.visits ≤ c.args.visits.now + visits_of os (length c.args.payload.now)) (upto_nothing c.args.options.now nothing) c.is_walked.ensures.bounded

pub returns-in_err-is_walked-clause-bounded_by_values : goal.returns-in_err-is_walked-clause-bounded_by_values
returns-in_err-is_walked-clause-bounded_by_values g c = λ means made lists listed each few.
    let size = length c.args.payload.now in
    one_of_lists lists start.values (visits_of c.args.options.now size) c.args.visits.now c.is_walked.new.visits each.0
    (omega (arith, c.is_walked.ensures.bounded, visits_split c.args.options.now size))

pub returns-then-branch-clause-right : goal.returns-then-branch-clause-right
returns-then-branch-clause-right g c = λ means made. (
  λ yes. match_true _ _ _ c.if-branch.true (c.in_ok-is_walked.ensures.right means made (known_nothing means c.args.payload.now c.args.options.now c.nothing.result c.nothing.ensures)),
  λ m. refl,
)

pub returns-then-branch-clause-bounded : goal.returns-then-branch-clause-bounded
returns-then-branch-clause-bounded g c = λ nothing.
    subst (λ (os : List Opt). c.is_walked.new.visits ≤ c.args.visits.now + visits_of os (length c.args.payload.now)) (upto_nothing c.args.options.now nothing) c.is_walked.ensures.bounded

pub returns-then-branch-clause-bounded_by_values : goal.returns-then-branch-clause-bounded_by_values
returns-then-branch-clause-bounded_by_values g c = λ means made lists listed each few.
    let size = length c.args.payload.now in
    one_of_lists lists start.values (visits_of c.args.options.now size) c.args.visits.now c.is_walked.new.visits each.0
    (omega (arith, c.is_walked.ensures.bounded, visits_split c.args.options.now size))

pub is_walked-requires-clause-known_rising : goal.is_walked-requires-clause-known_rising
is_walked-requires-clause-known_rising g c κs within = rising_nothing c.nothing.result (length c.args.payload.now + 1) c.nothing.ensures

pub is_passed_after-requires-clause-inside : goal.is_passed_after-requires-clause-inside
is_passed_after-requires-clause-inside g c κs within =
    c.in_ok-is_walked.ensures.inside (each_nowhere (λ v. ⊤) (λ v p. p ≤ length c.args.payload.now) c.new.result c.new.ensures.nowhere)

pub returns-clause-right : goal.returns-clause-right
returns-clause-right g c = λ means made.
    let payload = c.args.payload.now in
    let options = c.args.options.now in
    let left : Leaves means payload options (0 ∷ 0 ∷ []) (0 ∷ []) c.new.result c.is_walked.new.after.states =
    match_false _ _ _ c.if-branch.false
    (c.in_ok-is_walked.ensures.right means made
    (known_nothing means c.args.payload.now c.args.options.now c.nothing.result c.nothing.ensures)) in
    IfOk-weaker c.is_passed_after.result _ _
    (λ passed h. (
      λ yes. ⊎_elim
          (λ (none : MatchesFromSome means payload (after_extraction options) c.new.result). absurd
          (some_nowhere (λ v p. MatchesFrom means payload (after_extraction options) (point v p))
          c.new.result c.new.ensures.nowhere none))
          (λ (m : MatchesFromOne means payload options (0 ∷ 0 ∷ []) (0 ∷ [])). m)
          (left.sound (h.0 yes)),
      λ m. h.1 (left.complete m),
    ))
    (c.is_passed_after.ensures.right means made)

pub returns-clause-bounded : goal.returns-clause-bounded
returns-clause-bounded g c = λ nothing.
    let first =
    subst (λ (os : List Opt). c.is_walked.new.visits ≤ c.args.visits.now + visits_of os (length c.args.payload.now))
    (upto_nothing c.args.options.now nothing)
    c.is_walked.ensures.bounded in
    omega (arith, first, c.is_passed_after.ensures.unvisited nothing)

pub returns-clause-bounded_by_values : goal.returns-clause-bounded_by_values
returns-clause-bounded_by_values g c = λ means made lists listed each few.
    let payload = c.args.payload.now in
    let size = length payload in
    let options = c.args.options.now in
    let left : Leaves means payload options (0 ∷ 0 ∷ []) (0 ∷ []) c.new.result c.is_walked.new.after.states =
    match_false _ _ _ c.if-branch.false
    (c.in_ok-is_walked.ensures.right means made
    (known_nothing means c.args.payload.now c.args.options.now c.nothing.result c.nothing.ensures)) in
    let none =
    each_nowhere (Contains lists)
    (λ v p. IsListed (Some listed) v p × HasValues means payload lists (Some listed) (after_extraction options) (point v p))
    c.new.result c.new.ensures.nowhere in
    let from : (p : ℕ) → Contains (0 ∷ []) p → HasValues means payload lists (Some listed) options (point (0 ∷ 0 ∷ []) p) =
    λ p has.
    subst (λ (q : ℕ). HasValues means payload lists (Some listed) options (point (0 ∷ 0 ∷ []) q))
    (sym (contains_one 0 p has)) each.1 in
    let second = c.is_passed_after.ensures.bounded means made lists listed (left.have lists (Some listed) from none) few in
    let first =
    one_of_lists lists start.values (visits_of (upto_extraction options) size)
    c.args.visits.now c.is_walked.new.visits each.0 c.is_walked.ensures.bounded in
    sum_of_lists (length lists) (visits_of (upto_extraction options) size)
    (visits_of (after_extraction options) size)
    (visits_of options size) c.args.visits.now c.is_walked.new.visits c.is_passed_after.new.visits (visits_split options size)
    first second

pub returns-in_err-is_walked-clause-bounded_in_parts : goal.returns-in_err-is_walked-clause-bounded_in_parts
returns-in_err-is_walked-clause-bounded_in_parts g c = λ means made lists each.
    omega (arith, c.is_walked.ensures.bounded, apart_split (length lists) c.args.options.now (length c.args.payload.now))

pub returns-then-branch-clause-bounded_in_parts : goal.returns-then-branch-clause-bounded_in_parts
returns-then-branch-clause-bounded_in_parts g c = λ means made lists each.
    omega (arith, c.is_walked.ensures.bounded, apart_split (length lists) c.args.options.now (length c.args.payload.now))

pub returns-clause-bounded_in_parts : goal.returns-clause-bounded_in_parts
returns-clause-bounded_in_parts g c = λ means made lists each.
    let payload = c.args.payload.now in
    let options = c.args.options.now in
    let left : Leaves means payload options (0 ∷ 0 ∷ []) (0 ∷ []) c.new.result c.is_walked.new.after.states =
    match_false _ _ _ c.if-branch.false
    (c.in_ok-is_walked.ensures.right means made
    (known_nothing means c.args.payload.now c.args.options.now c.nothing.result c.nothing.ensures)) in
    let none =
    each_nowhere (Contains lists)
    (λ v p. IsListed None v p × HasValues means payload lists None (after_extraction options) (point v p))
    c.new.result c.new.ensures.nowhere in
    let from : (p : ℕ) → Contains (0 ∷ []) p → HasValues means payload lists None options (point (0 ∷ 0 ∷ []) p) = λ p has.
    subst (λ (q : ℕ). HasValues means payload lists None options (point (0 ∷ 0 ∷ []) q)) (sym (contains_one 0 p has)) each.1 in
    let second = c.is_passed_after.ensures.bounded_in_parts means made lists (left.have lists None from none) in
    omega (arith, c.is_walked.ensures.bounded, second, apart_split (length lists) options (length payload))
