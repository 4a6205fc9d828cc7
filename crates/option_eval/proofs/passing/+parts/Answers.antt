-- Each state is walked to the next extraction, and what that leaves is tried together, or part by part and then
-- forgotten: a way through from some state is found in one of these, and visits are counted for each list of values.
use Rattle.std.proofs.Common.{◌≡◌, ℕ, ◌+◌, ◌*◌, ◌<◌, ◌≤◌, ◌^◌, ◌⊎◌, List, [], Some, None, Contains, length, inl, inr, IfOk, IsTrue, refl, sym, subst, arith}
use Rattle.std.specs.Prelude.{⊤}
use Rattle.std.proofs.lemmas.Result.{IfOk-weaker}
use Rattle.rule_types.specs.declared.option.Opt.{Opt}
use Rattle.option_eval.specs.Sets.{point}
use Rattle.option_eval.specs.States.{places_at, MatchesFromSome, HaveValues, AreAmong}
use Rattle.option_eval.specs.Walks.{MatchesFrom, IsListed, HasValues, visits_of, visits_apart, part_points, upto_extraction, after_extraction}
use Rattle.option_eval.specs.declared.states.States.{States}
use Rattle.option_eval.proofs.Extractions.Knowing.{known_nothing, rising_nothing}
use Rattle.option_eval.proofs.Extractions.Parting.{always, part_tried, owing_first, owing_walked, owing_parted, owing_spent, owing_end}
use Rattle.option_eval.proofs.Extractions.Stating.{left_was, some_among, each_among, nowhere_among, each_nowhere, each_weaker, among_nowhere}
use Rattle.option_eval.proofs.Extractions.Stepping.{Counted, match_true, match_false, gone_first, gone_next, gone_fewer, gone_all}
use Rattle.option_eval.proofs.Extractions.Stepping.{some_here, counted_first, counted_next, counted_end, visits_split}
use Rattle.option_eval.proofs.Extractions.Stepping.{apart_split, sum_of_lists, part_of_lists}
use Rattle.option_eval.proofs.passing.+parts.Goals as goal

pub is_passed_after-returns-clause-right : goal.is_passed_after-returns-clause-right
is_passed_after-returns-clause-right g t c = λ means made.
    subst (λ (os : List Opt). IfOk c.is_passed_from.result
    (λ passed. (IsTrue passed → MatchesFromSome means c.args.payload.now os c.args.states) ×
    (MatchesFromSome means c.args.payload.now os c.args.states → IsTrue passed)))
    c.in-Some.ensures.options
    (c.is_passed_from.ensures.right means (c.in-Some.ensures.made g.P.Pattern.finds means made))

pub is_passed_after-returns-clause-bounded : goal.is_passed_after-returns-clause-bounded
is_passed_after-returns-clause-bounded g t c = λ means made lists listed have few.
    let is = c.in-Some.ensures.options in
    let have_later = subst (λ (os : List Opt). HaveValues means c.args.payload.now lists (Some listed) os c.args.states) (sym is) have in
    subst (λ (os : List Opt). c.is_passed_from.new.visits ≤ c.args.visits.now + length lists * visits_of os (length c.args.payload.now)) is
    (c.is_passed_from.ensures.bounded means (c.in-Some.ensures.made g.P.Pattern.finds means made) lists listed have_later few)

pub is_passed_after-returns-clause-bounded_in_parts : goal.is_passed_after-returns-clause-bounded_in_parts
is_passed_after-returns-clause-bounded_in_parts g t c = λ means made lists have.
    let is = c.in-Some.ensures.options in
    let have_later = subst (λ (os : List Opt). HaveValues means c.args.payload.now lists None os c.args.states) (sym is) have in
    subst (λ (os : List Opt). c.is_passed_from.new.visits ≤ c.args.visits.now + length lists * visits_apart (length lists) os (length c.args.payload.now)) is
    (c.is_passed_from.ensures.bounded_in_parts means (c.in-Some.ensures.made g.P.Pattern.finds means made) lists have_later)

pub is_part_passed-taken_part-requires : goal.is_part_passed-taken_part-requires
is_part_passed-taken_part-requires g t c = record {
  small =
      each_weaker c.args.states.now (λ v. ⊤) (λ v. ⊤) (λ v p. p ≤ length c.args.payload.now) (λ v p. p < 2 ^ 63) (λ v key. tt)
      (λ v p below. omega arith) c.requires.inside;
}

pub is_part_passed-returns-in-None-clause-right : goal.is_part_passed-returns-in-None-clause-right
is_part_passed-returns-in-None-clause-right g t c = λ means made m.
    let same = rw c.in-None.is at c.in_ok-part.ensures.same in
    some_among c.args.states.now c.taken_part.new.states same.0 (λ v p. MatchesFrom means c.args.payload.now (after_extraction c.args.options.now) (point v p)) m

pub is_part_passed-returns-in-None-clause-among : goal.is_part_passed-returns-in-None-clause-among
is_part_passed-returns-in-None-clause-among g t c = let same = rw c.in-None.is at c.in_ok-part.ensures.same in same.1

pub is_part_passed-returns-in-None-clause-forgotten : goal.is_part_passed-returns-in-None-clause-forgotten
is_part_passed-returns-in-None-clause-forgotten g t c = inl refl

pub is_part_passed-is_passed_after-requires-clause-inside : goal.is_part_passed-is_passed_after-requires-clause-inside
is_part_passed-is_passed_after-requires-clause-inside g t c κs within = let same = rw c.in-Some.is at c.in_ok-part.ensures.part in
    each_among c.in-Some.taken c.args.states.now same.1 (λ v. ⊤) (λ v p. p ≤ length c.args.payload.now) c.requires.inside

pub is_part_passed-is_passed_after-requires-clause-nowhere : goal.is_part_passed-is_passed_after-requires-clause-nowhere
is_part_passed-is_passed_after-requires-clause-nowhere g t c κs within = λ nothing.
    let same = rw c.in-Some.is at c.in_ok-part.ensures.part in
    nowhere_among c.in-Some.taken c.args.states.now same.1 (c.requires.nowhere nothing)

pub is_part_passed-returns-in-Some-clause-right : goal.is_part_passed-returns-in-Some-clause-right
is_part_passed-returns-in-Some-clause-right g t c = λ means made.
    let same = rw c.in-Some.is at c.in_ok-part.ensures.part in
    IfOk-weaker c.is_passed_after.result _ _
    (λ passed told. part_tried (λ v p. MatchesFrom means c.args.payload.now (after_extraction c.args.options.now) (point v p))
    c.args.states.now c.taken_part.new.states c.in-Some.taken passed same told)
    (c.is_passed_after.ensures.right means made)

pub is_part_passed-returns-in-Some-clause-among : goal.is_part_passed-returns-in-Some-clause-among
is_part_passed-returns-in-Some-clause-among g t c = let none = rw c.in-Some.is at c.in_ok-part.ensures.nowhere in
    always c.is_passed_after.result (λ passed. AreAmong c.taken_part.new.states c.args.states.now) (λ passed. among_nowhere c.taken_part.new.states c.args.states.now none)

pub is_part_passed-returns-in-Some-clause-few : goal.is_part_passed-returns-in-Some-clause-few
is_part_passed-returns-in-Some-clause-few g t c = always c.is_passed_after.result (λ passed. c.taken_part.new.states.place_count ≤ 2 * part_points) (λ passed. c.in_ok-part.ensures.few)

pub is_part_passed-returns-in-Some-clause-bounded : goal.is_part_passed-returns-in-Some-clause-bounded
is_part_passed-returns-in-Some-clause-bounded g t c = λ means lists listed have few.
    let listed_before =
    each_weaker c.args.states.now (Contains lists) (λ v. ⊤)
    (λ v p. IsListed (Some listed) v p ×
    HasValues means c.args.payload.now lists (Some listed) (after_extraction c.args.options.now) (point v p))
    (λ v p. Contains listed (point v p)) (λ v key. tt) (λ v p both. both.0) have in
    let many = rw c.in-Some.is at c.in_ok-part.ensures.many listed listed_before in
    absurd (omega (arith, many, few))

pub is_part_passed-returns-in-Some-clause-bounded_in_parts : goal.is_part_passed-returns-in-Some-clause-bounded_in_parts
is_part_passed-returns-in-Some-clause-bounded_in_parts g t c = λ means made lists have.
    let same = rw c.in-Some.is at c.in_ok-part.ensures.part in
    c.is_passed_after.ensures.bounded_in_parts means made lists
    (each_among c.in-Some.taken c.args.states.now same.1 (Contains lists)
    (λ v p. IsListed None v p × HasValues means c.args.payload.now lists None (after_extraction c.args.options.now) (point v p))
    have)

pub is_part_passed-returns-in-Some-clause-forgotten : goal.is_part_passed-returns-in-Some-clause-forgotten
is_part_passed-returns-in-Some-clause-forgotten g t c = let none = rw c.in-Some.is at c.in_ok-part.ensures.nowhere in
    always c.is_passed_after.result (λ passed. (c.is_passed_after.new.visits ≡ c.args.visits.now) ⊎ ((values : List ℕ) → places_at c.taken_part.new.states values ≡ None)) (λ passed. inr none)

pub is_passed_from-loop-state-init : goal.is_passed_from-loop-state-init
is_passed_from-loop-state-init g t c = record {
  gone = λ means made. gone_first means c.args.payload.now c.args.options.now c.args.states c.new.result c.new.ensures.nowhere;
  left_was = λ values places found. found;
  within = each_nowhere (λ v. ⊤) (λ v p. p ≤ length c.args.payload.now) c.new.result c.new.ensures.nowhere;
  nowhere = λ nothing. c.new.ensures.nowhere;
  known = λ means made. known_nothing means c.args.payload.now c.args.options.now c.in_ok-known.known c.in_ok-known.ensures;
  known_rising = rising_nothing c.in_ok-known.known (length c.args.payload.now + 1) c.in_ok-known.ensures;
  together = λ means made lists listed have few.
      counted_first (visits_of (upto_extraction c.args.options.now) (length c.args.payload.now)) lists
      c.args.states
      (λ v p. IsListed (Some listed) v p × HasValues means c.args.payload.now lists (Some listed) c.args.options.now (point v p))
      c.args.visits.now have;
  owing = λ means made lists have.
      owing_first (visits_apart (length lists) c.args.options.now (length c.args.payload.now))
      (length lists * visits_apart (length lists) (after_extraction c.args.options.now) (length c.args.payload.now)) lists
      c.args.states c.new.result
      (λ v p. IsListed None v p × HasValues means c.args.payload.now lists None c.args.options.now (point v p))
      c.args.visits.now c.new.ensures.nowhere have;
}

pub is_passed_from-is_state_walked-requires-clause-inside : goal.is_passed_from-is_state_walked-requires-clause-inside
is_passed_from-is_state_walked-requires-clause-inside g t c κs within =
    (c.requires.inside c.in-Some.state.values c.in-Some.state.places.items
    (c.loop-state.invariant.left_was c.in-Some.state.values c.in-Some.state.places.items c.in-Some.ensures.taken)).1

pub is_passed_from-is_part_passed-requires-clause-inside : goal.is_passed_from-is_part_passed-requires-clause-inside
is_passed_from-is_part_passed-requires-clause-inside g t c κs within = c.in_ok-walked.ensures.inside c.loop-state.invariant.within

pub is_passed_from-is_part_passed-requires-clause-nowhere : goal.is_passed_from-is_part_passed-requires-clause-nowhere
is_passed_from-is_part_passed-requires-clause-nowhere g t c κs within = λ nothing.
    subst (λ (s : States). (q : List ℕ) → places_at s q ≡ None) (sym (c.is_state_walked.ensures.nowhere nothing)) (c.loop-state.invariant.nowhere nothing)

pub is_passed_from-loop-state-preserved : goal.is_passed_from-loop-state-preserved
is_passed_from-loop-state-preserved g t c =
    let old = c.loop-state.invariant in
    record {
      gone = λ means made.
          let gone =
          gone_next means c.args.payload.now c.args.options.now c.args.states c.loop-state.left c.take_first.new.self
          c.loop-state.after.states c.is_state_walked.new.after.states c.in-Some.state.values c.in-Some.state.places.items
          c.loop-state.invariant.left_was c.in-Some.ensures.taken c.in-Some.ensures.left (c.loop-state.invariant.gone means made)
          (match_false _ _ _ c.if-walked.false
          (c.in_ok-walked.ensures.right means made (c.loop-state.invariant.known means made))) in
          gone_fewer means c.args.payload.now c.args.options.now c.args.states c.take_first.new.self
          c.is_state_walked.new.after.states c.is_part_passed.new.states c.in_ok-passed.ensures.among
          (match_false _ _ _ c.if-passed.false (c.in_ok-passed.ensures.right means made)) gone;
      left_was = λ v ps found.
          old.left_was v ps
          (left_was c.loop-state.left c.take_first.new.self c.in-Some.state.values c.in-Some.state.places.items
          c.in-Some.ensures.taken c.in-Some.ensures.left v ps found).0;
      within =
          each_among c.is_part_passed.new.states c.is_state_walked.new.after.states c.in_ok-passed.ensures.among (λ v. ⊤)
          (λ v p. p ≤ length c.args.payload.now) (c.in_ok-walked.ensures.inside old.within);
      nowhere = λ nothing.
          nowhere_among c.is_part_passed.new.states c.is_state_walked.new.after.states c.in_ok-passed.ensures.among
          (subst (λ (s : States). (q : List ℕ) → places_at s q ≡ None)
          (sym (c.is_state_walked.ensures.nowhere nothing))
          (old.nowhere nothing));
      known = λ means made. c.in_ok-walked.ensures.known means made (old.known means made);
      known_rising = c.in_ok-walked.ensures.known_rising;
      together = λ means made lists listed have few.
          let gone =
          gone_next means c.args.payload.now c.args.options.now c.args.states c.loop-state.left c.take_first.new.self
          c.loop-state.after.states c.is_state_walked.new.after.states c.in-Some.state.values c.in-Some.state.places.items
          c.loop-state.invariant.left_was c.in-Some.ensures.taken c.in-Some.ensures.left (c.loop-state.invariant.gone means made)
          (match_false _ _ _ c.if-walked.false
          (c.in_ok-walked.ensures.right means made (c.loop-state.invariant.known means made))) in
          subst (λ (n : ℕ). Counted (visits_of (upto_extraction c.args.options.now) (length c.args.payload.now)) lists
          c.take_first.new.self c.args.visits.now n)
          (sym (c.is_part_passed.ensures.bounded means lists listed (gone.have lists (Some listed) have) few))
          (counted_next (visits_of (upto_extraction c.args.options.now) (length c.args.payload.now)) lists
          c.loop-state.left c.take_first.new.self c.in-Some.state.values c.in-Some.state.places.items c.args.visits.now
          c.loop-state.visits c.is_state_walked.new.visits c.in-Some.ensures.taken c.in-Some.ensures.left
          c.is_state_walked.ensures.bounded
          (c.loop-state.invariant.together means made lists listed have few));
      owing = λ means made lists have.
          let gone =
          gone_next means c.args.payload.now c.args.options.now c.args.states c.loop-state.left c.take_first.new.self
          c.loop-state.after.states c.is_state_walked.new.after.states c.in-Some.state.values c.in-Some.state.places.items
          c.loop-state.invariant.left_was c.in-Some.ensures.taken c.in-Some.ensures.left (c.loop-state.invariant.gone means made)
          (match_false _ _ _ c.if-walked.false
          (c.in_ok-walked.ensures.right means made (c.loop-state.invariant.known means made))) in
          owing_parted (visits_apart (length lists) c.args.options.now (length c.args.payload.now))
          (length lists * visits_apart (length lists) (after_extraction c.args.options.now) (length c.args.payload.now)) lists
          c.take_first.new.self c.is_part_passed.new.states c.args.visits.now c.is_state_walked.new.visits
          c.is_part_passed.new.visits
          (c.is_part_passed.ensures.bounded_in_parts means made lists (gone.have lists None have))
          c.in_ok-passed.ensures.forgotten
          (owing_walked (visits_apart (length lists) c.args.options.now (length c.args.payload.now))
          (length lists * visits_apart (length lists) (after_extraction c.args.options.now) (length c.args.payload.now)) lists
          (visits_of (upto_extraction c.args.options.now) (length c.args.payload.now))
          c.loop-state.left c.take_first.new.self c.loop-state.after.states c.in-Some.state.values c.in-Some.state.places.items
          c.args.visits.now c.loop-state.visits c.is_state_walked.new.visits
          (apart_split (length lists) c.args.options.now (length c.args.payload.now))
          c.in-Some.ensures.taken c.in-Some.ensures.left c.is_state_walked.ensures.bounded
          (c.loop-state.invariant.owing means made lists have));
    }

pub is_passed_from-returns-then-walked-clause-right : goal.is_passed_from-returns-then-walked-clause-right
is_passed_from-returns-then-walked-clause-right g t c = λ means made. (
  λ yes.
      some_here means c.args.payload.now c.args.options.now c.args.states c.loop-state.left c.in-Some.state.values
      c.in-Some.state.places.items c.loop-state.invariant.left_was c.in-Some.ensures.taken
      (match_true _ _ _ c.if-walked.true (c.in_ok-walked.ensures.right means made (c.loop-state.invariant.known means made))),
  λ m. refl,
)

pub is_passed_from-returns-then-walked-clause-bounded : goal.is_passed_from-returns-then-walked-clause-bounded
is_passed_from-returns-then-walked-clause-bounded g t c = λ means made lists listed have few.
    part_of_lists (length lists) (visits_of (upto_extraction c.args.options.now) (length c.args.payload.now))
    (visits_of (after_extraction c.args.options.now) (length c.args.payload.now))
    (visits_of c.args.options.now (length c.args.payload.now))
    c.args.visits.now c.is_state_walked.new.visits
    (visits_split c.args.options.now (length c.args.payload.now))
    (counted_end (visits_of (upto_extraction c.args.options.now) (length c.args.payload.now)) lists
    c.take_first.new.self c.args.visits.now c.is_state_walked.new.visits
    (counted_next (visits_of (upto_extraction c.args.options.now) (length c.args.payload.now)) lists
    c.loop-state.left c.take_first.new.self c.in-Some.state.values c.in-Some.state.places.items c.args.visits.now
    c.loop-state.visits c.is_state_walked.new.visits c.in-Some.ensures.taken c.in-Some.ensures.left
    c.is_state_walked.ensures.bounded
    (c.loop-state.invariant.together means made lists listed have few)))

pub is_passed_from-returns-then-walked-clause-bounded_in_parts : goal.is_passed_from-returns-then-walked-clause-bounded_in_parts
is_passed_from-returns-then-walked-clause-bounded_in_parts g t c = λ means made lists have.
    let spent =
    owing_spent (visits_apart (length lists) c.args.options.now (length c.args.payload.now))
    (length lists * visits_apart (length lists) (after_extraction c.args.options.now) (length c.args.payload.now)) lists
    c.take_first.new.self c.args.visits.now c.is_state_walked.new.visits
    (owing_walked (visits_apart (length lists) c.args.options.now (length c.args.payload.now))
    (length lists * visits_apart (length lists) (after_extraction c.args.options.now) (length c.args.payload.now)) lists
    (visits_of (upto_extraction c.args.options.now) (length c.args.payload.now))
    c.loop-state.left c.take_first.new.self c.loop-state.after.states c.in-Some.state.values c.in-Some.state.places.items
    c.args.visits.now c.loop-state.visits c.is_state_walked.new.visits
    (apart_split (length lists) c.args.options.now (length c.args.payload.now))
    c.in-Some.ensures.taken c.in-Some.ensures.left c.is_state_walked.ensures.bounded
    (c.loop-state.invariant.owing means made lists have)) in
    omega (arith, spent)

pub is_passed_from-returns-in_err-walked-clause-bounded : goal.is_passed_from-returns-in_err-walked-clause-bounded
is_passed_from-returns-in_err-walked-clause-bounded g t c = λ means made lists listed have few.
    part_of_lists (length lists) (visits_of (upto_extraction c.args.options.now) (length c.args.payload.now))
    (visits_of (after_extraction c.args.options.now) (length c.args.payload.now))
    (visits_of c.args.options.now (length c.args.payload.now))
    c.args.visits.now c.is_state_walked.new.visits
    (visits_split c.args.options.now (length c.args.payload.now))
    (counted_end (visits_of (upto_extraction c.args.options.now) (length c.args.payload.now)) lists
    c.take_first.new.self c.args.visits.now c.is_state_walked.new.visits
    (counted_next (visits_of (upto_extraction c.args.options.now) (length c.args.payload.now)) lists
    c.loop-state.left c.take_first.new.self c.in-Some.state.values c.in-Some.state.places.items c.args.visits.now
    c.loop-state.visits c.is_state_walked.new.visits c.in-Some.ensures.taken c.in-Some.ensures.left
    c.is_state_walked.ensures.bounded
    (c.loop-state.invariant.together means made lists listed have few)))

pub is_passed_from-returns-in_err-walked-clause-bounded_in_parts : goal.is_passed_from-returns-in_err-walked-clause-bounded_in_parts
is_passed_from-returns-in_err-walked-clause-bounded_in_parts g t c = λ means made lists have.
    let spent =
    owing_spent (visits_apart (length lists) c.args.options.now (length c.args.payload.now))
    (length lists * visits_apart (length lists) (after_extraction c.args.options.now) (length c.args.payload.now)) lists
    c.take_first.new.self c.args.visits.now c.is_state_walked.new.visits
    (owing_walked (visits_apart (length lists) c.args.options.now (length c.args.payload.now))
    (length lists * visits_apart (length lists) (after_extraction c.args.options.now) (length c.args.payload.now)) lists
    (visits_of (upto_extraction c.args.options.now) (length c.args.payload.now))
    c.loop-state.left c.take_first.new.self c.loop-state.after.states c.in-Some.state.values c.in-Some.state.places.items
    c.args.visits.now c.loop-state.visits c.is_state_walked.new.visits
    (apart_split (length lists) c.args.options.now (length c.args.payload.now))
    c.in-Some.ensures.taken c.in-Some.ensures.left c.is_state_walked.ensures.bounded
    (c.loop-state.invariant.owing means made lists have)) in
    omega (arith, spent)

pub is_passed_from-returns-then-passed-clause-right : goal.is_passed_from-returns-then-passed-clause-right
is_passed_from-returns-then-passed-clause-right g t c = λ means made. (
  λ yes.
      let gone =
      gone_next means c.args.payload.now c.args.options.now c.args.states c.loop-state.left c.take_first.new.self
      c.loop-state.after.states c.is_state_walked.new.after.states c.in-Some.state.values c.in-Some.state.places.items
      c.loop-state.invariant.left_was c.in-Some.ensures.taken c.in-Some.ensures.left (c.loop-state.invariant.gone means made)
      (match_false _ _ _ c.if-walked.false (c.in_ok-walked.ensures.right means made (c.loop-state.invariant.known means made))) in
      gone.sound (match_true _ _ _ c.if-passed.true (c.in_ok-passed.ensures.right means made)),
  λ m. refl,
)

pub is_passed_from-returns-then-passed-clause-bounded : goal.is_passed_from-returns-then-passed-clause-bounded
is_passed_from-returns-then-passed-clause-bounded g t c = λ means made lists listed have few.
    let gone =
    gone_next means c.args.payload.now c.args.options.now c.args.states c.loop-state.left c.take_first.new.self
    c.loop-state.after.states c.is_state_walked.new.after.states c.in-Some.state.values c.in-Some.state.places.items
    c.loop-state.invariant.left_was c.in-Some.ensures.taken c.in-Some.ensures.left (c.loop-state.invariant.gone means made)
    (match_false _ _ _ c.if-walked.false (c.in_ok-walked.ensures.right means made (c.loop-state.invariant.known means made))) in
    subst (λ (n : ℕ). n ≤ c.args.visits.now + length lists * (visits_of c.args.options.now (length c.args.payload.now)))
    (sym (c.is_part_passed.ensures.bounded means lists listed (gone.have lists (Some listed) have) few))
    (part_of_lists (length lists) (visits_of (upto_extraction c.args.options.now) (length c.args.payload.now))
    (visits_of (after_extraction c.args.options.now) (length c.args.payload.now))
    (visits_of c.args.options.now (length c.args.payload.now))
    c.args.visits.now c.is_state_walked.new.visits
    (visits_split c.args.options.now (length c.args.payload.now))
    (counted_end (visits_of (upto_extraction c.args.options.now) (length c.args.payload.now)) lists
    c.take_first.new.self c.args.visits.now c.is_state_walked.new.visits
    (counted_next (visits_of (upto_extraction c.args.options.now) (length c.args.payload.now)) lists
    c.loop-state.left c.take_first.new.self c.in-Some.state.values c.in-Some.state.places.items c.args.visits.now
    c.loop-state.visits c.is_state_walked.new.visits c.in-Some.ensures.taken c.in-Some.ensures.left
    c.is_state_walked.ensures.bounded
    (c.loop-state.invariant.together means made lists listed have few))))

pub is_passed_from-returns-then-passed-clause-bounded_in_parts : goal.is_passed_from-returns-then-passed-clause-bounded_in_parts
is_passed_from-returns-then-passed-clause-bounded_in_parts g t c = λ means made lists have.
    let gone =
    gone_next means c.args.payload.now c.args.options.now c.args.states c.loop-state.left c.take_first.new.self
    c.loop-state.after.states c.is_state_walked.new.after.states c.in-Some.state.values c.in-Some.state.places.items
    c.loop-state.invariant.left_was c.in-Some.ensures.taken c.in-Some.ensures.left (c.loop-state.invariant.gone means made)
    (match_false _ _ _ c.if-walked.false (c.in_ok-walked.ensures.right means made (c.loop-state.invariant.known means made))) in
    let spent =
    owing_spent (visits_apart (length lists) c.args.options.now (length c.args.payload.now))
    (length lists * visits_apart (length lists) (after_extraction c.args.options.now) (length c.args.payload.now)) lists
    c.take_first.new.self c.args.visits.now c.is_state_walked.new.visits
    (owing_walked (visits_apart (length lists) c.args.options.now (length c.args.payload.now))
    (length lists * visits_apart (length lists) (after_extraction c.args.options.now) (length c.args.payload.now)) lists
    (visits_of (upto_extraction c.args.options.now) (length c.args.payload.now))
    c.loop-state.left c.take_first.new.self c.loop-state.after.states c.in-Some.state.values c.in-Some.state.places.items
    c.args.visits.now c.loop-state.visits c.is_state_walked.new.visits
    (apart_split (length lists) c.args.options.now (length c.args.payload.now))
    c.in-Some.ensures.taken c.in-Some.ensures.left c.is_state_walked.ensures.bounded
    (c.loop-state.invariant.owing means made lists have)) in
    omega (arith, spent, c.is_part_passed.ensures.bounded_in_parts means made lists (gone.have lists None have))

pub is_passed_from-returns-in_err-passed-clause-bounded : goal.is_passed_from-returns-in_err-passed-clause-bounded
is_passed_from-returns-in_err-passed-clause-bounded g t c = λ means made lists listed have few.
    let gone =
    gone_next means c.args.payload.now c.args.options.now c.args.states c.loop-state.left c.take_first.new.self
    c.loop-state.after.states c.is_state_walked.new.after.states c.in-Some.state.values c.in-Some.state.places.items
    c.loop-state.invariant.left_was c.in-Some.ensures.taken c.in-Some.ensures.left (c.loop-state.invariant.gone means made)
    (match_false _ _ _ c.if-walked.false (c.in_ok-walked.ensures.right means made (c.loop-state.invariant.known means made))) in
    subst (λ (n : ℕ). n ≤ c.args.visits.now + length lists * (visits_of c.args.options.now (length c.args.payload.now)))
    (sym (c.is_part_passed.ensures.bounded means lists listed (gone.have lists (Some listed) have) few))
    (part_of_lists (length lists) (visits_of (upto_extraction c.args.options.now) (length c.args.payload.now))
    (visits_of (after_extraction c.args.options.now) (length c.args.payload.now))
    (visits_of c.args.options.now (length c.args.payload.now))
    c.args.visits.now c.is_state_walked.new.visits
    (visits_split c.args.options.now (length c.args.payload.now))
    (counted_end (visits_of (upto_extraction c.args.options.now) (length c.args.payload.now)) lists
    c.take_first.new.self c.args.visits.now c.is_state_walked.new.visits
    (counted_next (visits_of (upto_extraction c.args.options.now) (length c.args.payload.now)) lists
    c.loop-state.left c.take_first.new.self c.in-Some.state.values c.in-Some.state.places.items c.args.visits.now
    c.loop-state.visits c.is_state_walked.new.visits c.in-Some.ensures.taken c.in-Some.ensures.left
    c.is_state_walked.ensures.bounded
    (c.loop-state.invariant.together means made lists listed have few))))

pub is_passed_from-returns-in_err-passed-clause-bounded_in_parts : goal.is_passed_from-returns-in_err-passed-clause-bounded_in_parts
is_passed_from-returns-in_err-passed-clause-bounded_in_parts g t c = λ means made lists have.
    let gone =
    gone_next means c.args.payload.now c.args.options.now c.args.states c.loop-state.left c.take_first.new.self
    c.loop-state.after.states c.is_state_walked.new.after.states c.in-Some.state.values c.in-Some.state.places.items
    c.loop-state.invariant.left_was c.in-Some.ensures.taken c.in-Some.ensures.left (c.loop-state.invariant.gone means made)
    (match_false _ _ _ c.if-walked.false (c.in_ok-walked.ensures.right means made (c.loop-state.invariant.known means made))) in
    let spent =
    owing_spent (visits_apart (length lists) c.args.options.now (length c.args.payload.now))
    (length lists * visits_apart (length lists) (after_extraction c.args.options.now) (length c.args.payload.now)) lists
    c.take_first.new.self c.args.visits.now c.is_state_walked.new.visits
    (owing_walked (visits_apart (length lists) c.args.options.now (length c.args.payload.now))
    (length lists * visits_apart (length lists) (after_extraction c.args.options.now) (length c.args.payload.now)) lists
    (visits_of (upto_extraction c.args.options.now) (length c.args.payload.now))
    c.loop-state.left c.take_first.new.self c.loop-state.after.states c.in-Some.state.values c.in-Some.state.places.items
    c.args.visits.now c.loop-state.visits c.is_state_walked.new.visits
    (apart_split (length lists) c.args.options.now (length c.args.payload.now))
    c.in-Some.ensures.taken c.in-Some.ensures.left c.is_state_walked.ensures.bounded
    (c.loop-state.invariant.owing means made lists have)) in
    omega (arith, spent, c.is_part_passed.ensures.bounded_in_parts means made lists (gone.have lists None have))

pub is_passed_from-returns-clause-right : goal.is_passed_from-returns-clause-right
is_passed_from-returns-clause-right g t c = λ means made.
    let gone = c.loop-state.invariant.gone means made in
    IfOk-weaker c.is_passed_after.result _ _
    (λ passed told. (
      λ yes. gone.sound (told.0 yes),
      λ m. told.1 (gone_all means c.args.payload.now c.args.options.now c.args.states c.loop-state.left c.loop-state.after.states c.in_default.ensures.empty gone m),
    ))
    (c.is_passed_after.ensures.right means made)

pub is_passed_from-returns-clause-bounded : goal.is_passed_from-returns-clause-bounded
is_passed_from-returns-clause-bounded g t c = λ means made lists listed have few.
    let gone = c.loop-state.invariant.gone means made in
    sum_of_lists (length lists) (visits_of (upto_extraction c.args.options.now) (length c.args.payload.now))
    (visits_of (after_extraction c.args.options.now) (length c.args.payload.now))
    (visits_of c.args.options.now (length c.args.payload.now))
    c.args.visits.now c.loop-state.visits c.is_passed_after.new.visits
    (visits_split c.args.options.now (length c.args.payload.now))
    (counted_end (visits_of (upto_extraction c.args.options.now) (length c.args.payload.now)) lists
    c.loop-state.left c.args.visits.now c.loop-state.visits
    (c.loop-state.invariant.together means made lists listed have few))
    (c.is_passed_after.ensures.bounded means made lists listed (gone.have lists (Some listed) have) few)

pub is_passed_from-returns-clause-bounded_in_parts : goal.is_passed_from-returns-clause-bounded_in_parts
is_passed_from-returns-clause-bounded_in_parts g t c = λ means made lists have.
    let gone = c.loop-state.invariant.gone means made in
    let alone : ((q : List ℕ) → places_at c.loop-state.after.states q ≡ None)
    → c.is_passed_after.new.visits ≤ c.loop-state.visits = λ none.
    let spent =
    c.is_passed_after.ensures.bounded_in_parts means made []
    (each_nowhere (Contains [])
    (λ v p. IsListed None v p × HasValues means c.args.payload.now [] None (after_extraction c.args.options.now) (point v p))
    c.loop-state.after.states none) in
    omega (arith, spent)
    in
    owing_end (visits_apart (length lists) c.args.options.now (length c.args.payload.now))
    (length lists * visits_apart (length lists) (after_extraction c.args.options.now) (length c.args.payload.now)) lists
    c.loop-state.left c.loop-state.after.states c.args.visits.now c.loop-state.visits c.is_passed_after.new.visits
    (c.is_passed_after.ensures.bounded_in_parts means made lists (gone.have lists None have)) alone
    (c.loop-state.invariant.owing means made lists have)
