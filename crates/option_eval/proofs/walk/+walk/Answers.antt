-- Options are gone through one at a time: an extraction leaves its states, any other leads the places on;
-- what is known of an option is taken out for its turn, and kept again where it leads alike from each state.
use Rattle.std.proofs.Common.{◌≡◌, ◌-◌, ◌+◌, ◌∷◌, true, List, length, arith, take, drop, map, refl, sym, ap, subst, ◌∙◌}
use Rattle.rule_types.specs.declared.option.Opt.{Opt}
use Rattle.option_eval.specs.Known.{is_free, AreKnown}
use Rattle.option_eval.specs.Next.{next_set}
use Rattle.option_eval.specs.Ready.{pattern_of}
use Rattle.option_eval.specs.RuleSet.{IsMade}
use Rattle.option_eval.specs.States.{Leaves}
use Rattle.option_eval.specs.Walks.{MatchesFromOne, visits_of, upto_extraction}
use Rattle.option_eval.proofs.Extractions.Knowing.{known_taken, rising_taken, turn_known, turn_rising, turn_others}
use Rattle.option_eval.proofs.Walks.Walking.{passed_none, walk_step, after_the_first, ready_after, extracts_nothing, not_extract}
use Rattle.option_eval.proofs.Extractions.Stepping.{walked_by, leaves_plain, visits_upto}
use Rattle.option_eval.proofs.walk.+walk.Goals as goal

pub is_walked-returns-in_default-clause-right : goal.is_walked-returns-in_default-clause-right
is_walked-returns-in_default-clause-right g t c = λ means made known.
    passed_none means c.args.at.now.payload.now c.args.options.now c.args.at.now.values.now c.args.at.now.places.now
    c.in_default.len_below c.args.at.now.some

pub is_walked-returns-in-ByteExtract-clause-right : goal.is_walked-returns-in-ByteExtract-clause-right
is_walked-returns-in-ByteExtract-clause-right g t c = λ means made known.
    let options = c.args.options.now in
    let later = take (length options - 1) (drop 1 options) in
    let o = c.option-item.result in
    let is = after_the_first options o c.in-len1-up.len_at_least c.option-item.is in
    subst (λ (xs : List Opt). Leaves means c.args.at.now.payload.now xs c.args.at.now.values.now c.args.at.now.places.now
    c.args.after.now.states c.extract.new.states)
    (sym (is ∙ ap (λ (x : Opt). x ∷ later) c.in-ByteExtract.is))
    (c.in_ok-extract.ensures.right means later c.names_read.ensures)

pub is_walked-returns-clause-right : goal.is_walked-returns-clause-right
is_walked-returns-clause-right g t c = λ means made known.
    let options = c.args.options.now in
    let later = take (length options - 1) (drop 1 options) in
    let o = c.option-item.result in
    let is = after_the_first options o c.in-len1-up.len_at_least c.option-item.is in
    let kept = c.kept-item.result in
    let made_later = take (length c.args.made.now - 1) (drop 1 c.args.made.now) in
    let made_is = after_the_first c.args.made.now kept c.in-len1-up-made.len_at_least c.kept-item.is in
    let finds =
    ready_after (IsMade g.P.Pattern.finds means) options later (map (pattern_of {P = g.row.P.Denot}) c.args.made.now)
    (map (pattern_of {P = g.row.P.Denot}) made_later) o
    (pattern_of {P = g.row.P.Denot} kept) is
    (ap (map (pattern_of {P = g.row.P.Denot})) made_is) made in
    let all = subst (λ (xs : List Opt). AreKnown means c.args.at.now.payload.now xs c.args.after.now.known) is known in
    let on =
    known_taken means c.args.at.now.payload.now later c.args.after.now.known c.next_known.new.known c.next_known.ensures.taken
    all.1 in
    let places = next_set c.in_ok-next.next c.args.at.now.places.now in
    let plain = not_extract o c.in_default-option.not-ByteExtract in
    let found = c.in_ok-next.ensures.found means finds.0 all.0 in
    let step =
    walk_step means c.args.at.now.payload.now o later c.args.at.now.values.now c.args.at.now.places.now places plain found in
    walked_by c.in_ok-walked.walked _ _ _ _ (c.in_ok-walked.ensures.right means finds.1 on)
    (λ m. subst
    (λ (xs : List Opt). MatchesFromOne means c.args.at.now.payload.now xs c.args.at.now.values.now c.args.at.now.places.now)
    (sym is) (step.1 m))
    (λ left. subst
    (λ (xs : List Opt). Leaves means c.args.at.now.payload.now xs c.args.at.now.values.now c.args.at.now.places.now
    c.args.after.now.states c.is_walked_from.new.after.states)
    (sym is)
    (leaves_plain means c.args.at.now.payload.now o later c.args.at.now.values.now c.args.at.now.places.now places plain
    c.args.after.now.states c.is_walked_from.new.after.states found left))

pub is_walked-returns-clause-known : goal.is_walked-returns-clause-known
is_walked-returns-clause-known g t c = λ means made known.
    let options = c.args.options.now in
    let later = take (length options - 1) (drop 1 options) in
    let o = c.option-item.result in
    let is = after_the_first options o c.in-len1-up.len_at_least c.option-item.is in
    let kept = c.kept-item.result in
    let made_later = take (length c.args.made.now - 1) (drop 1 c.args.made.now) in
    let made_is = after_the_first c.args.made.now kept c.in-len1-up-made.len_at_least c.kept-item.is in
    let finds =
    ready_after (IsMade g.P.Pattern.finds means) options later (map (pattern_of {P = g.row.P.Denot}) c.args.made.now)
    (map (pattern_of {P = g.row.P.Denot}) made_later) o
    (pattern_of {P = g.row.P.Denot} kept) is
    (ap (map (pattern_of {P = g.row.P.Denot})) made_is) made in
    let all = subst (λ (xs : List Opt). AreKnown means c.args.at.now.payload.now xs c.args.after.now.known) is known in
    subst (λ (xs : List Opt). AreKnown means c.args.at.now.payload.now xs c.keep.new.self) (sym is)
    (turn_known c.next_known.new.known c.is_walked_from.new.after.known c.keep.new.self c.args.after.now.known (length later)
    c.in_ok-next.next (is_free o ≡ true)
    c.next_known.ensures.taken c.in_ok-walked.ensures.kept.others c.keep.ensures.others c.keep.ensures.own means
    c.args.at.now.payload.now o later refl
    (λ on. c.in_ok-walked.ensures.known means finds.1 on) (λ free. c.in_ok-next.ensures.alike means finds.0 all.0 free) all)

pub is_walked-returns-clause-kept : goal.is_walked-returns-clause-kept
is_walked-returns-clause-kept g t c =
    let options = c.args.options.now in
    let later = take (length options - 1) (drop 1 options) in
    let o = c.option-item.result in
    let is = after_the_first options o c.in-len1-up.len_at_least c.option-item.is in
    record {
      rising = turn_rising c.next_known.new.known c.is_walked_from.new.after.known c.keep.new.self c.args.after.now.known (length later) c.in_ok-next.next (is_free o ≡ true)
          c.next_known.ensures.taken c.in_ok-walked.ensures.kept.others c.keep.ensures.others c.keep.ensures.own (length c.args.at.now.payload.now + 1) c.in_ok-next.ensures.rising
          c.in_ok-walked.ensures.kept.rising;
      others = λ other past. turn_others c.next_known.new.known c.is_walked_from.new.after.known c.keep.new.self c.args.after.now.known (length later) c.in_ok-next.next (is_free o ≡ true)
          c.next_known.ensures.taken c.in_ok-walked.ensures.kept.others c.keep.ensures.others c.keep.ensures.own other (omega (arith, ap length is, past));
    }

pub is_walked-is_walked_from-requires-clause-known_rising : goal.is_walked-is_walked_from-requires-clause-known_rising
is_walked-is_walked_from-requires-clause-known_rising g t c κs within =
    let options = c.args.options.now in
    let later = take (length options - 1) (drop 1 options) in
    rising_taken c.args.after.now.known c.next_known.new.known (length later) (length c.args.at.now.payload.now + 1) c.next_known.ensures.taken c.requires.known_rising

pub is_walked-returns-clause-nowhere : goal.is_walked-returns-clause-nowhere
is_walked-returns-clause-nowhere g t c = λ nothing.
    let options = c.args.options.now in
    let later = take (length options - 1) (drop 1 options) in
    let o = c.option-item.result in
    let is = after_the_first options o c.in-len1-up.len_at_least c.option-item.is in
    c.is_walked_from.ensures.nowhere (extracts_nothing options later o is nothing).1

pub is_walked-returns-clause-bounded : goal.is_walked-returns-clause-bounded
is_walked-returns-clause-bounded g t c =
    let options = c.args.options.now in
    let later = take (length options - 1) (drop 1 options) in
    let o = c.option-item.result in
    let is = after_the_first options o c.in-len1-up.len_at_least c.option-item.is in
    let plain = not_extract o c.in_default-option.not-ByteExtract in
    omega (
      arith,
      c.next_known.ensures.bounded,
      c.is_walked_from.ensures.bounded,
      visits_upto o later (length c.args.at.now.payload.now) plain,
      ap (λ (xs : List Opt). visits_of (upto_extraction xs) (length c.args.at.now.payload.now)) is,
    )

pub is_walked-returns-in_err-next-clause-bounded : goal.is_walked-returns-in_err-next-clause-bounded
is_walked-returns-in_err-next-clause-bounded g t c =
    let options = c.args.options.now in
    let later = take (length options - 1) (drop 1 options) in
    let o = c.option-item.result in
    let is = after_the_first options o c.in-len1-up.len_at_least c.option-item.is in
    let plain = not_extract o c.in_default-option.not-ByteExtract in
    omega (
      arith,
      c.next_known.ensures.bounded,
      visits_upto o later (length c.args.at.now.payload.now) plain,
      ap (λ (xs : List Opt). visits_of (upto_extraction xs) (length c.args.at.now.payload.now)) is,
    )

pub is_walked-returns-in_err-walked-clause-nowhere : goal.is_walked-returns-in_err-walked-clause-nowhere
is_walked-returns-in_err-walked-clause-nowhere g t c = λ nothing.
    let options = c.args.options.now in
    let later = take (length options - 1) (drop 1 options) in
    let o = c.option-item.result in
    let is = after_the_first options o c.in-len1-up.len_at_least c.option-item.is in
    c.is_walked_from.ensures.nowhere (extracts_nothing options later o is nothing).1

pub is_walked-returns-in_err-walked-clause-bounded : goal.is_walked-returns-in_err-walked-clause-bounded
is_walked-returns-in_err-walked-clause-bounded g t c =
    let options = c.args.options.now in
    let later = take (length options - 1) (drop 1 options) in
    let o = c.option-item.result in
    let is = after_the_first options o c.in-len1-up.len_at_least c.option-item.is in
    let plain = not_extract o c.in_default-option.not-ByteExtract in
    omega (
      arith,
      c.next_known.ensures.bounded,
      c.is_walked_from.ensures.bounded,
      visits_upto o later (length c.args.at.now.payload.now) plain,
      ap (λ (xs : List Opt). visits_of (upto_extraction xs) (length c.args.at.now.payload.now)) is,
    )
