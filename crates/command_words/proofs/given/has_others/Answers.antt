-- Whether the words gave an id that may not be used beside `--read-unified2` is the same of the ids that are left, past each
-- that may be used or wasn't given; of no ids it is false.
use Rattle.std.proofs.Common.{rules, ◌∙◌, sym, ap, List}
use Rattle.clap.specs.Matches.{found_of, ids_left}
use Rattle.clap.specs.Walk.{Row, Text, rows_of}
use Rattle.command_words.proofs.Ids.{at_end, at_first, at_other, past_beside, past_default}
use Rattle.command_words.proofs.given.has_others.Goals as goal
use Rattle.command_words.proofs.given.has_others.Goals.{else-not-may_be_beside-via-then-not-may_be_beside+else-is_given, else-not-may_be_beside-via-else-not-may_be_beside}

pub loop-id-init : goal.loop-id-init
loop-id-init c = record {
  can = search rules;
  finite = search rules;
  same = at_first (found_of c.args.matches.now) (ids_left c.into_iter-id-iterator.result)
      (ap ids_left c.into_iter-id-iterator.ensures.into_iter_gives ∙ c.ids-id-items.ensures);
}

pub returns-then-is_given : goal.returns-then-is_given
returns-then-is_given c =
    let rows : List Row = rows_of (found_of c.args.matches.now) in
    sym (c.loop-id.invariant.same
    ∙ at_other rows (ids_left c.loop-id.id-iterator) (ids_left c.next.new.self) c.in-Some.id.now c.in-Some.ensures.steps.0 c.in-Some.ensures.steps.1
    (sym c.may_be_beside.ensures ∙ c.if-not-may_be_beside.true) (sym c.is_given.ensures ∙ c.if-is_given.true))

pub loop-id-preserved : goal.loop-id-preserved
loop-id-preserved c =
    let rows : List Row = rows_of (found_of c.args.matches.now) in
    let left : List Text = ids_left c.loop-id.id-iterator in
    let later : List Text = ids_left c.next.new.self in
    record {
      can = search rules;
      finite = search rules;
      same = c.loop-id.invariant.same ∙ elim c.else-not-may_be_beside.branch [
        | else-not-may_be_beside-via-then-not-may_be_beside+else-is_given w ↦
            past_default rows left later c.in-Some.id.now c.in-Some.ensures.steps.0 c.in-Some.ensures.steps.1 (sym w.is_given.ensures ∙ w.if-is_given.false)
        | else-not-may_be_beside-via-else-not-may_be_beside w ↦
            past_beside rows left later c.in-Some.id.now c.in-Some.ensures.steps.0 c.in-Some.ensures.steps.1 (sym c.may_be_beside.ensures ∙ w.if-not-may_be_beside.false)
      ];
    }

pub returns : goal.returns
returns c =
    sym (c.loop-id.invariant.same
    ∙ at_end (rows_of (found_of c.args.matches.now)) (ids_left c.loop-id.id-iterator) c.in-None.ensures.steps.0)
