-- The options left are the first and those after it: one that stops the
-- reader is the fault of all, and after the last only blanks may follow.
use Rattle.std.proofs.Common.{true, false}
use Rattle.std.proofs.lemmas.Result.{err_from_is_err_and}
use Rattle.rule_parser.proofs.Naming.{begins_begins}
use Rattle.rule_parser.proofs.Lines.Parting.{options-next, options-stop, options-end}
use Rattle.rule_parser.proofs.line.read_options.Goals as goal

pub returns-in_err-rule_option-clause-gives : goal.returns-in_err-rule_option-clause-gives
returns-in_err-rule_option-clause-gives c =
    let p = err_from_is_err_and c.from_residual.result c.from_residual.ensures.1 in
    rw (p.1, p.2)
    (options-stop c.args.classes.now c.in_err-rule_option.field-0.0 _ c.loop-text.bits c.rule_option.new.bits c.loop-text.draft
    c.loop-text.rest.now c.in-Some.text.now c.in-Some.after.now c.left_from.result
    c.loop-text.invariant.so_far c.left_from.ensures c.in-Some.ensures c.in_err-rule_option.ensures.gives)

pub loop-text-preserved : goal.loop-text-preserved
loop-text-preserved c = record {
  so_far =
      options-next c.args.classes.now _ c.loop-text.bits c.rule_option.new.bits c.loop-text.draft c.rule_option.new.draft
      c.loop-text.rest.now c.in-Some.text.now c.in-Some.after.now c.left_from.result
      c.loop-text.invariant.so_far c.left_from.ensures c.in-Some.ensures c.in_ok-rule_option.ensures.gives;
  begins = begins_begins _ c.loop-text.bits _ c.loop-text.invariant.begins c.rule_option.ensures.begins;
}

pub returns-then-not-are_blank-clause-gives : goal.returns-then-not-are_blank-clause-gives
returns-then-not-are_blank-clause-gives c =
    options-end c.args.classes.now _ c.loop-text.bits c.loop-text.draft c.loop-text.rest.now false c.loop-text.invariant.so_far c.in_default.ensures c.if-not-are_blank.ensures

pub returns-clause-gives : goal.returns-clause-gives
returns-clause-gives c =
    options-end c.args.classes.now _ c.loop-text.bits c.loop-text.draft c.loop-text.rest.now true c.loop-text.invariant.so_far c.in_default.ensures c.if-not-are_blank.ensures
