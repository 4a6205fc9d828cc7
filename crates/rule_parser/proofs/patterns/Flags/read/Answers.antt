-- A letter that is refused ends the flags with its fault.
use Rattle.std.proofs.Common.{◌∙◌, sym, arith}
use Rattle.std.proofs.lemmas.Result.{err_from_is_err_and}
use Rattle.rule_parser.proofs.Flagging.{flags_of-stop}
use Rattle.rule_parser.proofs.patterns.Flags.read.Goals as goal

pub returns-in_err-flags : goal.returns-in_err-flags
returns-in_err-flags c =
    let p = err_from_is_err_and c.from_residual.result c.from_residual.ensures.1 in
    rw (p.1, p.2) (sym (c.loop-letter.invariant ∙ flags_of-stop c.loop-letter.flags c.in_err-flags.field-0.0 c.args.letters.now c.loop-letter.letter-index (omega arith) (sym c.in_err-flags.ensures)))
