-- A header that is wrong is the fault of the line; after one that
-- is right the line means what `rule_body` makes of the rest.
use Rattle.std.proofs.Common.{ℕ, List, subst}
use Rattle.std.proofs.lemmas.Result.{err_from_is_err_and}
use Rattle.rule_parser.specs.Bits.{GivesWith}
use Rattle.rule_parser.specs.RuleLine.{rule_body}
use Rattle.rule_parser.proofs.Lines.Reading.{line-body, line-header}
use Rattle.rule_parser.proofs.line.rule_of.Goals as goal

pub returns-in_err-header-clause-meant : goal.returns-in_err-header-clause-meant
returns-in_err-header-clause-meant c =
    let p = err_from_is_err_and c.from_residual.result c.from_residual.ensures.1 in
    rw (p.1, p.2)
    (line-header c.args.vars.now c.args.classes.now c.args.bits.now c.args.bits.now c.args.line.now c.in_err-header.field-0.0 (c.in_err-header.ensures c.args.line.now c.cut-texts.ensures.texts))

pub returns-clause-meant : goal.returns-clause-meant
returns-clause-meant c =
    let At : List ℕ → Type 0 = λ text. GivesWith c.rule_body.result c.rule_body.new.bits (rule_body c.args.classes.now c.args.bits.now c.in_ok-header.header text) in
    line-body c.args.vars.now c.args.classes.now c.args.bits.now c.rule_body.new.bits c.args.line.now c.in_ok-header.header c.rule_body.result
    (c.in_ok-header.ensures c.args.line.now c.cut-texts.ensures.texts) (subst At c.cut-texts.ensures.texts.options c.rule_body.ensures.gives)
