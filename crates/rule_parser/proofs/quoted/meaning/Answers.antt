-- Each byte gives its part, and the end of the text gives the last.
use Rattle.std.proofs.Common.{◌∙◌, sym, arith}
use Rattle.rule_parser.proofs.Quoting.{meaning-whole, meaning-next}
use Rattle.rule_parser.proofs.quoted.meaning.Goals as goal

pub returns : goal.returns
returns c =
    meaning-whole c.args.style c.loop-byte.place c.args.text.now c.loop-byte.out.items c.from_vec.result c.loop-byte.byte-index c.end_step.result c.in-Some-end_step.step
    c.loop-byte.invariant (omega (arith, c.loop-byte-test.false)) c.end_step.ensures c.in-Some-end_step.is (c.from_vec.ensures ∙ c.in_ok-push_step-2.ensures)

pub loop-byte-preserved : goal.loop-byte-preserved
loop-byte-preserved c =
    meaning-next c.args.style c.loop-byte.place c.args.text.now c.loop-byte.out.items c.push_step.new.out.items c.loop-byte.byte-index c.in-Some.step
    c.loop-byte.invariant c.loop-byte-test.true (sym c.in-Some.ensures) c.in_ok-push_step.ensures
