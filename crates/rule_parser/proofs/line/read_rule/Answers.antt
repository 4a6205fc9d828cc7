-- A line has one meaning, so any meaning of it is what was answered; a
-- rule that is read is sound, as at most 1024 names were there before.
use Rattle.std.proofs.Common.{◌≤◌, Ok, Err, length, ap, arith}
use Rattle.rule_parser.specs.Faults.{stop_fault}
use Rattle.rule_parser.proofs.Lines.Meaning.{answers-as}
use Rattle.rule_parser.proofs.Lines.Reading.{line-sound, line-stopped}
use Rattle.rule_parser.proofs.line.read_rule.Goals as goal

pub returns-in-Ok-clause-only : goal.returns-in-Ok-clause-only
returns-in-Ok-clause-only c = answers-as c.args.vars.now c.args.classes.now c.args.bits.now c.args.line.now (Ok c.in-Ok.rule) c.rule_of.new.bits c.in-Ok.ensures.meant

pub returns-in-Ok-clause-sound : goal.returns-in-Ok-clause-sound
returns-in-Ok-clause-sound c =
    let few : length c.args.bits.now ≤ 1024 = omega (arith, ap length c.as_slice-before.ensures.value, c.as_slice-before.ensures.within) in
    line-sound c.args.vars.now c.args.classes.now c.args.bits.now c.rule_of.new.bits c.args.line.now c.in-Ok.rule few c.in-Ok.ensures.meant

pub returns-in-Err-clause-only : goal.returns-in-Err-clause-only
returns-in-Err-clause-only c = rw c.stop_fault.ensures
    (answers-as c.args.vars.now c.args.classes.now c.args.bits.now c.args.line.now (Err (stop_fault (length c.args.line.now) c.in-Err.stop)) c.args.bits.now
    (line-stopped c.args.vars.now c.args.classes.now c.args.bits.now c.rule_of.new.bits c.args.line.now c.in-Err.stop c.in-Err.ensures.meant))
