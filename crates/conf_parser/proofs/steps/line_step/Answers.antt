-- A line's meaning says how the reading goes on after it; a file that
-- it includes may be read, as its name is UTF-8 where this file's is.
use Rattle.std.proofs.Common.{ap}
use Rattle.conf_parser.proofs.Included.{given_may}
use Rattle.conf_parser.proofs.LineSteps.{spot_of, step-ok, step-err}
use Rattle.conf_parser.proofs.steps.line_step.Goals as goal

pub given_next-requires : goal.given_next-requires
given_next-requires c =
    given_may (spot_of c.args.source.now c.args.read) c.args.read.settings c.args.line.now.text c.in-Ok.after
    (rw (← c.bytes.ensures, ← c.as_slice.ensures, ← c.bytes-2.ensures) c.in-Ok.ensures)
    c.requires

pub returns-in_ok-next-in-Ok-clause-steps : goal.returns-in_ok-next-in-Ok-clause-steps
returns-in_ok-next-in-Ok-clause-steps c =
    step-ok c.args.source.now c.args.line.now c.args.read c.in-Ok.after c.in_ok-next-in-Ok.next
    (rw (← c.bytes.ensures, ← c.as_slice.ensures, ← c.bytes-2.ensures) c.in-Ok.ensures)
    c.in_ok-next-in-Ok.ensures.next

pub returns-in-Err-clause-steps : goal.returns-in-Err-clause-steps
returns-in-Err-clause-steps c =
    rw c.line_stop.ensures
    (step-err c.args.source.now c.args.line.now c.args.read c.in-Err.stop
    (rw (← c.bytes.ensures, ← c.as_slice.ensures, ← c.bytes-2.ensures) c.in-Err.ensures))
