-- The first `size` bytes are what the header tells, so that what is read of them is one record (`whole-record`); where that
-- is refused, the bytes begin with none, whatever follows them (`whole-foreign`).
use Rattle.std.proofs.Common.{subst, take}
use Rattle.unified2_out.specs.Reading.{IsCauseOf}
use Rattle.snort_eve.proofs.FrontSteps.{whole-record, whole-foreign}
use Rattle.snort_eve.proofs.records.push_whole.Goals as goal

pub returns-in-Ok : goal.returns-in-Ok
returns-in-Ok c = whole-record c.args.bytes.now c.args.size _ _ c.requires.0 c.requires.1 c.requires.2 c.in-Ok.ensures.read

pub returns-in-Err-Bad : goal.returns-in-Err-Bad
returns-in-Err-Bad c = (
  whole-foreign c.args.bytes.now c.args.size _ c.requires.0 c.requires.1 c.requires.2
      (subst (IsCauseOf (take c.args.size c.args.bytes.now)) c.in-Err-Bad.field-0-is c.in-Err-Bad.ensures.refused),
  c.in-Err-Bad.ensures.unchanged,
)
