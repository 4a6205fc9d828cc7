-- Jobs that are numbered on from those of a course are sound after it and next to be taken; with them it is a course of as
-- many jobs more (`course_goes_on`).
use Rattle.std.proofs.Common.{arith, sym, subst}
use Rattle.flow_lanes.specs.LanesAfter.{AreSoundFor}
use Rattle.flow_lanes.proofs.Course.{course_goes_on, course_next, course_sound}
use Rattle.layer_rows.proofs.batches.run_batch.Goals as goal

pub batch-requires-clause-sound : goal.batch-requires-clause-sound
batch-requires-clause-sound g c κs within = λ working.
    subst (λ engines. AreSoundFor engines c.args.lanes.now c.args.jobs.now) (sym c.requires.engines)
    (course_sound c.args.lanes.now c.args.progress.jobs c.args.jobs.now c.requires.course c.requires.jobs (omega arith))

pub batch-requires-clause-next : goal.batch-requires-clause-next
batch-requires-clause-next g c κs within = λ working. course_next c.args.lanes.now c.args.progress.jobs c.args.jobs.now c.requires.course c.requires.jobs

pub returns-in-Ok : goal.returns-in-Ok
returns-in-Ok g c = course_goes_on c.args.lanes.now c.batch.new.self c.args.progress.jobs c.args.jobs.now c.requires.course c.requires.jobs c.in-Ok.ensures.learns
