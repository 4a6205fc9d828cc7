-- New lanes are after a course of no job, so that jobs that are numbered from 0 on are sound for them (`course_sound`)
-- and next (`course_next`).
use Rattle.std.proofs.Common.{arith, sym, subst}
use Rattle.flow_lanes.specs.LanesAfter.{AreSoundFor}
use Rattle.flow_lanes.proofs.Course.{course_next, course_sound}
use Rattle.layer_tests.proofs.lanes.first_fault.Goals as goal

pub batch-requires-clause-sound : goal.batch-requires-clause-sound
batch-requires-clause-sound g c κs within = λ working.
    subst (λ engines. AreSoundFor engines c.args.lanes.now c.args.jobs.now) (sym c.requires.engines)
    (course_sound c.args.lanes.now 0 c.args.jobs.now c.requires.course c.requires.jobs (omega arith))

pub batch-requires-clause-next : goal.batch-requires-clause-next
batch-requires-clause-next g c κs within = λ working. course_next c.args.lanes.now 0 c.args.jobs.now c.requires.course c.requires.jobs
