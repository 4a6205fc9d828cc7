-- Which flows are open: those that have begun and not ended.
--
-- To try it on: after a packet of flow 0, a packet of flow 1 and the end of flow 0 the flow 1 alone is open;
-- after one more packet of flow 0 both are.
use Rattle.std.specs.Prelude.{ℕ, Bool, true, false, not, List, fold, if◌then◌else◌}
use Rattle.flow_lanes.specs.declared.job.Job.{Job}
use Rattle.flow_lanes.specs.declared.job.Work.{Work}
use Rattle.flow_lanes.specs.declared.job.Work.TheVariants as work
use Rattle.flow_lanes.specs.LanesAfter.{is_of_flow}

-- the work is the end of a flow
abbrev pub is_end : Work → Bool
is_end (work.Finish flow) = true
is_end _ = false

-- the flow is open after a job, where it was open or not before it
abbrev pub open_after : ℕ → Bool → Job → Bool
open_after flow was job = if is_of_flow flow job then not (is_end job.work) else was

-- the flow is open after these jobs: it has some among them, and the last of these isn't its end
abbrev pub is_open : ℕ → List Job → Bool
is_open flow jobs = fold (open_after flow) false jobs
