-- Jobs that are numbered on, where the next one is added or not.
use Rattle.std.proofs.Common.{◌≡◌, ℕ, ◌+◌, Bool, true, false, List, [], ◌∷◌, ◌++◌, length, cond, sym, subst}
use Rattle.flow_lanes.specs.declared.job.Job.{Job}
use Rattle.flow_lanes.specs.Course.{AreFrom, IsPlain}
use Rattle.flow_lanes.proofs.Course.{AreFrom-more}

pub pushed : (added : Bool) (first : ℕ) (old new : List Job) (job : Job)
    → AreFrom first old
    → IsPlain job
    → job.number ≡ first + length old
    → new ≡ cond added (old ++ job ∷ []) old
    → AreFrom first new
pushed true first old new job are plain number is = AreFrom-more first old new job are plain number is
pushed false first old new job are plain number is = subst (λ (jobs : List Job). AreFrom first jobs) (sym is) are
