-- Which record each job of a batch was made of.
--
-- The records of a batch are kept until its alerts are written, and for each of its jobs the place of its
-- record (alert_lines specs/Sourcing). The last record is kept for the flows that end with a capture.
-- To try it on: of two records of which the first has two jobs and the second one, the places are 0, 0 and 1.
use Rattle.std.specs.Prelude.{◌≡◌, ℕ, List, fold}
use Rattle.flow_lanes.specs.declared.job.Job.{Job}
use Rattle.record_jobs.specs.Way.{LinkedRecord, Way as JobsWay}
use Rattle.record_jobs.specs.Jobs.{jobs}
use Rattle.record_jobs.specs.Fronts.{FrontState, IsFrontAfter}
use Rattle.alert_lines.specs.Beside.{Beside, places_along}

-- the last of these records, or this one where there is none
abbrev pub last_after : LinkedRecord → List LinkedRecord → LinkedRecord
last_after last records = fold (λ _ r. r) last records

-- a job, beside its record
abbrev pub Sourced : Type 0
Sourced = Beside LinkedRecord Job

-- whatever records came before, these are the places of the jobs of these records
abbrev pub PlacesJobs : JobsWay → List LinkedRecord → FrontState → List ℕ → Type 0
PlacesJobs way records old places =
    (before : List LinkedRecord) → IsFrontAfter way old before → places ≡ places_along (jobs way) before 0 records
