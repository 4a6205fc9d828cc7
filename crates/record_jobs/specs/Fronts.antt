-- What a front keeps, and which records it stands for.
--
-- To try it on: a front that stands for two fragments of one datagram, of which the second completed it,
-- keeps no fragment, and the moments of the two records.
use Rattle.std.specs.Prelude.{◌≡◌, ℕ, List, [], ◌∷◌, ◌++◌, Option, All}
use Rattle.edge_io.specs.Along.{trail}
use Rattle.edge_io.specs.declared.moment.Moment.{Moment}
use Rattle.frag3_core.specs.Trackers.{Frag3State}
use Rattle.stream5_sessions.specs.Caches.{FlowsState, HasSeen}
use Rattle.flow_lanes.specs.declared.job.Job.{Job}
use Rattle.record_jobs.specs.declared.counts.RecordCounts.{RecordCounts}
use Rattle.record_jobs.specs.Counts.{counts}
use Rattle.record_jobs.specs.Jobs.{begin_of, end_of, finishes, job_count, jobs}
use Rattle.record_jobs.specs.Packets.{frag3_after}
use Rattle.record_jobs.specs.Ready.{HasShortData}
use Rattle.record_jobs.specs.Touches.{most_flows, touches}
use Rattle.record_jobs.specs.Way.{LinkedRecord, Way}

-- the fragments that wait, where fragments are put together; the flows; the moments of the first and of the
-- last record; the number of the next job; and the counts
pub record FrontState : Type 0 where
  pub frag3 : Option Frag3State
  pub flows : FlowsState
  pub begin : Option Moment
  pub last : Moment
  pub next : ℕ
  pub counts : RecordCounts

-- the front stands for these records
pub record IsFrontAfter (way : Way) (front : FrontState) (before : List LinkedRecord) : Type 0 where
  pub frag3 : front.frag3 ≡ frag3_after way before
  pub flows : HasSeen front.flows (touches way before)
  pub most : front.flows.max ≡ most_flows way.stream
  pub begin : front.begin ≡ begin_of before
  pub last : front.last ≡ end_of before
  pub next : front.next ≡ job_count way before
  pub counts : front.counts ≡ counts way before
  -- no packet has more data than a datagram
  pub short : All HasShortData (trail (jobs way) before)

-- a record was taken after these records: its jobs were added, and the front stands for one record more
pub record HasTaken (way : Way) (before : List LinkedRecord) (r : LinkedRecord) (new : FrontState)
    (jobs_old jobs_new : List Job) : Type 0 where
  pub added : jobs_new ≡ jobs_old ++ jobs way before r
  pub holds : IsFrontAfter way new (before ++ r ∷ [])

-- whatever records the front stood for, it took one more
abbrev pub TakesRecord : Way → FrontState → LinkedRecord → FrontState → List Job → List Job → Type 0
TakesRecord way old r new jobs_old jobs_new =
    (before : List LinkedRecord) → IsFrontAfter way old before → HasTaken way before r new jobs_old jobs_new

-- whatever records the front stands for, the jobs after them were added to the old list
abbrev pub GivesFinishes : FrontState → List Job → List Job → Type 0
GivesFinishes front jobs_old jobs_new =
    (way : Way) (before : List LinkedRecord) → IsFrontAfter way front before → jobs_new ≡ jobs_old ++ finishes way before

-- whatever records the front stands for, these are their counts
abbrev pub TellsCounts : FrontState → RecordCounts → Type 0
TellsCounts front told = (way : Way) (before : List LinkedRecord) → IsFrontAfter way front before → told ≡ counts way before
