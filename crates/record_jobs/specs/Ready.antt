-- Jobs that lanes may run: each is sound after the earlier jobs of its flow, and their numbers ascend.
--
-- To try it on: the jobs of a capture's records, and those of its end after them, have the numbers 0, 1, 2
-- and so on, and each packet of a flow is between the ends of the flow's first packet.
use Rattle.std.specs.Prelude.{◌≡◌, ℕ, ◌^◌, ◌≤◌, ⊤, List, ◌∷◌, ◌++◌, Some, None, All, filter, fold, length, map}
use Rattle.std.specs.List.{range_with_len}
use Rattle.edge_io.specs.Along.{trail}
use Rattle.flow_lanes.specs.declared.job.Job.{Job}
use Rattle.flow_lanes.specs.declared.job.Work.{Work}
use Rattle.flow_lanes.specs.declared.job.Work.TheVariants as work
use Rattle.flow_lanes.specs.Flows.{same_flow}
use Rattle.flow_lanes.specs.Sound.{IsSoundFor, facts_after}
use Rattle.flow_lanes.specs.LanesAfter.{AreNext, AreSoundFor, LanesState, known_in}
use Rattle.record_jobs.specs.Jobs.{finishes, jobs}
use Rattle.record_jobs.specs.Way.{LinkedRecord, Way}

-- a packet of a flow has no more data than a datagram
abbrev pub HasShortWork : Work → Type 0
HasShortWork (work.Packet flow head payload to_dst to_src) = length payload ≤ 65535
HasShortWork other = ⊤

abbrev pub HasShortData : Job → Type 0
HasShortData job = HasShortWork job.work

-- all jobs of these records, and those after them
abbrev pub all_jobs : Way → List LinkedRecord → List Job
all_jobs way records = trail (jobs way) records ++ finishes way records

-- each of these jobs is sound after the earlier ones, where there are this many engines
abbrev pub AreSound : ℕ → List Job → Type 0
AreSound engines xs =
    (front : List Job) (job : Job) (rest : List Job) → xs ≡ front ++ job ∷ rest
    → IsSoundFor engines (facts_after None (filter (same_flow job) front)) job

-- each job's number is its place
abbrev pub AreNumbered : List Job → Type 0
AreNumbered xs = map (λ (job : Job). job.number) xs ≡ range_with_len 0 (length xs)

-- lanes know what there is to know of these jobs
pub record HaveLearnt (lanes : LanesState) (earlier : List Job) : Type 0 where
  pub known : (other : Job) → known_in lanes other ≡ facts_after None (filter (same_flow other) earlier)
  pub greatest : lanes.greatest ≡ fold (λ most (job : Job). Some job.number) None earlier

-- lanes may run a batch
pub record AreReady (engines : ℕ) (lanes : LanesState) (batch : List Job) : Type 0 where
  pub sound : AreSoundFor engines lanes batch
  pub next : AreNext lanes batch

-- The laws.

-- all jobs of at most 2 ^ 32 records are numbered by their places, and sound where their data are short
pub record AreInOrder (way : Way) (records : List LinkedRecord) : Type 0 where
  pub numbered : AreNumbered (all_jobs way records)
  pub sound : length records ≤ 2 ^ 32 → All HasShortData (trail (jobs way) records)
      → AreSound (length way.stream.engines) (all_jobs way records)
