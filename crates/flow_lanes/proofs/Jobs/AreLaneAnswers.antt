-- The answers of all lanes, in the order of the jobs, are those to the one list of jobs.
use Rattle.std.proofs.Common.{◌≡◌, ℕ, ◌<◌, List, length, Option, Some, None, refl, arith}
use Rattle.std.specs.List.{flat_map}
use Rattle.std.specs.List.Sorted.{IsPermutation}
use Rattle.edge_io.specs.Along.{AscendsBy, along_from}
use Rattle.flow_lanes.specs.declared.answer.JobHits.{JobHits}
use Rattle.flow_lanes.specs.declared.job.Job.{Job}
use Rattle.flow_lanes.specs.Flows.{Detection, answer, flow_of, hits, same_flow}
use Rattle.flow_lanes.specs.LanesAfter.{AreLaneAnswers, lane_of}
use Rattle.flow_lanes.proofs.Jobs.AnswersJoined.{answers_joined}
use Rattle.flow_lanes.proofs.Jobs.AnswersOfFlow.{answer-local, is_in_lane-by_class}

lane_of-below : (count : ℕ) (flow : Option ℕ) → 0 < count → lane_of count flow < count
lane_of-below count None some = some
lane_of-below count (Some flow) some = omega arith

-- an answer has its job's number
answer-number : (d : Detection) (before : List Job) (job : Job) → (answer d before job).number ≡ job.number
unfolding hits
answer-number d before job = refl

pub lanes-joined : (d : Detection) (before jobs : List Job) (parts : List (List JobHits)) → 0 < length parts → AreLaneAnswers d before jobs parts
    → AscendsBy (λ (job : Job). job.number) jobs → (merged : List JobHits) → IsPermutation (flat_map (λ part. part) parts) merged → AscendsBy (λ (entry : JobHits). entry.number) merged
    → merged ≡ along_from (answer d) before jobs
lanes-joined d before jobs parts some are ascend merged whole ascending =
    answers_joined same_flow (λ (job : Job). lane_of (length parts) (flow_of job)) (λ (job : Job). job.number) (λ (entry : JobHits). entry.number) (answer d)
    (answer-local d) (is_in_lane-by_class (length parts)) (answer-number d) before jobs parts (λ job. lane_of-below (length parts) (flow_of job) some) are ascend merged whole ascending
