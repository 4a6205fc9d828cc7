-- The answers to a flow's jobs are those that they have alone: so in every order of the jobs that keeps the
-- order within each flow, each job has the same answer.
use Rattle.std.proofs.Common.{◌≡◌, ℕ, ◌==◌, true, List, [], map, Option, Some, None, sym, ap, ◌∙◌, arith}
use Rattle.std.proofs.lemmas.Bool.{false≢true}
use Rattle.std.proofs.lemmas.Bool.Decides.{nat_tests}
use Rattle.std.specs.List.{filter}
use Rattle.edge_io.specs.Along.{IsByClass, IsLocal, along_from, told}
use Rattle.edge_io.proofs.Along.{along_from-class, within-local}
use Rattle.flow_lanes.specs.declared.job.Job.{Job}
use Rattle.flow_lanes.specs.Flows.{Detection, answer, answer_tries, flow_of, hits, same_flow, same_number, tries}
use Rattle.flow_lanes.specs.LanesAfter.{answers_of_flow, is_in_lane, is_of_flow, lane_of}

-- an answer looks at the jobs of its own flow alone
pub answer-local : (d : Detection) → IsLocal same_flow (answer d)
answer-local d = within-local same_flow (hits d)

pub tries-local : (d : Detection) → IsLocal same_flow (answer_tries d)
tries-local d = within-local same_flow (tries d)

-- two flows that are one are the same against any flow
same_number-keeps : (flow : ℕ) (a b : Option ℕ) → same_number a b ≡ true → same_number (Some flow) a ≡ same_number (Some flow) b
same_number-keeps flow (Some a) (Some b) is = grind (arith, nat_tests)
same_number-keeps flow (Some a) None is = absurd (false≢true is)
same_number-keeps flow None b is = absurd (false≢true is)

-- a test of the flow keeps all jobs of a flow or none
pub is_of_flow-by_class : (flow : ℕ) → IsByClass same_flow (is_of_flow flow)
is_of_flow-by_class flow x y is = same_number-keeps flow (flow_of x) (flow_of y) is

-- the answers to a flow's jobs are the answers to these jobs alone
pub answers_of_flow-alone : (d : Detection) (flow : ℕ) (jobs : List Job) → answers_of_flow d flow jobs ≡ along_from (answer d) [] (filter (is_of_flow flow) jobs)
answers_of_flow-alone d flow jobs = sym (along_from-class same_flow (is_of_flow flow) (answer d) (answer-local d) (is_of_flow-by_class flow) [] jobs)

-- the answers to a flow's jobs are the same in every order that keeps the order of the flow's jobs
pub answers_of_flow-any_order : (d : Detection) (flow : ℕ) (xs ys : List Job) → filter (is_of_flow flow) xs ≡ filter (is_of_flow flow) ys → answers_of_flow d flow xs ≡ answers_of_flow d flow ys
answers_of_flow-any_order d flow xs ys same = answers_of_flow-alone d flow xs ∙ ap (along_from (answer d) []) same ∙ sym (answers_of_flow-alone d flow ys)

-- two flows that are one are in one lane
lane_of-keeps : (count place : ℕ) (a b : Option ℕ) → same_number a b ≡ true → (lane_of count a == place) ≡ (lane_of count b == place)
lane_of-keeps count place (Some a) (Some b) is =
    let same : a ≡ b = grind (arith, nat_tests) in
    ap (λ flow. lane_of count (Some flow) == place) same
lane_of-keeps count place (Some a) None is = absurd (false≢true is)
lane_of-keeps count place None b is = absurd (false≢true is)

-- a test of the lane keeps all jobs of a flow or none
pub is_in_lane-by_class : (count place : ℕ) → IsByClass same_flow (is_in_lane count place)
is_in_lane-by_class count place x y is = lane_of-keeps count place (flow_of x) (flow_of y) is

-- the answers to the jobs of one lane, among those to all jobs, are the answers to these jobs alone
pub answers_of_lane-alone : (d : Detection) (count place : ℕ) (before jobs : List Job)
    → map (λ p. p.1) (filter (λ p. is_in_lane count place p.0) (along_from (told (answer d)) before jobs))
    ≡ along_from (answer d) (filter (is_in_lane count place) before) (filter (is_in_lane count place) jobs)
answers_of_lane-alone d count place before jobs = sym (along_from-class same_flow (is_in_lane count place) (answer d) (answer-local d) (is_in_lane-by_class count place) before jobs)
