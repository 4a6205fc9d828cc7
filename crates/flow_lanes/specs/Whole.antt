-- One job, by what is kept of flows before it and after it.
--
-- To try it on: the end of a flow gives the streams of its session, and nothing is kept of the flow then.
use Rattle.std.specs.Prelude.{◌≡◌, ℕ, List, Option, Some, option_and_then, option_map, if◌then◌else◌}
use Rattle.edge_io.specs.declared.moment.Moment.{Moment}
use Rattle.rule_eval.specs.Hits.{Trying}
use Rattle.flow_lanes.specs.declared.job.Work.{Work}
use Rattle.flow_lanes.specs.Engines.{Making}
use Rattle.flow_lanes.specs.Flows.{FlowState, flow_of_work, same_number, session_at_hand, state_after, work_items}
use Rattle.flow_lanes.specs.Given.{Inspection}
use Rattle.flow_lanes.specs.Items.{JobItems}
use Rattle.flow_lanes.specs.Kept.{kept_in}
use Rattle.flow_lanes.specs.Sound.{FlowFacts, facts_after_work}
use Rattle.flow_lanes.specs.LanesAfter.{KeptFlow, facts_kept, state_kept}
use Rattle.flow_lanes.specs.Tried.{ByTest, Gain, SoFar, Tallied, of_job}

-- what a job finds of its flow
abbrev pub found_for : List (ℕ × KeptFlow) → Work → Option FlowState
found_for flows w = option_and_then (λ flow. state_kept (kept_in flows flow)) (flow_of_work w)

abbrev pub known_for : List (ℕ × KeptFlow) → Work → Option FlowFacts
known_for flows w = option_and_then (λ flow. facts_kept (kept_in flows flow)) (flow_of_work w)

-- the items of the job
abbrev pub items_for : Making → Moment → Work → List (ℕ × KeptFlow) → JobItems
items_for making moment w flows = work_items making moment w (session_at_hand (found_for flows w))

-- what is kept of a flow after the job, where this was: only the job's own flow goes on
abbrev pub kept_by : Making → Trying → Moment → Work → Option KeptFlow → Option KeptFlow
kept_by making trying moment w kept =
    option_map (λ (facts : FlowFacts). record {
      facts = facts;
      found = state_after trying (work_items making moment w (session_at_hand (state_kept kept))) (state_kept kept);
    }) (facts_after_work (facts_kept kept) moment w)

-- what the job's items give
abbrev pub gain_for : Making → Moment → Work → List (ℕ × KeptFlow) → Gain
gain_for making moment w flows = of_job (items_for making moment w flows) (found_for flows w)

-- with these rules, this is kept of each flow after a job
abbrev pub KeepsBy : Trying → Making → Moment → Work → List (ℕ × KeptFlow) → List (ℕ × KeptFlow) → Type 0
KeepsBy trying making moment w old new =
    (flow : ℕ) → kept_in new flow ≡ (if same_number (Some flow) (flow_of_work w)
    then kept_by making trying moment w (kept_in old flow) else kept_in old flow)

-- the job is done: what is found of its items, what is then kept of each flow, by any rules that tell what the set's
-- patterns find, and what is known of each flow
pub record IsDone {P : Type 0} (by : Inspection P) (making : Making) (moment : Moment) (w : Work)
    (old new : List (ℕ × KeptFlow)) (given : SoFar) : Type 0 where
  pub tallied : Tallied by (gain_for making moment w old) given
  pub flows : ByTest by (λ trying. KeepsBy trying making moment w old new)
  pub facts : (flow : ℕ) → facts_kept (kept_in new flow)
      ≡ (if same_number (Some flow) (flow_of_work w) then facts_after_work (facts_kept (kept_in old flow)) moment w
      else facts_kept (kept_in old flow))
