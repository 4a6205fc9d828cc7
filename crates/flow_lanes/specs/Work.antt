-- How many visits of payloads the items of a job take at most.
--
-- A visit is a place at which a content is compared, or from which another option is asked; the most of one rule on one
-- payload are those of option_eval specs/Values. Of each item its candidates alone are tried, each once.
-- To try it on: a job that flushes a stretch of 100 bytes and has a packet of 50, each with one candidate that has one
-- content, takes at most 101 and 51 visits, 152 in all.
use Rattle.std.specs.Prelude.{ℕ, ◌≤◌, List, Option, length, sum_by}
use Rattle.edge_io.specs.declared.pattern.Span.{Span}
use Rattle.edge_io.specs.Along.{within}
use Rattle.conf_types.specs.declared.config.StreamConfig.{StreamConfig}
use Rattle.rule_types.specs.declared.rule.Rule.{Rule}
use Rattle.fast_pattern.specs.Candidates.{candidates}
use Rattle.option_eval.specs.Places.{Means}
use Rattle.option_eval.specs.RuleSet.{Rules}
use Rattle.rule_eval.specs.declared.item.Item.{Item}
use Rattle.rule_eval.specs.Work.{visits_among}
use Rattle.flow_lanes.specs.declared.job.Job.{Job}
use Rattle.flow_lanes.specs.Flows.{Detection, items, same_flow}
use Rattle.flow_lanes.specs.LanesAfter.{DetectsBy, LaneState, IsAfter}

-- the visits of an item: the sum of those of its candidates
abbrev pub visits_on : List Rule → Item → ℕ
visits_on rules item = visits_among rules (length item.payload) (candidates rules item.head.body item.payload)

-- the visits of items, one after another
abbrev pub visits_over : List Rule → List Item → ℕ
visits_over rules items = sum_by (visits_on rules) items

-- the visits of the items of a job, after the earlier jobs of its flow; and after all earlier jobs
unfoldable pub visits : Detection → List Job → Job → ℕ
visits d earlier job = visits_over d.trying.rules (items d earlier job)

abbrev pub answer_visits : Detection → List Job → Job → ℕ
answer_visits d = within same_flow (visits d)

-- the visits of a job are few: whatever jobs the lane stood for, they are no more than its items may take
abbrev pub CountsVisits : {P : Type 0} → (P → List ℕ → Option Span) → StreamConfig → Rules P → LaneState → Job → ℕ → Type 0
CountsVisits finds stream set old job count =
    (means : Means) (d : Detection) (before : List Job) → DetectsBy finds means stream set d → IsAfter d old before
    → count ≤ answer_visits d before job
