-- A flow job by job: its items with all rules that match, and what its next job finds.
--
-- Between two jobs there is the session at hand, if there is one, with its bits. Bits begin empty with their
-- session (Snort Users Manual 2.9, section 3.6.10). What rules ask of reassembly (section 3.6,
-- `stream_reassemble`) is done after the job, item by item, rule by rule and option by option, and only
-- where the item's session is still there then; the last word on a side holds from the flow's next job on.
-- The answer to a job depends on the earlier jobs of its flow and on nothing else.
-- To try it on: a rule that matches a packet and disables the client's side leaves that packet's own data
-- queued; they are an item of the next job, and the data of that job are not queued.
use Rattle.std.specs.Prelude.{ℕ, ◌==◌, Bool, false, List, ◌++◌, Option, Some, None, fold, length, option_map, slice_get, sum_by, unwrap_or, if◌then◌else◌}
use Rattle.std.specs.Option.{option_map_or}
use Rattle.std.specs.FinSet.{empty}
use Rattle.edge_io.specs.declared.moment.Moment.{Moment}
use Rattle.edge_io.specs.Along.{within}
use Rattle.rule_types.specs.declared.option.Opt.{Opt}
use Rattle.rule_types.specs.declared.option.Opt.TheVariants as opt
use Rattle.rule_types.specs.declared.option.Side.{Side}
use Rattle.rule_types.specs.declared.option.Side.TheVariants as named
use Rattle.rule_types.specs.declared.rule.Rule.{Rule}
use Rattle.fast_pattern.specs.Candidates.{candidates}
use Rattle.rule_eval.specs.declared.item.Item.{Item}
use Rattle.rule_eval.specs.Hits.{Bits, Trying}
use Rattle.flow_lanes.specs.declared.answer.Hits.{Hits}
use Rattle.flow_lanes.specs.declared.answer.JobHits.{JobHits}
use Rattle.flow_lanes.specs.declared.job.Job.{Job}
use Rattle.flow_lanes.specs.declared.job.Work.{Work}
use Rattle.flow_lanes.specs.declared.job.Work.TheVariants as work
pub use Rattle.flow_lanes.specs.declared.keeping.FlowState.{FlowState}
pub use Rattle.flow_lanes.specs.declared.steering.SidesOn.{SidesOn}
use Rattle.flow_lanes.specs.Engines.{Making}
use Rattle.flow_lanes.specs.ItemHits.{bits_after_items, hits_of}
use Rattle.flow_lanes.specs.Items.{JobItems, alone_items, finish_items, packet_items}
use Rattle.flow_lanes.specs.Sessions.{FlowSession}
use Rattle.flow_lanes.specs.Sides.{turned}

-- what items are made by, and which rules are tried on them
pub record Detection : Type 0 where
  pub making : Making
  pub trying : Trying

-- The items of a job.

abbrev pub session_at_hand : Option FlowState → Option FlowSession
session_at_hand found = option_map (λ (s : FlowState). s.session) found

-- the items of a job that finds this session
abbrev pub work_items : Making → Moment → Work → Option FlowSession → JobItems
work_items making moment (work.Alone head payload) found = alone_items head payload
work_items making moment (work.Packet flow head payload to_dst to_src) found =
    packet_items making (record { head = head; payload = payload; moment = moment; to_dst = to_dst; to_src = to_src }) found
work_items making moment (work.Finish flow) found = finish_items moment found

-- Bits.

-- the bits of the session at hand
abbrev pub bits_at_hand : Option FlowState → Option Bits
bits_at_hand found = option_map (λ (s : FlowState). s.bits) found

-- the bits that the packet's items find: those of its session, and none set where it begins one
abbrev pub bits_found : JobItems → Option FlowState → Option Bits
bits_found items found =
    if items.tracked then Some (if items.begun then empty else unwrap_or (bits_at_hand found) empty) else None

-- What rules ask of reassembly.

-- a side that is named is turned on or off
abbrev pub with_side : Bool → Side → SidesOn → SidesOn
with_side on named.Client sides = record sides { client = on }
with_side on named.Server sides = record sides { server = on }
with_side on _ sides = record { client = on; server = on }

abbrev pub sides_after : SidesOn → Opt → SidesOn
sides_after sides (opt.Reassemble on side) = with_side on side sides
sides_after sides option = sides

-- the sides after a rule that matches, and after all rules that match an item
abbrev pub sides_after_rule : List Rule → SidesOn → ℕ → SidesOn
sides_after_rule rules sides place =
    option_map_or (λ (rule : Rule). fold sides_after sides rule.opts) (slice_get rules place) sides

abbrev pub sides_after_hit : List Rule → SidesOn → Hits → SidesOn
sides_after_hit rules sides hit = fold (sides_after_rule rules) sides hit.rules

-- the session as the changes of a job leave it: those of its own items in that job
unfoldable pub steered : List Rule → List Hits → FlowSession → FlowSession
steered rules hits session =
    let sides : SidesOn = fold (sides_after_hit rules) (record { client = session.client.on; server = session.server.on }) hits in
    record session { client = turned sides.client session.client; server = turned sides.server session.server }

-- One job.

-- the items of a job, in order
abbrev pub all_items : JobItems → List Item
all_items items = items.ended ++ items.current

-- a job's items with all rules that match: a session that has ended sees its own bits to its last item
unfoldable pub hits_in : Trying → JobItems → Option FlowState → List Hits
hits_in trying items found =
    hits_of trying (bits_at_hand found) items.ended ++ hits_of trying (bits_found items found) items.current

-- what the flow's next job finds
unfoldable pub state_after : Trying → JobItems → Option FlowState → Option FlowState
state_after trying items found =
    let bits : Option Bits = bits_found items found in
    option_map (λ session. record {
      session = steered trying.rules (hits_of trying bits items.current) session;
      bits = unwrap_or (bits_after_items trying bits items.current) empty;
    }) items.session

-- what is there after one more job of the flow
unfoldable pub state_after_one : Detection → Option FlowState → Job → Option FlowState
state_after_one d found job = state_after d.trying (work_items d.making job.moment job.work (session_at_hand found)) found

-- what is there after these jobs of a flow: nothing after its end
unfoldable pub flow_state : Detection → List Job → Option FlowState
flow_state d jobs = fold (state_after_one d) None jobs

-- The answer to a job, after the earlier jobs of its flow.

-- the items of a job
unfoldable pub items : Detection → List Job → Job → List Item
items d earlier job = all_items (work_items d.making job.moment job.work (session_at_hand (flow_state d earlier)))

-- the items of a job with all rules that match
unfoldable pub hits : Detection → List Job → Job → JobHits
hits d earlier job = record {
  number = job.number;
  items = hits_in d.trying (work_items d.making job.moment job.work (session_at_hand (flow_state d earlier)))
      (flow_state d earlier);
}

-- how many candidates its items have: how many rules are worth being tried
unfoldable pub tries : Detection → List Job → Job → ℕ
tries d earlier job =
    sum_by (λ (item : Item). length (candidates d.trying.rules item.head.body item.payload)) (items d earlier job)

-- The answer to a job, after all earlier jobs.

-- the flow of a job, if it is of one
abbrev pub flow_of_work : Work → Option ℕ
flow_of_work (work.Alone head payload) = None
flow_of_work (work.Packet flow head payload to_dst to_src) = Some flow
flow_of_work (work.Finish flow) = Some flow

abbrev pub flow_of : Job → Option ℕ
flow_of job = flow_of_work job.work

-- two flows are one, where there are two
abbrev pub same_number : Option ℕ → Option ℕ → Bool
same_number (Some a) (Some b) = a == b
same_number a b = false

-- two jobs are of one flow
abbrev pub same_flow : Job → Job → Bool
same_flow a b = same_number (flow_of a) (flow_of b)

-- the answer to a job looks at the earlier jobs of its flow alone
abbrev pub answer : Detection → List Job → Job → JobHits
answer d = within same_flow (hits d)

-- the number of a job's candidates goes by the earlier jobs of its flow alone
abbrev pub answer_tries : Detection → List Job → Job → ℕ
answer_tries d = within same_flow (tries d)
