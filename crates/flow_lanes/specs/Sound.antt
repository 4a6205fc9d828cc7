-- When a job is sound after the earlier jobs of its flow.
--
-- All packets of a flow are of one protocol and between the same two ends, and each of these goes by one
-- engine and one preference. A packet has no more data than a datagram (RFC 791, section 3.1).
-- To try it on: a packet between other ends than those of its flow's first packet is not sound; after the
-- flow's end it is.
use Rattle.std.specs.Prelude.{◌≡◌, ℕ, ◌+◌, ◌^◌, ◌<◌, ◌≤◌, ⊤, List, Option, Some, None, IfSome, length, fold}
use Rattle.std.specs.Option.{option_map_or}
use Rattle.edge_io.specs.declared.moment.Moment.{Moment}
use Rattle.packet_decode.specs.declared.packet.Body.{Body}
use Rattle.packet_decode.specs.declared.packet.Body.TheVariants as body
use Rattle.stream5_sessions.specs.declared.key.Key.{Key}
use Rattle.stream5_sessions.specs.Keys.{key_of}
use Rattle.flow_lanes.specs.declared.job.Job.{Job}
use Rattle.flow_lanes.specs.declared.job.Toward.{Toward}
use Rattle.flow_lanes.specs.declared.job.Work.{Work}
use Rattle.flow_lanes.specs.declared.job.Work.TheVariants as work
pub use Rattle.flow_lanes.specs.declared.facts.EndWay.{EndWay}
pub use Rattle.flow_lanes.specs.declared.facts.FlowEnds.{FlowEnds}
pub use Rattle.flow_lanes.specs.declared.facts.FlowFacts.{FlowFacts}
use Rattle.flow_lanes.specs.Sessions.{Packet, is_tcp, receiver, sender, toward}

abbrev pub way_of : Toward → EndWay
way_of to = record { engine = to.engine; preference = to.preference }

-- the key of a packet's flow, and what goes by its ends
abbrev pub key_of_packet : Packet → Key
key_of_packet p = key_of (is_tcp p.head.body) (sender p) (receiver p)

abbrev pub ends_of : Packet → FlowEnds
ends_of p = record {
  key = key_of_packet p;
  low = way_of (toward p (key_of_packet p).low);
  high = way_of (toward p (key_of_packet p).high);
}

-- what is known of the flow after one more job
abbrev pub facts_after_work : Option FlowFacts → Moment → Work → Option FlowFacts
facts_after_work facts moment (work.Alone head payload) = facts
facts_after_work facts moment (work.Packet flow head payload to_dst to_src) =
    Some (record {
      ends = ends_of (record { head = head; payload = payload; moment = moment; to_dst = to_dst; to_src = to_src });
      packets = option_map_or (λ (f : FlowFacts). f.packets + 1) facts 1;
    })
facts_after_work facts moment (work.Finish flow) = None

abbrev pub facts_after_one : Option FlowFacts → Job → Option FlowFacts
facts_after_one facts job = facts_after_work facts job.moment job.work

-- what is known after these jobs of one flow, of which this was known
abbrev pub facts_after : Option FlowFacts → List Job → Option FlowFacts
facts_after facts jobs = fold facts_after_one facts jobs

-- the body is of a protocol that has sessions
abbrev pub HasSessions : Body → Type 0
HasSessions (body.Tcp head) = ⊤
HasSessions (body.Udp sport dport) = ⊤
HasSessions carried = ⊥

-- a packet is sound: `engines` is how many engines the configuration has, `facts` what is known of its flow
pub record IsSoundPacket (engines : ℕ) (facts : Option FlowFacts) (p : Packet) : Type 0 where
  pub protocol : HasSessions p.head.body
  pub same_ends : IfSome facts (λ f. f.ends ≡ ends_of p)
  pub few : IfSome facts (λ f. f.packets < 2 ^ 32)
  pub size : length p.payload ≤ 65535
  pub to_dst : p.to_dst.engine ≤ engines
  pub to_src : p.to_src.engine ≤ engines

abbrev pub IsSoundWork : ℕ → Option FlowFacts → Moment → Work → Type 0
IsSoundWork engines facts moment (work.Alone head payload) = ⊤
IsSoundWork engines facts moment (work.Packet flow head payload to_dst to_src) =
    IsSoundPacket engines facts (record { head = head; payload = payload; moment = moment; to_dst = to_dst; to_src = to_src })
IsSoundWork engines facts moment (work.Finish flow) = ⊤

-- a job is sound, where this is known of its flow
abbrev pub IsSoundFor : ℕ → Option FlowFacts → Job → Type 0
IsSoundFor engines facts job = IsSoundWork engines facts job.moment job.work
