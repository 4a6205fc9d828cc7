-- A course of batches in which all packets go between the same two ends: what tests give to lanes.
--
-- A flow is known by its number alone, so that several flows between the same ends are a sound course; each
-- job of it is sound whatever comes before it, as long as there are not too many.
-- To try it on: two packets of flow 7 from 10.0.0.1 port 1000 to 10.0.0.2 port 2000, numbered 3 and 4, follow
-- a course of 3 jobs.
use Rattle.std.specs.Prelude.{◌≡◌, ℕ, ◌<◌, ◌≤◌, ⊤, false, List, [], None, IfSome, length, map}
use Rattle.std.specs.List.{AllByRecursion, range_with_len}
use Rattle.edge_io.specs.declared.address.Addr.TheVariants as addr
use Rattle.edge_io.specs.declared.moment.Moment.{Moment}
use Rattle.edge_io.specs.declared.policy.Preference.TheVariants as preference
use Rattle.packet_decode.specs.declared.item.ItemKind.TheVariants as kind
use Rattle.packet_decode.specs.declared.packet.Body.TheVariants as body
use Rattle.flow_lanes.specs.declared.job.Job.{Job}
use Rattle.flow_lanes.specs.declared.job.Toward.{Toward}
use Rattle.flow_lanes.specs.declared.job.Work.{Work}
use Rattle.flow_lanes.specs.declared.job.Work.TheVariants as work
use Rattle.flow_lanes.specs.Sessions.{Packet}
use Rattle.flow_lanes.specs.Sound.{FlowFacts, HasSessions, ends_of}
use Rattle.flow_lanes.specs.LanesAfter.{LanesState, known_in}

-- what is sent to either end goes by the first engine
abbrev pub plain_toward : Toward
plain_toward = record { engine = 0; preference = preference.First; needed = false }

-- a packet of UDP from the one end to the other
abbrev pub plain_packet : Packet
plain_packet = record {
  head = record {
    kind = kind.Packet;
    moment = record { nanos = 0 };
    ip = record {
      src = addr.V4 1;
      dst = addr.V4 2;
      protocol = 17;
      ttl = 64;
      tos = 0;
      id = 7;
      reserved = false;
      dont = false;
      more = false;
      offset = 0;
    };
    body = body.Udp 1000 2000;
    session = record { tracked = false; established = false; from_client = None; sizes = None };
  };
  payload = [];
  moment = record { nanos = 0 };
  to_dst = plain_toward;
  to_src = plain_toward;
}

-- a packet goes between these ends
pub record IsPlainPacket (p : Packet) : Type 0 where
  pub protocol : HasSessions p.head.body
  pub ends : ends_of p ≡ ends_of plain_packet
  pub size : length p.payload ≤ 65535
  pub to_dst : p.to_dst.engine ≡ 0
  pub to_src : p.to_src.engine ≡ 0

abbrev pub IsPlainWork : Moment → Work → Type 0
IsPlainWork moment (work.Alone head payload) = ⊤
IsPlainWork moment (work.Packet flow head payload to_dst to_src) =
    IsPlainPacket (record { head = head; payload = payload; moment = moment; to_dst = to_dst; to_src = to_src })
IsPlainWork moment (work.Finish flow) = ⊤

abbrev pub IsPlain : Job → Type 0
IsPlain job = IsPlainWork job.moment job.work

-- plain jobs, numbered from here on
pub record AreFrom (first : ℕ) (jobs : List Job) : Type 0 where
  pub plain : AllByRecursion IsPlain jobs
  pub numbers : map (λ (job : Job). job.number) jobs ≡ range_with_len first (length jobs)

-- what is known of a flow after at most `bound` jobs of a course
pub record IsFew (bound : ℕ) (facts : FlowFacts) : Type 0 where
  pub ends : facts.ends ≡ ends_of plain_packet
  pub packets : facts.packets ≤ bound

-- lanes after `done` jobs of a course
pub record IsCourse (lanes : LanesState) (done : ℕ) : Type 0 where
  pub known : (job : Job) → IfSome (known_in lanes job) (IsFew done)
  pub numbers : IfSome lanes.greatest (λ greatest. greatest < done)
