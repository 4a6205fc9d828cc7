-- A dialogue: the packets of TCP between two ends, as one flow, that rows give to a lane.
--
-- To try it on: two packets, one in each direction between 0.0.0.1 port 1000 and 0.0.0.2 port 80, are two
-- turns of a dialogue.
use Rattle.std.specs.Prelude.{◌≡◌, ℕ, ◌≤◌, Bool, true, false, List, None, IfSome, length}
use Rattle.edge_io.specs.declared.address.Addr.TheVariants as addr
use Rattle.edge_io.specs.declared.moment.Moment.{Moment}
use Rattle.edge_io.specs.declared.policy.Preference.{Preference}
use Rattle.packet_decode.specs.declared.item.ItemHead.{ItemHead}
use Rattle.packet_decode.specs.declared.item.ItemKind.TheVariants as kind
use Rattle.packet_decode.specs.declared.packet.Body.TheVariants as body
use Rattle.flow_lanes.specs.declared.job.Job.{Job}
use Rattle.flow_lanes.specs.declared.job.Toward.{Toward}
use Rattle.flow_lanes.specs.declared.job.Work.{Work}
use Rattle.flow_lanes.specs.declared.job.Work.TheVariants as work
use Rattle.flow_lanes.specs.Sessions.{Packet}
use Rattle.flow_lanes.specs.declared.facts.FlowEnds.{FlowEnds}
use Rattle.flow_lanes.specs.declared.facts.FlowFacts.{FlowFacts}
use Rattle.flow_lanes.specs.Sound.{HasSessions, ends_of}
use Rattle.flow_lanes.specs.LanesAfter.{LaneState, facts_kept, kept_of}

-- the head of a packet of TCP from one end to another
abbrev pub tcp_head : ℕ → ℕ → ℕ → ℕ → ℕ → ℕ → ℕ → ItemHead
tcp_head src sport dst dport flags seq ack = record {
  kind = kind.Packet;
  moment = record { nanos = 0 };
  ip = record {
    src = addr.V4 src;
    dst = addr.V4 dst;
    protocol = 6;
    ttl = 64;
    tos = 0;
    id = 7;
    reserved = false;
    dont = false;
    more = false;
    offset = 0;
  };
  body = body.Tcp (record { sport = sport; dport = dport; seq = seq; ack = ack; flags = flags; window = 0 });
  session = record { tracked = false; established = false; from_client = None; sizes = None };
}

-- what goes by both ends
abbrev pub by_both : Preference → Bool → Toward
by_both preference needed = record { engine = 0; preference = preference; needed = needed }

abbrev pub dialogue_ends : Preference → FlowEnds
dialogue_ends preference = record {
  key = record { tcp = true; low = record { addr = addr.V4 1; port = 1000 }; high = record { addr = addr.V4 2; port = 80 } };
  low = record { engine = 0; preference = preference };
  high = record { engine = 0; preference = preference };
}

-- a packet with this head goes between the two ends
pub record IsTurnHead (head : ItemHead) : Type 0 where
  pub protocol : HasSessions head.body
  pub ends : (preference : Preference) (needed : Bool) (payload : List ℕ) (moment : Moment)
      → ends_of (record {
        head = head;
        payload = payload;
        moment = moment;
        to_dst = by_both preference needed;
        to_src = by_both preference needed;
      }) ≡ dialogue_ends preference

-- a turn of the dialogue
pub record IsTurn (preference : Preference) (flow : ℕ) (p : Packet) : Type 0 where
  pub flow_is : flow ≡ 0
  pub protocol : HasSessions p.head.body
  pub ends : ends_of p ≡ dialogue_ends preference
  pub size : length p.payload ≤ 65535
  pub to_dst : p.to_dst.engine ≡ 0
  pub to_src : p.to_src.engine ≡ 0

-- a turn, or the end
abbrev pub IsTurnWork : Preference → Moment → Work → Type 0
IsTurnWork preference moment (work.Alone head payload) = ⊥
IsTurnWork preference moment (work.Packet flow head payload to_dst to_src) =
    IsTurn preference flow (record { head = head; payload = payload; moment = moment; to_dst = to_dst; to_src = to_src })
IsTurnWork preference moment (work.Finish flow) = flow ≡ 0

abbrev pub IsTurnJob : Preference → Job → Type 0
IsTurnJob preference job = IsTurnWork preference job.moment job.work

-- what is known after at most `bound` jobs
pub record IsFewTurns (preference : Preference) (bound : ℕ) (facts : FlowFacts) : Type 0 where
  pub ends : facts.ends ≡ dialogue_ends preference
  pub packets : facts.packets ≤ bound

abbrev pub IsDialogue : Preference → LaneState → ℕ → Type 0
IsDialogue preference lane done = IfSome (facts_kept (kept_of lane 0)) (IsFewTurns preference done)
