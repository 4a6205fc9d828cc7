-- What a packet, the settings and the inspector that are lent to a lane stand for.
--
-- To try it on: a packet whose head and payload are lent is the packet of that head and that payload.
use Rattle.std.specs.Prelude.{ℕ, Bool, List, Option}
use Rattle.edge_io.specs.declared.pattern.Span.{Span}
use Rattle.conf_types.specs.declared.config.StreamConfig.{StreamConfig}
use Rattle.option_eval.specs.RuleSet.{Rules}
use Rattle.flow_lanes.specs.declared.arrival.Arrival.{Arrival}
use Rattle.flow_lanes.specs.declared.inspector.Inspector.{Inspector}
use Rattle.flow_lanes.specs.declared.settings.LaneSettings.{LaneSettings}
use Rattle.flow_lanes.specs.Engines.{Making}
use Rattle.flow_lanes.specs.Sessions.{Packet}

abbrev pub packet_of : Arrival → Packet
packet_of p = record { head = p.head.now; payload = p.payload.now; moment = p.moment; to_dst = p.to_dst; to_src = p.to_src }

abbrev pub making_of : LaneSettings → Making
making_of settings = record { flush = settings.flush; inserts = settings.inserts; stream = settings.stream.now }

-- by what jobs are answered: what the made patterns find, the configuration of streams, the rules, and whether
-- all items are told or those that a rule matches
pub record Inspection (P : Type 0) : Type 0 where
  pub finds : P → List ℕ → Option Span
  pub stream : StreamConfig
  pub set : Rules P
  pub all : Bool

abbrev pub inspection_of : {P : Type 0} → (P → List ℕ → Option Span) → Inspector P → Inspection P
inspection_of finds inspector = record {
  finds = finds;
  stream = inspector.stream.now;
  set = inspector.set.now;
  all = inspector.all;
}
