-- The items of a flow go between the two addresses between which its packets go, in either direction.
use Rattle.std.proofs.Common.{◌≡◌, ℕ, Bool, List, ◌⊎◌, inl, inr}
use Rattle.std.specs.List.{All}
use Rattle.edge_io.specs.declared.address.Addr.{Addr}
use Rattle.edge_io.specs.declared.moment.Moment.{Moment}
use Rattle.packet_decode.specs.declared.packet.Body.{Body}
use Rattle.packet_decode.specs.declared.packet.Body.TheVariants as body
use Rattle.packet_decode.specs.declared.packet.IpHead.{IpHead}
use Rattle.stream5_sessions.specs.declared.key.End.{End}
use Rattle.stream5_sessions.specs.Phases.{segment_of}
use Rattle.flow_lanes.specs.declared.job.Job.{Job}
use Rattle.flow_lanes.specs.Flows.{Detection, hits}
use Rattle.flow_lanes.specs.Items.{head_between}
use Rattle.flow_lanes.proofs.Heads.{OfHits, OfItemHead, OfJob, items_have}

-- these two addresses are those two
abbrev pub AreEnds : Addr → Addr → Addr → Addr → Type 0
AreEnds a b src dst = ((a ≡ src) × (b ≡ dst)) ⊎ ((a ≡ dst) × (b ≡ src))

-- a head between two addresses, and what goes from one end to another
abbrev pub HeadBetween : Addr → Addr → IpHead → Body → Type 0
HeadBetween a b ip carried = AreEnds a b ip.src ip.dst

abbrev EndsBetween : Addr → Addr → End → End → Type 0
EndsBetween a b from to = AreEnds a b from.addr to.addr

module _ (a b : Addr) where
  turned : (from to : End) → EndsBetween a b from to → EndsBetween a b to from
  turned from to (inl (one, other)) = inr (one, other)
  turned from to (inr (one, other)) = inl (one, other)

  told : (ip : IpHead) (carried : Body) (len : ℕ) (moment : Moment) → HeadBetween a b ip carried → EndsBetween a b (segment_of ip carried len moment).sender (segment_of ip carried len moment).receiver
  told ip (body.Tcp head) len moment between = between
  told ip (body.Udp sport dport) len moment between = between
  told ip (body.Icmp kind code id seq) len moment between = between
  told ip body.Other len moment between = between
  told ip body.Fragment len moment between = between
  told ip (body.Stream sport dport) len moment between = between

  stream : (from to : End) (of_client : Bool) (moment : Moment) (sizes : ℕ × ℕ) → EndsBetween a b from to → OfItemHead (HeadBetween a b) (head_between from to of_client moment sizes)
  stream from to of_client moment sizes between = between

  pub items_between : (d : Detection) (earlier : List Job) (job : Job) → All (OfJob (HeadBetween a b)) earlier → OfJob (HeadBetween a b) job → All (OfHits (HeadBetween a b)) (hits d earlier job).items
  items_between d earlier job all own = items_have (HeadBetween a b) (EndsBetween a b) turned told stream d earlier job all own
