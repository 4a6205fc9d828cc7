-- The items of jobs go between ends that packets told: where the heads of all jobs fit, so do those of all items.
use Rattle.std.proofs.Common.{◌≡◌, ℕ, ◌^◌, ◌<◌, Bool, List, sym, arith}
use Rattle.std.specs.Prelude.{filter}
use Rattle.std.specs.List.{All}
use Rattle.std.proofs.lemmas.List.Elements.{All-filter, All-weaker}
use Rattle.edge_io.specs.declared.moment.Moment.{Moment}
use Rattle.packet_decode.specs.declared.packet.Body.{Body}
use Rattle.packet_decode.specs.declared.packet.Body.TheVariants as body
use Rattle.packet_decode.specs.declared.packet.IpHead.{IpHead}
use Rattle.packet_decode.specs.Versions.{version_of}
use Rattle.stream5_sessions.specs.declared.key.End.{End}
use Rattle.stream5_sessions.specs.Phases.{segment_of}
use Rattle.flow_lanes.specs.declared.job.Job.{Job}
use Rattle.flow_lanes.specs.declared.job.Work.{Work}
use Rattle.flow_lanes.specs.declared.job.Work.TheVariants as work
use Rattle.flow_lanes.specs.Flows.{Detection, answer, same_flow}
use Rattle.flow_lanes.specs.Items.{head_between}
use Rattle.flow_lanes.specs.Fits.{FitsBody, FitsHits, FitsIp, FitsJob, FitsWork, IsInRange}
use Rattle.flow_lanes.proofs.Heads.{OfItemHead, OfJob, OfWork, items_have}

-- two ends of a flow, one of which may send to the other
record FitEnds (from to : End) : Type 0 where
  version : version_of from.addr ≡ version_of to.addr
  src : IsInRange from.addr
  dst : IsInRange to.addr
  sport : from.port < 2 ^ 16
  dport : to.port < 2 ^ 16

turned_ends : (from to : End) → FitEnds from to → FitEnds to from
turned_ends from to fits = record { version = sym fits.version; src = fits.dst; dst = fits.src; sport = fits.dport; dport = fits.sport }

-- no port, and TCP's number
no_port : 0 < 2 ^ 16
no_port = omega arith

tcp_number : 6 < 2 ^ 8
tcp_number = omega arith

-- a head that fits
abbrev FitHead : IpHead → Body → Type 0
FitHead ip carried = FitsIp ip × FitsBody carried

-- the ends of a packet
told_ends : (ip : IpHead) (carried : Body) (len : ℕ) (moment : Moment) → FitHead ip carried → FitEnds (segment_of ip carried len moment).sender (segment_of ip carried len moment).receiver
told_ends ip (body.Tcp head) len moment (fits, ports) = record { version = fits.version; src = fits.src; dst = fits.dst; sport = ports.0; dport = ports.1 }
told_ends ip (body.Udp sport dport) len moment (fits, ports) = record { version = fits.version; src = fits.src; dst = fits.dst; sport = ports.0; dport = ports.1 }
told_ends ip (body.Icmp kind code id seq) len moment (fits, ports) = record { version = fits.version; src = fits.src; dst = fits.dst; sport = no_port; dport = no_port }
told_ends ip body.Other len moment (fits, ports) = record { version = fits.version; src = fits.src; dst = fits.dst; sport = no_port; dport = no_port }
told_ends ip body.Fragment len moment (fits, ports) = record { version = fits.version; src = fits.src; dst = fits.dst; sport = no_port; dport = no_port }
told_ends ip (body.Stream sport dport) len moment (fits, ports) = record { version = fits.version; src = fits.src; dst = fits.dst; sport = no_port; dport = no_port }

-- the head of what one end sends to the other is within its limits, where the ends are
stream_head : (from to : End) (of_client : Bool) (moment : Moment) (sizes : ℕ × ℕ) → FitEnds from to → OfItemHead FitHead (head_between from to of_client moment sizes)
stream_head from to of_client moment sizes fits = (record { version = fits.version; src = fits.src; dst = fits.dst; protocol = tcp_number }, (fits.sport, fits.dport))

as_heads : (todo : Work) → FitsWork todo → OfWork FitHead todo
as_heads (work.Alone head payload) fits = fits
as_heads (work.Packet flow head payload to_dst to_src) fits = fits
as_heads (work.Finish flow) fits = tt

-- the items of a job after earlier ones
pub job_fits : (d : Detection) (before : List Job) (job : Job) → All FitsJob before → FitsJob job → All FitsHits (answer d before job).items
job_fits d before job earlier own =
    items_have FitHead FitEnds turned_ends told_ends stream_head d (filter (same_flow job) before) job
    (All-weaker FitsJob (OfJob FitHead) (λ other fits. as_heads other.work fits) (filter (same_flow job) before) (All-filter (same_flow job) FitsJob before earlier))
    (as_heads job.work own)
