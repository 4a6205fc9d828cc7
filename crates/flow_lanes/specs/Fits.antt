-- What heads tell where each number has no more bytes than a packet gives it.
--
-- An address has 4 bytes in version 4 (RFC 791, section 3.1) and 16 in version 6 (RFC 8200, section 3), a protocol one,
-- a port two (RFC 9293, section 3.1; RFC 768), and the type and the code of a control message one each (RFC 792).
-- To try it on: a head from 10.0.0.1 to 10.0.0.2 of UDP, from port 1000 to port 2000, fits; one from 10.0.0.1 to ::1
-- doesn't, nor does one from port 65536.
use Rattle.std.specs.Prelude.{◌≡◌, ◌<◌, ◌^◌, ⊤}
use Rattle.edge_io.specs.declared.address.Addr.{Addr}
use Rattle.edge_io.specs.declared.address.Addr.TheVariants.{V4, V6}
use Rattle.packet_decode.specs.declared.item.ItemHead.{ItemHead}
use Rattle.packet_decode.specs.declared.packet.Body.{Body}
use Rattle.packet_decode.specs.declared.packet.Body.TheVariants as body
use Rattle.packet_decode.specs.declared.packet.IpHead.{IpHead}
use Rattle.packet_decode.specs.Versions.{version_of}
use Rattle.flow_lanes.specs.declared.answer.Hits.{Hits}
use Rattle.flow_lanes.specs.declared.job.Job.{Job}
use Rattle.flow_lanes.specs.declared.job.Work.{Work}
use Rattle.flow_lanes.specs.declared.job.Work.TheVariants as work

-- an address has no more bytes than its version
abbrev pub IsInRange : Addr → Type 0
IsInRange (V4 address) = address < 2 ^ 32
IsInRange (V6 address) = address < 2 ^ 128

-- both addresses are of one version and in its range, and so is the protocol
pub record FitsIp (ip : IpHead) : Type 0 where
  pub version : version_of ip.src ≡ version_of ip.dst
  pub src : IsInRange ip.src
  pub dst : IsInRange ip.dst
  pub protocol : ip.protocol < 2 ^ 8

-- the ports, or what a control message has in their place
abbrev pub FitsBody : Body → Type 0
FitsBody (body.Tcp head) = (head.sport < 2 ^ 16) × (head.dport < 2 ^ 16)
FitsBody (body.Udp sport dport) = (sport < 2 ^ 16) × (dport < 2 ^ 16)
FitsBody (body.Stream sport dport) = (sport < 2 ^ 16) × (dport < 2 ^ 16)
FitsBody (body.Icmp kind code id seq) = (kind < 2 ^ 8) × (code < 2 ^ 8)
FitsBody body.Other = ⊤
FitsBody body.Fragment = ⊤

abbrev pub FitsHead : ItemHead → Type 0
FitsHead head = FitsIp head.ip × FitsBody head.body

-- an item by its head, and what a job is about by its packet's
abbrev pub FitsHits : Hits → Type 0
FitsHits hits = FitsHead hits.head

abbrev pub FitsWork : Work → Type 0
FitsWork (work.Alone head payload) = FitsHead head
FitsWork (work.Packet flow head payload to_dst to_src) = FitsHead head
FitsWork (work.Finish flow) = ⊤

abbrev pub FitsJob : Job → Type 0
FitsJob job = FitsWork job.work
