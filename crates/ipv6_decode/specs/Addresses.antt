-- Whose addresses packets have.
--
-- A version's packets go between two addresses of that version (RFC 791, section 3.1; RFC 8200, section 3), so what a
-- record says goes between two of one version.
-- To try it on: of a record over Ethernet of the type 86dd, neither address is of version 4.
use Rattle.std.specs.Prelude.{◌≡◌, ℕ, List, IfOk}
use Rattle.edge_io.specs.declared.link.Link.{Link}
use Rattle.packet_decode.specs.declared.checks.Checks.{Checks}
use Rattle.packet_decode.specs.declared.packet.IpHead.{IpHead}
use Rattle.packet_decode.specs.declared.version.IpVersion.{IpVersion}
use Rattle.packet_decode.specs.declared.version.IpVersion.TheVariants.{Four, Six}
use Rattle.packet_decode.specs.Decoding.{decoded}
use Rattle.packet_decode.specs.Versions.{version_of}
use Rattle.ipv6_decode.specs.Decoding6.{decoded6}
use Rattle.ipv6_decode.specs.Versions.{record_decoded}

-- both addresses are of this version
abbrev pub IsOfVersion : IpVersion → IpHead → Type 0
IsOfVersion version ip = (version_of ip.src ≡ version) × (version_of ip.dst ≡ version)

-- both addresses are of one version
abbrev pub IsOfOneVersion : IpHead → Type 0
IsOfOneVersion ip = version_of ip.src ≡ version_of ip.dst

-- two heads have the same two addresses
abbrev pub HaveSameEnds : IpHead → IpHead → Type 0
HaveSameEnds one other = (one.src ≡ other.src) × (one.dst ≡ other.dst)

-- The law: what each version reads of a record is of that version, and what the record says of one.
pub record KeepVersions (link : Link) (bytes : List ℕ) (checks : Checks) : Type 0 where
  pub four : IfOk (decoded link bytes checks) (λ fields. IsOfVersion Four fields.ip)
  pub six : IfOk (decoded6 link bytes checks) (λ fields. IsOfVersion Six fields.ip)
  pub either : IfOk (record_decoded link bytes checks) (λ fields. IsOfOneVersion fields.ip)
