-- The numbers that belong to a version of the internet protocol.
--
-- The standards: RFC 894 and RFC 2464 for the types by which a link names the versions, RFC 791
-- section 3.1 and RFC 8200 section 3 for the first four bits, RFC 792 and RFC 4443 section 1 for the
-- protocol numbers of the control messages.
-- To try it on: after the type 86dd comes a packet whose first byte begins with the digit 6.
use Rattle.std.specs.Prelude.{ℕ}
use Rattle.edge_io.specs.declared.address.Addr.{Addr}
use Rattle.edge_io.specs.declared.address.Addr.TheVariants.{V4, V6}
use Rattle.packet_decode.specs.declared.version.IpVersion.{IpVersion}
use Rattle.packet_decode.specs.declared.version.IpVersion.TheVariants.{Four, Six}

-- the number by which a link names a version
abbrev pub ether_type : IpVersion → ℕ
ether_type Four = 0x0800
ether_type Six = 0x86dd

-- the number in the first four bits of a packet
abbrev pub first_digit : IpVersion → ℕ
first_digit Four = 4
first_digit Six = 6

-- the version that an address belongs to
abbrev pub version_of : Addr → IpVersion
version_of (V4 number) = Four
version_of (V6 number) = Six

-- the protocol number of a version's own control messages
abbrev pub icmp_protocol : IpVersion → ℕ
icmp_protocol Four = 1
icmp_protocol Six = 58
