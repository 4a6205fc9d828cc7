-- What a record says, and what a datagram says that was put together, in either version of the internet
-- protocol.
--
-- A record is read as version 4 (RFC 791). Where that finds another protocol the record is read as version 6
-- (RFC 8200), and what this finds holds, be it a packet or a reason to skip. A datagram out of fragments is
-- read in the version of its two addresses.
-- To try it on: over Ethernet, a record of the type 86dd carries another protocol than version 4, and says what
-- it says as version 6. One of the type 0806 carries another protocol than either. One of the type 0800 whose
-- header is cut is Short, and version 6 isn't asked.
use Rattle.std.specs.Prelude.{◌≡◌, ℕ, ◌+◌, ◌≤◌, Bool, true, false, List, length, Result, Ok, Err, IfOk, if◌then◌else◌}
use Rattle.std.specs.Borrow.{Bor}
use Rattle.edge_io.specs.declared.address.Addr.{Addr}
use Rattle.edge_io.specs.declared.address.Addr.TheVariants as addr
use Rattle.edge_io.specs.declared.link.Link.{Link}
use Rattle.packet_decode.specs.declared.checks.Checks.{Checks}
use Rattle.packet_decode.specs.declared.packet.IpHead.{IpHead}
use Rattle.packet_decode.specs.declared.placed.Placed.{Placed}
use Rattle.packet_decode.specs.declared.skip.Skip.{Skip}
use Rattle.packet_decode.specs.declared.skip.Skip.TheVariants as skip
use Rattle.packet_decode.specs.Decoding.{Fields, datagram_decoded, decoded, fields_at}
use Rattle.ipv6_decode.specs.Decoding6.{datagram_decoded6, decoded6}

-- the first answer, but where it finds another protocol the second
abbrev pub unless_other : Result Fields Skip → Result Fields Skip → Result Fields Skip
unless_other (Ok fields) six = Ok fields
unless_other (Err skip.OtherProtocol) six = six
unless_other (Err reason) six = Err reason

-- what a captured record says, or why it is skipped
unfoldable pub record_decoded : Link → List ℕ → Checks → Result Fields Skip
record_decoded link bytes checks = unless_other (decoded link bytes checks) (decoded6 link bytes checks)

-- both addresses are of version 6
abbrev pub are_six : Addr → Addr → Bool
are_six (addr.V6 src) (addr.V6 dst) = true
are_six src dst = false

-- what a datagram says that was put together from fragments, or why it is skipped
unfoldable pub rebuilt_decoded : IpHead → List ℕ → Checks → Result Fields Skip
rebuilt_decoded ip bytes checks =
    if are_six ip.src ip.dst then datagram_decoded6 ip bytes checks else datagram_decoded ip bytes checks

-- what was read of a record as version 4: a packet whose payload lies at a place of the record's bytes, or why
-- there is none
abbrev pub four_said : List ℕ → Result (Bor Placed) Skip → Result Fields Skip
four_said bytes (Ok read) = Ok (fields_at bytes read.now)
four_said bytes (Err reason) = Err reason

-- the record was read so as version 4
pub record IsReadAsFour (link : Link) (bytes : List ℕ) (checks : Checks) (four : Result (Bor Placed) Skip) : Type 0 where
  pub said : four_said bytes four ≡ decoded link bytes checks
  pub within : IfOk four (λ read. read.now.start + read.now.len ≤ length bytes)
  pub small : IfOk four (λ read. read.now.len ≤ 65535)
