-- Whose addresses a datagram has that was put together.
--
-- It goes between the addresses of its fragments, so it is of one version, too.
-- To try it on: the fragments of a datagram from 2001:db8::1 to 2001:db8::2 make one between these two.
use Rattle.std.specs.Prelude.{◌≡◌, List, Some, IsOkAnd}
use Rattle.ipv6_decode.specs.Addresses.{HaveSameEnds, IsOfOneVersion}
use Rattle.frag3_core.specs.declared.answer.Datagram.{Datagram}
use Rattle.record_jobs.specs.Packets.{datagram_in, said_by}
use Rattle.record_jobs.specs.Way.{LinkedRecord, Way}

-- the datagram that a record completes has the addresses of the record's fragment, both of one version
pub record KeepsEnds (way : Way) (r : LinkedRecord) (datagram : Datagram) : Type 0 where
  pub ends : IsOkAnd (said_by way r) (λ fields. HaveSameEnds datagram.ip fields.ip)
  pub version : IsOfOneVersion datagram.ip

-- The law.
abbrev pub KeepEnds : Way → List LinkedRecord → LinkedRecord → Type 0
KeepEnds way before r = (datagram : Datagram) → datagram_in way before r ≡ Some datagram → KeepsEnds way r datagram
