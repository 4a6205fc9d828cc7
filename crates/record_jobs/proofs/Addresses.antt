-- The addresses of a datagram are those of the fragment that completed it.
use Rattle.std.proofs.Common.{◌≡◌, Bool, true, false, cond, List, Option, Some, None, Result, Ok, Err, ℕ, refl, sym, ap, ◌∙◌, subst}
use Rattle.std.specs.Prelude.{IfOk, IfSome, IsOkAnd, option_and_then}
use Rattle.std.specs.Option.{option_map_or}
use Rattle.edge_io.specs.declared.moment.Moment.{Moment}
use Rattle.packet_decode.specs.declared.packet.IpHead.{IpHead}
use Rattle.packet_decode.specs.declared.skip.Skip.{Skip}
use Rattle.packet_decode.specs.Decoding.{Fields}
use Rattle.packet_decode.specs.Versions.{version_of}
use Rattle.ipv6_decode.specs.Addresses.{HaveSameEnds, IsOfOneVersion}
use Rattle.ipv6_decode.proofs.Addresses.{record_version}
use Rattle.conf_types.specs.declared.config.FragConfig.{FragConfig}
use Rattle.frag3_core.specs.declared.answer.Datagram.{Datagram}
use Rattle.frag3_core.specs.declared.answer.Ignored.{Ignored}
use Rattle.frag3_core.specs.declared.answer.Taken.TheVariants as answer
use Rattle.frag3_core.specs.Trackers.{Frag3State, Fragment, answer_of, datagram_of, ignored, own, taken}
use Rattle.record_jobs.specs.Addresses.{KeepEnds}
use Rattle.record_jobs.specs.Packets.{datagram_in, datagram_of_fragment, fragment_of, frag3_after, is_fragment, fragment_fields, said_by, completed_datagram}
use Rattle.record_jobs.specs.Way.{LinkedRecord, Way}

-- between the addresses of this head
abbrev IsBetween : IpHead → Datagram → Type 0
IsBetween ip datagram = HaveSameEnds datagram.ip ip

taken_ends : (frag3 : Frag3State) (f : Fragment) → IfSome (completed_datagram (taken frag3 f)) (IsBetween f.ip)
unfolding taken
taken_ends frag3 f = go (ignored f.ip f.part f.rules)
  where
    made : (o : Option (List ℕ)) → IfSome (completed_datagram (answer_of f.ip o)) (IsBetween f.ip)
    made None = tt
    made (Some bytes) = (refl, refl)

    go : (o : Option Ignored) → IfSome (completed_datagram (option_map_or answer.Ignored o (answer_of f.ip (datagram_of (own frag3 f))))) (IsBetween f.ip)
    go None = made (datagram_of (own frag3 f))
    go (Some reason) = tt

fragment_ends : (way : Way) (waiting : Option Frag3State) (moment : Moment) (fields : Fields) → IfSome (datagram_of_fragment way waiting moment fields) (IsBetween fields.ip)
unfolding datagram_of_fragment
fragment_ends way waiting moment fields = go way.frag waiting
  where
    go : (frag : Option FragConfig) (o : Option Frag3State)
        → IfSome (option_and_then (λ (config : FragConfig). option_and_then
        (λ (frag3 : Frag3State). completed_datagram (taken frag3 (fragment_of way config moment fields))) o) frag)
        (IsBetween fields.ip)
    go None o = tt
    go (Some config) None = tt
    go (Some config) (Some frag3) = taken_ends frag3 (fragment_of way config moment fields)

-- a datagram that is made of a fragment is between the fragment's addresses
from_ends : (made : Fields → Option Datagram) → ((fields : Fields) → IfSome (made fields) (IsBetween fields.ip))
    → (said : Result Fields Skip) (datagram : Datagram) → option_and_then made (fragment_fields said) ≡ Some datagram → IsOkAnd said (λ fields. IsBetween fields.ip datagram)
from_ends made between (Err reason) datagram is = absurd cc
from_ends made between (Ok fields) datagram is = go (is_fragment fields.body) is
  where
    go : (b : Bool) → option_and_then made (cond b (Some fields) None) ≡ Some datagram → IsBetween fields.ip datagram
    go true here = subst (λ (o : Option Datagram). IfSome o (IsBetween fields.ip)) here (between fields)
    go false here = absurd cc

-- a datagram is of one version, as its fragment is
one_version : (said : Result Fields Skip) (datagram : Datagram) → IfOk said (λ fields. IsOfOneVersion fields.ip) → IsOkAnd said (λ fields. IsBetween fields.ip datagram) → IsOfOneVersion datagram.ip
one_version (Err reason) datagram one same = absurd same
one_version (Ok fields) datagram one same = ap version_of same.0 ∙ one ∙ sym (ap version_of same.1)

of_one : (way : Way) (r : LinkedRecord) → IfOk (said_by way r) (λ fields. IsOfOneVersion fields.ip)
unfolding said_by
of_one way r = record_version r.link r.captured.bytes way.checks

pub ends : (way : Way) (before : List LinkedRecord) (r : LinkedRecord) → KeepEnds way before r
unfolding datagram_in
ends way before r datagram is =
    let moment : Moment = r.captured.moment in
    let waiting : Option Frag3State = frag3_after way before in
    let same = from_ends (datagram_of_fragment way waiting moment) (fragment_ends way waiting moment) (said_by way r) datagram is in
    record { ends = same; version = one_version (said_by way r) datagram (of_one way r) same }
