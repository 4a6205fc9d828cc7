-- The addresses of what is read are those of its version's header.
use Rattle.std.proofs.Common.{◌≡◌, ℕ, zero, suc, ◌+◌, ◌*◌, ◌/◌, Bool, true, false, cond, not, ◌&&◌, ◌||◌, nat_lt, ◌==◌, List, length, Result, Ok, Err, refl, sym, ap, ◌∙◌, subst}
use Rattle.std.specs.Prelude.{IfOk}
use Rattle.std.proofs.lemmas.Result.{IfOk-weaker}
use Rattle.edge_io.specs.Bytes.{be16, byte_at, slice, word_sum}
use Rattle.edge_io.specs.OnResult.{◌>>=◌}
use Rattle.edge_io.specs.declared.link.Link.{Link}
use Rattle.packet_decode.specs.declared.checks.Checks.{Checks}
use Rattle.packet_decode.specs.declared.ipv4.DataBounds.{DataBounds}
use Rattle.packet_decode.specs.declared.packet.IpHead.{IpHead}
use Rattle.packet_decode.specs.declared.packet.Body.TheVariants as body
use Rattle.packet_decode.specs.declared.skip.Skip.{Skip}
use Rattle.packet_decode.specs.declared.skip.Skip.TheVariants as skip
use Rattle.packet_decode.specs.declared.version.IpVersion.{IpVersion}
use Rattle.packet_decode.specs.declared.version.IpVersion.TheVariants.{Four, Six}
use Rattle.packet_decode.specs.Checksum.{is_all_ones}
use Rattle.packet_decode.specs.Decoding.{Fields, data_bounds, datagram_at, decoded, icmp_at, ip_head_at, is_fragment}
use Rattle.packet_decode.specs.Decoding.{is_message_right, is_segment_right, link_start, tcp_at, tcp_head_at, transport_at}
use Rattle.packet_decode.specs.Decoding.{udp_at}
use Rattle.packet_decode.specs.Versions.{icmp_protocol, version_of}
use Rattle.ipv6_decode.specs.declared.walk.HeaderWalk.{HeaderWalk}
use Rattle.ipv6_decode.specs.Addresses.{HaveSameEnds, IsOfOneVersion, IsOfVersion, KeepVersions}
use Rattle.ipv6_decode.specs.Decoding6.{decoded6, packet_at, packet_after, upper_at, walk_start}
use Rattle.ipv6_decode.specs.Headers.{after_fragment_header, after_header, after_length_field, fragment_head, head_at, is_at_header, most_headers, packet_stop, walk_end}
use Rattle.ipv6_decode.specs.Versions.{record_decoded, unless_other}

-- ---- steps that may fail

-- a fact of the first step's value serves the next step
bind-with : {A B E : Type 0} (P : A → Type 0) (Q : B → Type 0) (r : Result A E) (next : A → Result B E) → IfOk r P → ((a : A) → P a → IfOk (next a) Q) → IfOk (r >>= next) Q
bind-with P Q (Ok a) next h step = step a h
bind-with P Q (Err e) next h step = tt

-- a fact of the next step alone
bind-any : {A B E : Type 0} (Q : B → Type 0) (r : Result A E) (next : A → Result B E) → ((a : A) → IfOk (next a) Q) → IfOk (r >>= next) Q
bind-any Q (Ok a) next step = step a
bind-any Q (Err e) next step = tt

-- ---- the transport header

-- the head is this one
abbrev HasHead : IpHead → Fields → Type 0
HasHead ip fields = fields.ip ≡ ip

three_tests : (ip : IpHead) (fields : Fields) → fields.ip ≡ ip → (b c d : Bool) → IfOk (cond b (Err skip.Malformed) (cond c (Err skip.Malformed) (cond d (Err skip.Checksum) (Ok fields)))) (HasHead ip)
three_tests ip fields is true c d = tt
three_tests ip fields is false true d = tt
three_tests ip fields is false false true = tt
three_tests ip fields is false false false = is

tcp_head : (ip : IpHead) (bytes : List ℕ) (start stop : ℕ) (check : Bool) → IfOk (tcp_at ip bytes start stop check) (HasHead ip)
unfolding tcp_at
tcp_head ip bytes start stop check =
    three_tests ip (record { ip = ip; body = body.Tcp (tcp_head_at bytes start); payload = slice bytes (start + byte_at bytes (start + 12) / 16 * 4) stop }) refl
    (nat_lt stop (start + 20))
    (nat_lt (byte_at bytes (start + 12) / 16 * 4) 20 || nat_lt stop (start + byte_at bytes (start + 12) / 16 * 4))
    (check && not (is_segment_right ip (slice bytes start stop)))

udp_head : (ip : IpHead) (bytes : List ℕ) (start stop : ℕ) (check : Bool) → IfOk (udp_at ip bytes start stop check) (HasHead ip)
unfolding udp_at
udp_head ip bytes start stop check =
    three_tests ip (record { ip = ip; body = body.Udp (be16 bytes start) (be16 bytes (start + 2)); payload = slice bytes (start + 8) (start + be16 bytes (start + 4)) }) refl
    (nat_lt stop (start + 8))
    (nat_lt (be16 bytes (start + 4)) 8 || nat_lt stop (start + be16 bytes (start + 4)))
    (check && not (be16 bytes (start + 6) == 0) && not (is_segment_right ip (slice bytes start (start + be16 bytes (start + 4)))))

icmp_head : (ip : IpHead) (bytes : List ℕ) (start stop : ℕ) (check : Bool) → IfOk (icmp_at ip bytes start stop check) (HasHead ip)
unfolding icmp_at
icmp_head ip bytes start stop check =
    three_tests ip
    (record {
      ip = ip;
      body = body.Icmp (byte_at bytes start) (byte_at bytes (start + 1)) (be16 bytes (start + 4)) (be16 bytes (start + 6));
      payload = slice bytes (start + 8) stop;
    }) refl
    (nat_lt stop (start + 8)) false (check && not (is_message_right (version_of ip.src) ip (slice bytes start stop)))

transport_head : (ip : IpHead) (bytes : List ℕ) (start stop : ℕ) (checks : Checks) → IfOk (transport_at ip bytes start stop checks) (HasHead ip)
unfolding transport_at
transport_head ip bytes start stop checks = go (ip.protocol == 6) (ip.protocol == 17) (ip.protocol == icmp_protocol (version_of ip.src))
  where
    go : (b c d : Bool) → IfOk (cond b (tcp_at ip bytes start stop checks.tcp) (cond c (udp_at ip bytes start stop checks.udp) (cond d (icmp_at ip bytes start stop checks.icmp)
        (Ok (record { ip = ip; body = body.Other; payload = slice bytes start stop }))))) (HasHead ip)
    go true c d = tcp_head ip bytes start stop checks.tcp
    go false true d = udp_head ip bytes start stop checks.udp
    go false false true = icmp_head ip bytes start stop checks.icmp
    go false false false = refl

-- what has a head of a version is of it
of_version : (version : IpVersion) (ip : IpHead) (said : Result Fields Skip) → IsOfVersion version ip → IfOk said (HasHead ip) → IfOk said (λ fields. IsOfVersion version fields.ip)
of_version version ip said is h = IfOk-weaker said (HasHead ip) (λ fields. IsOfVersion version fields.ip) (λ fields same. subst (IsOfVersion version) (sym same) is) h

-- ---- version 4

four_at : (bytes : List ℕ) (start : ℕ) (bounds : DataBounds) (checks : Checks) → IfOk (datagram_at bytes start bounds checks) (λ fields. IsOfVersion Four fields.ip)
unfolding datagram_at ip_head_at
four_at bytes start bounds checks = go (checks.ip && not (is_all_ones (word_sum (slice bytes start bounds.start)))) (is_fragment (ip_head_at bytes start))
  where
    go : (b c : Bool) → IfOk (cond b (Err skip.Checksum) (cond c (Ok (record { ip = ip_head_at bytes start; body = body.Fragment; payload = slice bytes bounds.start bounds.stop }))
        (transport_at (ip_head_at bytes start) bytes bounds.start bounds.stop checks))) (λ fields. IsOfVersion Four fields.ip)
    go true c = tt
    go false true = (refl, refl)
    go false false =
        of_version Four (ip_head_at bytes start) (transport_at (ip_head_at bytes start) bytes bounds.start bounds.stop checks) (refl, refl)
        (transport_head (ip_head_at bytes start) bytes bounds.start bounds.stop checks)

four : (link : Link) (bytes : List ℕ) (checks : Checks) → IfOk (decoded link bytes checks) (λ fields. IsOfVersion Four fields.ip)
unfolding decoded
four link bytes checks =
    bind-any (λ fields. IsOfVersion Four fields.ip) (link_start Four link bytes) (λ start. data_bounds bytes start >>= (λ bounds. datagram_at bytes start bounds checks))
    (λ start. bind-any (λ fields. IsOfVersion Four fields.ip) (data_bounds bytes start) (λ bounds. datagram_at bytes start bounds checks) (λ bounds. four_at bytes start bounds checks))

-- ---- version 6

-- a walk has the addresses of this head
abbrev WalksBetween : IpHead → HeaderWalk → Type 0
WalksBetween head walk = HaveSameEnds walk.head head

length_field_ends : (walk : HeaderWalk) (bytes : List ℕ) → IfOk (after_length_field walk bytes) (WalksBetween walk.head)
unfolding after_length_field
length_field_ends walk bytes = go (nat_lt (length bytes) (walk.place + 2)) (nat_lt (length bytes) (walk.place + 8 + 8 * byte_at bytes (walk.place + 1)))
  where
    next : HeaderWalk
    next = record { head = record walk.head { protocol = byte_at bytes walk.place }; place = walk.place + 8 + 8 * byte_at bytes (walk.place + 1); is_part = walk.is_part }

    go : (b c : Bool) → IfOk (cond b (Err skip.Malformed) (cond c (Err skip.Malformed) (Ok next))) (WalksBetween walk.head)
    go true c = tt
    go false true = tt
    go false false = (refl, refl)

fragment_header_ends : (walk : HeaderWalk) (bytes : List ℕ) → IfOk (after_fragment_header walk bytes) (WalksBetween walk.head)
unfolding after_fragment_header fragment_head
fragment_header_ends walk bytes = go (nat_lt (length bytes) (walk.place + 8))
  where
    head : IpHead
    head = fragment_head walk.head bytes walk.place

    go : (b : Bool) → IfOk (cond b (Err skip.Malformed) (Ok (record { head = head; place = walk.place + 8; is_part = is_fragment head }))) (WalksBetween walk.head)
    go true = tt
    go false = (refl, refl)

header_ends : (walk : HeaderWalk) (bytes : List ℕ) → IfOk (after_header walk bytes) (WalksBetween walk.head)
unfolding after_header
header_ends walk bytes = go (walk.head.protocol == 44)
  where
    go : (b : Bool) → IfOk (cond b (after_fragment_header walk bytes) (after_length_field walk bytes)) (WalksBetween walk.head)
    go true = fragment_header_ends walk bytes
    go false = length_field_ends walk bytes

walk_ends : (left : ℕ) (walk : HeaderWalk) (bytes : List ℕ) → IfOk (walk_end left walk bytes) (WalksBetween walk.head)
unfolding walk_end
walk_ends zero walk bytes = go (is_at_header walk)
  where
    go : (b : Bool) → IfOk (cond b (Err skip.Malformed) (Ok walk)) (WalksBetween walk.head)
    go true = tt
    go false = (refl, refl)
walk_ends (suc left) walk bytes = go (is_at_header walk) (λ next. walk_ends left next bytes)
  where
    go : (b : Bool) → ((next : HeaderWalk) → IfOk (walk_end left next bytes) (WalksBetween next.head))
        → IfOk (cond b (after_header walk bytes >>= (λ next. walk_end left next bytes)) (Ok walk)) (WalksBetween walk.head)
    go true later =
        bind-with (WalksBetween walk.head) (WalksBetween walk.head) (after_header walk bytes) (λ next. walk_end left next bytes) (header_ends walk bytes)
        (λ next here. IfOk-weaker (walk_end left next bytes) (WalksBetween next.head) (WalksBetween walk.head) (λ end there. (there.0 ∙ here.0, there.1 ∙ here.1)) (later next))
    go false later = (refl, refl)

after_head : (walk : HeaderWalk) (packet : List ℕ) (checks : Checks) → IfOk (packet_after walk packet checks) (HasHead walk.head)
unfolding packet_after
after_head walk packet checks = go walk.is_part
  where
    go : (b : Bool) → IfOk (cond b (Ok (record { ip = walk.head; body = body.Fragment; payload = slice packet walk.place (length packet) })) (upper_at walk packet checks)) (HasHead walk.head)
    go true = refl
    go false = transport_head walk.head packet walk.place (length packet) checks

six_ends : (packet : List ℕ) (start : ℕ) (walk : HeaderWalk) → WalksBetween (head_at packet start) walk → IsOfVersion Six walk.head
unfolding head_at
six_ends packet start walk same = (ap version_of same.0, ap version_of same.1)

six_at : (packet : List ℕ) (start : ℕ) (checks : Checks) → IfOk (packet_at packet start checks) (λ fields. IsOfVersion Six fields.ip)
unfolding packet_at walk_start
six_at packet start checks =
    bind-with (WalksBetween (head_at packet start)) (λ fields. IsOfVersion Six fields.ip) (walk_end most_headers (walk_start packet start) packet) (λ walk. packet_after walk packet checks)
    (walk_ends most_headers (walk_start packet start) packet)
    (λ walk same. of_version Six walk.head (packet_after walk packet checks) (six_ends packet start walk same) (after_head walk packet checks))

six : (link : Link) (bytes : List ℕ) (checks : Checks) → IfOk (decoded6 link bytes checks) (λ fields. IsOfVersion Six fields.ip)
unfolding decoded6
six link bytes checks =
    bind-any (λ fields. IsOfVersion Six fields.ip) (link_start Six link bytes) (λ start. packet_stop bytes start >>= (λ stop. packet_at (slice bytes 0 stop) start checks))
    (λ start. bind-any (λ fields. IsOfVersion Six fields.ip) (packet_stop bytes start) (λ stop. packet_at (slice bytes 0 stop) start checks) (λ stop. six_at (slice bytes 0 stop) start checks))

-- ---- either version

-- between two addresses of one version
abbrev IsOfOne : Fields → Type 0
IsOfOne fields = IsOfOneVersion fields.ip

either_version : (first second : Result Fields Skip) → IfOk first (λ fields. IsOfVersion Four fields.ip) → IfOk second (λ fields. IsOfVersion Six fields.ip) → IfOk (unless_other first second) IsOfOne
either_version (Ok fields) second h g = h.0 ∙ sym h.1
either_version (Err skip.Short) second h g = tt
either_version (Err skip.OtherProtocol) (Ok fields) h g = g.0 ∙ sym g.1
either_version (Err skip.OtherProtocol) (Err reason) h g = tt
either_version (Err skip.Checksum) second h g = tt
either_version (Err skip.Malformed) second h g = tt

-- what a record says is between two addresses of one version
pub record_version : (link : Link) (bytes : List ℕ) (checks : Checks) → IfOk (record_decoded link bytes checks) (λ fields. IsOfOneVersion fields.ip)
unfolding record_decoded
record_version link bytes checks =
    either_version (decoded link bytes checks) (decoded6 link bytes checks) (four link bytes checks) (six link bytes checks)

pub versions : (link : Link) (bytes : List ℕ) (checks : Checks) → KeepVersions link bytes checks
versions link bytes checks = record { four = four link bytes checks; six = six link bytes checks; either = record_version link bytes checks }
