-- What is read of bytes fits: addresses of one version, and numbers that have as many bytes as headers give them.
use Rattle.std.proofs.Common.{◌≡◌, ℕ, zero, suc, ◌+◌, ◌-◌, ◌*◌, ◌/◌, ◌^◌, ◌<◌, ◌≤◌, Bool, true, false, cond, not, ◌&&◌, ◌||◌}
use Rattle.std.proofs.Common.{nat_lt, ◌==◌, List, length, take, drop, Result, Ok, Err, refl, ◌∙◌, arith}
use Rattle.std.specs.Prelude.{IfOk}
use Rattle.std.specs.List.{All}
use Rattle.std.proofs.lemmas.Bool.Decides.{nat_tests}
use Rattle.std.proofs.lemmas.List.{get_or_past}
use Rattle.std.proofs.lemmas.List.Elements.{All-drop, All-take}
use Rattle.byteorder.specs.Numbers.{big_from-lt}
use Rattle.edge_io.specs.Bytes.{be16, be32, byte_at, slice, word_sum}
use Rattle.edge_io.specs.OnResult.{◌>>=◌}
use Rattle.edge_io.specs.declared.link.Link.{Link}
use Rattle.packet_decode.specs.declared.checks.Checks.{Checks}
use Rattle.packet_decode.specs.declared.ipv4.DataBounds.{DataBounds}
use Rattle.packet_decode.specs.declared.packet.Body.{Body}
use Rattle.packet_decode.specs.declared.packet.Body.TheVariants as body
use Rattle.packet_decode.specs.declared.packet.IpHead.{IpHead}
use Rattle.packet_decode.specs.declared.skip.Skip.{Skip}
use Rattle.packet_decode.specs.declared.skip.Skip.TheVariants as skip
use Rattle.packet_decode.specs.declared.version.IpVersion.TheVariants.{Four, Six}
use Rattle.packet_decode.specs.Checksum.{is_all_ones}
use Rattle.packet_decode.specs.Decoding.{Fields, data_bounds, datagram_at, datagram_decoded, decoded, icmp_at, ip_head_at}
use Rattle.packet_decode.specs.Decoding.{is_fragment, is_message_right, is_segment_right, link_start, tcp_at, tcp_head_at}
use Rattle.packet_decode.specs.Decoding.{transport_at, udp_at}
use Rattle.packet_decode.specs.Versions.{icmp_protocol, version_of}
use Rattle.ipv6_decode.specs.declared.walk.HeaderWalk.{HeaderWalk}
use Rattle.ipv6_decode.specs.Decoding6.{datagram_decoded6, decoded6, packet_at, packet_after, upper_at, walk_start}
use Rattle.ipv6_decode.specs.Headers.{be128, after_fragment_header, after_header, after_length_field, fragment_head, head_at, is_at_header, most_headers, packet_stop, walk_end}
use Rattle.ipv6_decode.specs.Versions.{are_six, rebuilt_decoded, record_decoded, unless_other}
use Rattle.flow_lanes.specs.Fits.{FitsBody, FitsIp}
use Rattle.record_jobs.specs.Fitting.{AreBytes}

-- ---- bytes and the numbers in them

-- the byte at any place: past the end it is 0
pub byte_fits : (bytes : List ℕ) (place : ℕ) → AreBytes bytes → byte_at bytes place < 256
byte_fits bytes place all = by_place (nat_lt place (length bytes)) refl
  where
    by_place : (test : Bool) → nat_lt place (length bytes) ≡ test → byte_at bytes place < 256
    by_place true is = all place 0 (grind (arith, nat_tests, is))
    by_place false is =
        let past : byte_at bytes place ≡ 0 = get_or_past bytes place 0 (grind (arith, nat_tests, is)) in
        omega (arith, past)

two_fit : (bytes : List ℕ) (place : ℕ) → AreBytes bytes → be16 bytes place < 2 ^ 16
unfolding be16
two_fit bytes place all = big_from-lt place 2 bytes (λ k. byte_fits bytes k all)

four_fit : (bytes : List ℕ) (place : ℕ) → AreBytes bytes → be32 bytes place < 2 ^ 32
unfolding be32
four_fit bytes place all = big_from-lt place 4 bytes (λ k. byte_fits bytes k all)

sixteen_fit : (bytes : List ℕ) (place : ℕ) → AreBytes bytes → be128 bytes place < 2 ^ 128
unfolding be128
sixteen_fit bytes place all = big_from-lt place 16 bytes (λ k. byte_fits bytes k all)

slice_fits : (bytes : List ℕ) (start stop : ℕ) → AreBytes bytes → AreBytes (slice bytes start stop)
slice_fits bytes start stop all = All-take (λ byte. byte < 256) (stop - start) (drop start bytes) (All-drop (λ byte. byte < 256) start bytes all)

-- ---- steps that may fail

bind-with : {A B E : Type 0} (P : A → Type 0) (Q : B → Type 0) (r : Result A E) (next : A → Result B E) → IfOk r P → ((a : A) → P a → IfOk (next a) Q) → IfOk (r >>= next) Q
bind-with P Q (Ok a) next h step = step a h
bind-with P Q (Err e) next h step = tt

bind-any : {A B E : Type 0} (Q : B → Type 0) (r : Result A E) (next : A → Result B E) → ((a : A) → IfOk (next a) Q) → IfOk (r >>= next) Q
bind-any Q (Ok a) next step = step a
bind-any Q (Err e) next step = tt

choose : {A : Type 0} (Q : A → Type 0) (test : Bool) (x y : Result A Skip) → IfOk x Q → IfOk y Q → IfOk (cond test x y) Q
choose Q true x y one other = one
choose Q false x y one other = other

-- ---- the transport header

-- what is known of a packet
pub record FitsFields (fields : Fields) : Type 0 where
  pub ip_fits : FitsIp fields.ip
  pub ports : FitsBody fields.body
  pub bytes : AreBytes fields.payload

carrying : (ip : IpHead) (carried : Body) (payload : List ℕ) → FitsIp ip → AreBytes payload → FitsBody carried → FitsFields (record { ip = ip; body = carried; payload = payload })
carrying ip carried payload fits bytes ports = record { ip_fits = fits; ports = ports; bytes = bytes }

tcp_fits : (ip : IpHead) (bytes : List ℕ) (start stop : ℕ) (check : Bool) → FitsIp ip → AreBytes bytes → IfOk (tcp_at ip bytes start stop check) FitsFields
unfolding tcp_at tcp_head_at
tcp_fits ip bytes start stop check fits all =
    let header_len = byte_at bytes (start + 12) / 16 * 4 in
    let payload = slice bytes (start + header_len) stop in
    choose FitsFields (nat_lt stop (start + 20)) (Err skip.Malformed) _ tt
    (choose FitsFields (nat_lt header_len 20 || nat_lt stop (start + header_len)) (Err skip.Malformed) _ tt
    (choose FitsFields (check && not (is_segment_right ip (slice bytes start stop))) (Err skip.Checksum) (Ok (record { ip = ip; body = body.Tcp (tcp_head_at bytes start); payload = payload })) tt
    (carrying ip (body.Tcp (tcp_head_at bytes start)) payload fits (slice_fits bytes (start + header_len) stop all) (two_fit bytes start all, two_fit bytes (start + 2) all))))

udp_fits : (ip : IpHead) (bytes : List ℕ) (start stop : ℕ) (check : Bool) → FitsIp ip → AreBytes bytes → IfOk (udp_at ip bytes start stop check) FitsFields
unfolding udp_at
udp_fits ip bytes start stop check fits all =
    let len = be16 bytes (start + 4) in
    let payload = slice bytes (start + 8) (start + len) in
    let carried = body.Udp (be16 bytes start) (be16 bytes (start + 2)) in
    choose FitsFields (nat_lt stop (start + 8)) (Err skip.Malformed) _ tt
    (choose FitsFields (nat_lt len 8 || nat_lt stop (start + len)) (Err skip.Malformed) _ tt
    (choose FitsFields (check && not (be16 bytes (start + 6) == 0) && not (is_segment_right ip (slice bytes start (start + len))))
    (Err skip.Checksum)
    (Ok (record { ip = ip; body = carried; payload = payload })) tt
    (carrying ip carried payload fits (slice_fits bytes (start + 8) (start + len) all)
    (two_fit bytes start all, two_fit bytes (start + 2) all))))

icmp_fits : (ip : IpHead) (bytes : List ℕ) (start stop : ℕ) (check : Bool) → FitsIp ip → AreBytes bytes → IfOk (icmp_at ip bytes start stop check) FitsFields
unfolding icmp_at
icmp_fits ip bytes start stop check fits all =
    let payload = slice bytes (start + 8) stop in
    let carried = body.Icmp (byte_at bytes start) (byte_at bytes (start + 1)) (be16 bytes (start + 4)) (be16 bytes (start + 6)) in
    choose FitsFields (nat_lt stop (start + 8)) (Err skip.Malformed) _ tt
    (choose FitsFields (check && not (is_message_right (version_of ip.src) ip (slice bytes start stop))) (Err skip.Checksum) (Ok (record { ip = ip; body = carried; payload = payload })) tt
    (carrying ip carried payload fits (slice_fits bytes (start + 8) stop all) (byte_fits bytes start all, byte_fits bytes (start + 1) all)))

transport_fits : (ip : IpHead) (bytes : List ℕ) (start stop : ℕ) (checks : Checks) → FitsIp ip → AreBytes bytes → IfOk (transport_at ip bytes start stop checks) FitsFields
unfolding transport_at
transport_fits ip bytes start stop checks fits all =
    choose FitsFields (ip.protocol == 6) (tcp_at ip bytes start stop checks.tcp) _ (tcp_fits ip bytes start stop checks.tcp fits all)
    (choose FitsFields (ip.protocol == 17) (udp_at ip bytes start stop checks.udp) _ (udp_fits ip bytes start stop checks.udp fits all)
    (choose FitsFields (ip.protocol == icmp_protocol (version_of ip.src)) (icmp_at ip bytes start stop checks.icmp) (Ok (record { ip = ip; body = body.Other; payload = slice bytes start stop }))
    (icmp_fits ip bytes start stop checks.icmp fits all) (carrying ip body.Other (slice bytes start stop) fits (slice_fits bytes start stop all) tt)))

-- ---- version 4

four_head : (bytes : List ℕ) (start : ℕ) → AreBytes bytes → FitsIp (ip_head_at bytes start)
unfolding ip_head_at
four_head bytes start all = record { version = refl; src = four_fit bytes (start + 12) all; dst = four_fit bytes (start + 16) all; protocol = byte_fits bytes (start + 9) all }

four_at : (bytes : List ℕ) (start : ℕ) (bounds : DataBounds) (checks : Checks) → AreBytes bytes → IfOk (datagram_at bytes start bounds checks) FitsFields
unfolding datagram_at
four_at bytes start bounds checks all =
    let ip = ip_head_at bytes start in
    let fits = four_head bytes start all in
    choose FitsFields (checks.ip && not (is_all_ones (word_sum (slice bytes start bounds.start)))) (Err skip.Checksum) _ tt
    (choose FitsFields (is_fragment ip) (Ok (record { ip = ip; body = body.Fragment; payload = slice bytes bounds.start bounds.stop })) (transport_at ip bytes bounds.start bounds.stop checks)
    (carrying ip body.Fragment (slice bytes bounds.start bounds.stop) fits (slice_fits bytes bounds.start bounds.stop all) tt)
    (transport_fits ip bytes bounds.start bounds.stop checks fits all))

four : (link : Link) (bytes : List ℕ) (checks : Checks) → AreBytes bytes → IfOk (decoded link bytes checks) FitsFields
unfolding decoded
four link bytes checks all =
    bind-any FitsFields (link_start Four link bytes) (λ start. data_bounds bytes start >>= (λ bounds. datagram_at bytes start bounds checks))
    (λ start. bind-any FitsFields (data_bounds bytes start) (λ bounds. datagram_at bytes start bounds checks) (λ bounds. four_at bytes start bounds checks all))

-- ---- version 6

-- a walk's head fits
abbrev FitsWalk : HeaderWalk → Type 0
FitsWalk walk = FitsIp walk.head

length_field_fits : (walk : HeaderWalk) (bytes : List ℕ) → FitsWalk walk → AreBytes bytes → IfOk (after_length_field walk bytes) FitsWalk
unfolding after_length_field
length_field_fits walk bytes fits all =
    let end = walk.place + 8 + 8 * byte_at bytes (walk.place + 1) in
    choose FitsWalk (nat_lt (length bytes) (walk.place + 2)) (Err skip.Malformed) _ tt
    (choose FitsWalk (nat_lt (length bytes) end) (Err skip.Malformed) (Ok (record { head = record walk.head { protocol = byte_at bytes walk.place }; place = end; is_part = walk.is_part })) tt
    (record { version = fits.version; src = fits.src; dst = fits.dst; protocol = byte_fits bytes walk.place all }))

fragment_header_fits : (walk : HeaderWalk) (bytes : List ℕ) → FitsWalk walk → AreBytes bytes → IfOk (after_fragment_header walk bytes) FitsWalk
unfolding after_fragment_header fragment_head
fragment_header_fits walk bytes fits all =
    let head = fragment_head walk.head bytes walk.place in
    choose FitsWalk (nat_lt (length bytes) (walk.place + 8)) (Err skip.Malformed) (Ok (record { head = head; place = walk.place + 8; is_part = is_fragment head })) tt
    (record { version = fits.version; src = fits.src; dst = fits.dst; protocol = byte_fits bytes walk.place all })

header_fits : (walk : HeaderWalk) (bytes : List ℕ) → FitsWalk walk → AreBytes bytes → IfOk (after_header walk bytes) FitsWalk
unfolding after_header
header_fits walk bytes fits all =
    choose FitsWalk (walk.head.protocol == 44) (after_fragment_header walk bytes) (after_length_field walk bytes)
    (fragment_header_fits walk bytes fits all) (length_field_fits walk bytes fits all)

walk_fits : (left : ℕ) (walk : HeaderWalk) (bytes : List ℕ) → FitsWalk walk → AreBytes bytes → IfOk (walk_end left walk bytes) FitsWalk
unfolding walk_end
walk_fits zero walk bytes fits all = choose FitsWalk (is_at_header walk) (Err skip.Malformed) (Ok walk) tt fits
walk_fits (suc left) walk bytes fits all =
    choose FitsWalk (is_at_header walk) (after_header walk bytes >>= (λ next. walk_end left next bytes)) (Ok walk)
    (bind-with FitsWalk FitsWalk (after_header walk bytes) (λ next. walk_end left next bytes) (header_fits walk bytes fits all) (λ next fit. walk_fits left next bytes fit all)) fits

packet_after_fits : (walk : HeaderWalk) (packet : List ℕ) (checks : Checks) → FitsWalk walk → AreBytes packet → IfOk (packet_after walk packet checks) FitsFields
unfolding packet_after
packet_after_fits walk packet checks fits all =
    choose FitsFields walk.is_part (Ok (record { ip = walk.head; body = body.Fragment; payload = slice packet walk.place (length packet) })) (upper_at walk packet checks)
    (carrying walk.head body.Fragment (slice packet walk.place (length packet)) fits (slice_fits packet walk.place (length packet) all) tt)
    (transport_fits walk.head packet walk.place (length packet) checks fits all)

six_head : (packet : List ℕ) (start : ℕ) → AreBytes packet → FitsIp (head_at packet start)
unfolding head_at
six_head packet start all = record { version = refl; src = sixteen_fit packet (start + 8) all; dst = sixteen_fit packet (start + 24) all; protocol = byte_fits packet (start + 6) all }

six_at : (packet : List ℕ) (start : ℕ) (checks : Checks) → AreBytes packet → IfOk (packet_at packet start checks) FitsFields
unfolding packet_at walk_start
six_at packet start checks all =
    bind-with FitsWalk FitsFields (walk_end most_headers (walk_start packet start) packet) (λ walk. packet_after walk packet checks)
    (walk_fits most_headers (walk_start packet start) packet (six_head packet start all) all) (λ walk fits. packet_after_fits walk packet checks fits all)

six : (link : Link) (bytes : List ℕ) (checks : Checks) → AreBytes bytes → IfOk (decoded6 link bytes checks) FitsFields
unfolding decoded6
six link bytes checks all =
    bind-any FitsFields (link_start Six link bytes) (λ start. packet_stop bytes start >>= (λ stop. packet_at (slice bytes 0 stop) start checks))
    (λ start. bind-any FitsFields (packet_stop bytes start) (λ stop. packet_at (slice bytes 0 stop) start checks) (λ stop. six_at (slice bytes 0 stop) start checks (slice_fits bytes 0 stop all)))

-- ---- either version

either_fits : (first second : Result Fields Skip) → IfOk first FitsFields → IfOk second FitsFields → IfOk (unless_other first second) FitsFields
either_fits (Ok fields) second h g = h
either_fits (Err skip.Short) second h g = tt
either_fits (Err skip.OtherProtocol) second h g = g
either_fits (Err skip.Checksum) second h g = tt
either_fits (Err skip.Malformed) second h g = tt

pub record_fits : (link : Link) (bytes : List ℕ) (checks : Checks) → AreBytes bytes → IfOk (record_decoded link bytes checks) FitsFields
unfolding record_decoded
record_fits link bytes checks all = either_fits (decoded link bytes checks) (decoded6 link bytes checks) (four link bytes checks all) (six link bytes checks all)

-- a datagram that was put together
joined_six : (ip : IpHead) (bytes : List ℕ) (checks : Checks) → FitsIp ip → AreBytes bytes → IfOk (datagram_decoded6 ip bytes checks) FitsFields
unfolding datagram_decoded6
joined_six ip bytes checks fits all =
    bind-with FitsWalk FitsFields (walk_end most_headers (record { head = ip; place = 0; is_part = false }) bytes) (λ walk. cond walk.is_part (Err skip.Malformed) (upper_at walk bytes checks))
    (walk_fits most_headers (record { head = ip; place = 0; is_part = false }) bytes fits all)
    (λ walk fit. choose FitsFields walk.is_part (Err skip.Malformed) (upper_at walk bytes checks) tt (transport_fits walk.head bytes walk.place (length bytes) checks fit all))

joined_four : (ip : IpHead) (bytes : List ℕ) (checks : Checks) → FitsIp ip → AreBytes bytes → IfOk (datagram_decoded ip bytes checks) FitsFields
unfolding datagram_decoded
joined_four ip bytes checks fits all = transport_fits ip bytes 0 (length bytes) checks fits all

pub rebuilt_fits : (ip : IpHead) (bytes : List ℕ) (checks : Checks) → FitsIp ip → AreBytes bytes → IfOk (rebuilt_decoded ip bytes checks) FitsFields
unfolding rebuilt_decoded
rebuilt_fits ip bytes checks fits all =
    choose FitsFields (are_six ip.src ip.dst) (datagram_decoded6 ip bytes checks) (datagram_decoded ip bytes checks) (joined_six ip bytes checks fits all) (joined_four ip bytes checks fits all)
