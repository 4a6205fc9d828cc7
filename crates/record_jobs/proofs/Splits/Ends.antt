-- The packets of a record go between the addresses of what the record says, also those that are put together.
use Rattle.std.proofs.Common.{◌≡◌, ℕ, zero, suc, ◌+◌, ◌*◌, ◌/◌, Bool, true, false, cond, not, ◌&&◌, ◌||◌, nat_lt, ◌==◌, List}
use Rattle.std.proofs.Common.{length, Option, Some, None, Result, Ok, Err, refl, sym, ap, ◌∙◌, ◌⊎◌}
use Rattle.std.specs.Prelude.{IfOk, IsOkAnd}
use Rattle.std.specs.Option.{option_map, option_or}
use Rattle.std.specs.Result.{result_ok}
use Rattle.edge_io.specs.Bytes.{be16, byte_at, slice}
use Rattle.edge_io.specs.OnResult.{◌>>=◌}
use Rattle.edge_io.specs.declared.moment.Moment.{Moment}
use Rattle.packet_decode.specs.declared.checks.Checks.{Checks}
use Rattle.packet_decode.specs.declared.item.ItemKind.{ItemKind}
use Rattle.packet_decode.specs.declared.item.ItemKind.TheVariants as kind
use Rattle.packet_decode.specs.declared.packet.IpHead.{IpHead}
use Rattle.packet_decode.specs.declared.skip.Skip.{Skip}
use Rattle.packet_decode.specs.declared.skip.Skip.TheVariants as skip
use Rattle.packet_decode.specs.Decoding.{Fields, datagram_decoded, icmp_at, is_message_right, is_segment_right, tcp_at, transport_at, udp_at}
use Rattle.packet_decode.specs.Versions.{icmp_protocol, version_of}
use Rattle.ipv6_decode.specs.declared.walk.HeaderWalk.{HeaderWalk}
use Rattle.ipv6_decode.specs.Addresses.{HaveSameEnds}
use Rattle.ipv6_decode.specs.Decoding6.{datagram_decoded6, upper_at}
use Rattle.ipv6_decode.specs.Headers.{after_fragment_header, after_header, after_length_field, fragment_head, is_at_header, most_headers, walk_end}
use Rattle.ipv6_decode.specs.Versions.{are_six, rebuilt_decoded}
use Rattle.frag3_core.specs.declared.answer.Datagram.{Datagram}
use Rattle.record_jobs.specs.declared.item.RecordItem.{RecordItem}
use Rattle.record_jobs.specs.Packets.{datagram_in, datagram_item, datagram_said, is_fragment, item_of, packet_from, packet_in, said_by}
use Rattle.record_jobs.specs.Way.{LinkedRecord, Way}
use Rattle.record_jobs.proofs.Addresses.{ends}

-- ---- steps that may fail

bind-with : {A B E : Type 0} (P : A → Type 0) (Q : B → Type 0) (r : Result A E) (next : A → Result B E) → IfOk r P → ((a : A) → P a → IfOk (next a) Q) → IfOk (r >>= next) Q
bind-with P Q (Ok a) next h step = step a h
bind-with P Q (Err e) next h step = tt

choose : {A : Type 0} (Q : A → Type 0) (test : Bool) (x y : Result A Skip) → IfOk x Q → IfOk y Q → IfOk (cond test x y) Q
choose Q true x y one other = one
choose Q false x y one other = other

-- ---- a transport header changes nothing of the head
module _ (ip : IpHead) where
  abbrev HasHead : Fields → Type 0
  HasHead fields = fields.ip ≡ ip

  tcp_head : (bytes : List ℕ) (start stop : ℕ) (check : Bool) → IfOk (tcp_at ip bytes start stop check) HasHead
  unfolding tcp_at
  tcp_head bytes start stop check =
      let header_len = byte_at bytes (start + 12) / 16 * 4 in
      choose HasHead (nat_lt stop (start + 20)) (Err skip.Malformed) _ tt
      (choose HasHead (nat_lt header_len 20 || nat_lt stop (start + header_len)) (Err skip.Malformed) _ tt
      (choose HasHead (check && not (is_segment_right ip (slice bytes start stop))) (Err skip.Checksum) _ tt refl))

  udp_head : (bytes : List ℕ) (start stop : ℕ) (check : Bool) → IfOk (udp_at ip bytes start stop check) HasHead
  unfolding udp_at
  udp_head bytes start stop check =
      let len = be16 bytes (start + 4) in
      choose HasHead (nat_lt stop (start + 8)) (Err skip.Malformed) _ tt
      (choose HasHead (nat_lt len 8 || nat_lt stop (start + len)) (Err skip.Malformed) _ tt
      (choose HasHead (check && not (be16 bytes (start + 6) == 0) && not (is_segment_right ip (slice bytes start (start + len)))) (Err skip.Checksum) _ tt refl))

  icmp_head : (bytes : List ℕ) (start stop : ℕ) (check : Bool) → IfOk (icmp_at ip bytes start stop check) HasHead
  unfolding icmp_at
  icmp_head bytes start stop check =
      choose HasHead (nat_lt stop (start + 8)) (Err skip.Malformed) _ tt
      (choose HasHead (check && not (is_message_right (version_of ip.src) ip (slice bytes start stop))) (Err skip.Checksum) _ tt refl)

  transport_head : (bytes : List ℕ) (start stop : ℕ) (checks : Checks) → IfOk (transport_at ip bytes start stop checks) HasHead
  unfolding transport_at
  transport_head bytes start stop checks =
      choose HasHead (ip.protocol == 6) (tcp_at ip bytes start stop checks.tcp) _ (tcp_head bytes start stop checks.tcp)
      (choose HasHead (ip.protocol == 17) (udp_at ip bytes start stop checks.udp) _ (udp_head bytes start stop checks.udp)
      (choose HasHead (ip.protocol == icmp_protocol (version_of ip.src)) (icmp_at ip bytes start stop checks.icmp) _ (icmp_head bytes start stop checks.icmp) refl))

  -- extension headers don't change a packet's addresses
  abbrev HasEnds : HeaderWalk → Type 0
  HasEnds walk = HaveSameEnds walk.head ip

  header_ends : (walk : HeaderWalk) (bytes : List ℕ) → HasEnds walk → IfOk (after_header walk bytes) HasEnds
  unfolding after_header after_length_field after_fragment_header fragment_head
  header_ends walk bytes has =
      let end = walk.place + 8 + 8 * byte_at bytes (walk.place + 1) in
      choose HasEnds (walk.head.protocol == 44) (after_fragment_header walk bytes) (after_length_field walk bytes)
      (choose HasEnds (nat_lt (length bytes) (walk.place + 8)) (Err skip.Malformed) _ tt has)
      (choose HasEnds (nat_lt (length bytes) (walk.place + 2)) (Err skip.Malformed) _ tt
      (choose HasEnds (nat_lt (length bytes) end) (Err skip.Malformed) _ tt has))

  walk_ends : (left : ℕ) (walk : HeaderWalk) (bytes : List ℕ) → HasEnds walk → IfOk (walk_end left walk bytes) HasEnds
  unfolding walk_end
  walk_ends zero walk bytes has = choose HasEnds (is_at_header walk) (Err skip.Malformed) (Ok walk) tt has
  walk_ends (suc left) walk bytes has =
      choose HasEnds (is_at_header walk) (after_header walk bytes >>= (λ next. walk_end left next bytes)) (Ok walk)
      (bind-with HasEnds HasEnds (after_header walk bytes) (λ next. walk_end left next bytes) (header_ends walk bytes has) (λ next more. walk_ends left next bytes more)) has

-- what is read of a packet has the same ends as a header
abbrev IsBetween : IpHead → Fields → Type 0
IsBetween ip fields = HaveSameEnds fields.ip ip

moved : (ip head : IpHead) (r : Result Fields Skip) → HaveSameEnds head ip → IfOk r (HasHead head) → IfOk r (IsBetween ip)
moved ip head (Ok fields) has is = (ap (λ (h : IpHead). h.src) is ∙ has.0, ap (λ (h : IpHead). h.dst) is ∙ has.1)
moved ip head (Err why) has is = tt

joined_six : (ip : IpHead) (bytes : List ℕ) (checks : Checks) → IfOk (datagram_decoded6 ip bytes checks) (IsBetween ip)
unfolding datagram_decoded6
joined_six ip bytes checks =
    bind-with (HasEnds ip) (IsBetween ip) (walk_end most_headers (record { head = ip; place = 0; is_part = false }) bytes) (λ walk. cond walk.is_part (Err skip.Malformed) (upper_at walk bytes checks))
    (walk_ends ip most_headers (record { head = ip; place = 0; is_part = false }) bytes (refl, refl))
    (λ walk has. choose (IsBetween ip) walk.is_part (Err skip.Malformed) (upper_at walk bytes checks) tt
    (moved ip walk.head (upper_at walk bytes checks) has (transport_head walk.head bytes walk.place (length bytes) checks)))

joined_four : (ip : IpHead) (bytes : List ℕ) (checks : Checks) → IfOk (datagram_decoded ip bytes checks) (IsBetween ip)
unfolding datagram_decoded
joined_four ip bytes checks = moved ip ip (transport_at ip bytes 0 (length bytes) checks) (refl, refl) (transport_head ip bytes 0 (length bytes) checks)

rebuilt_ends : (ip : IpHead) (bytes : List ℕ) (checks : Checks) → IfOk (rebuilt_decoded ip bytes checks) (IsBetween ip)
unfolding rebuilt_decoded
rebuilt_ends ip bytes checks =
    choose (IsBetween ip) (are_six ip.src ip.dst) (datagram_decoded6 ip bytes checks) (datagram_decoded ip bytes checks) (joined_six ip bytes checks) (joined_four ip bytes checks)

-- ---- the packets of a record

-- a record says something, and a packet goes between the addresses of that
pub record GoesBetween (said : Result Fields Skip) (item : RecordItem) : Type 0 where
  pub fields : Fields
  pub is : said ≡ Ok fields
  pub src : item.head.ip.src ≡ fields.ip.src
  pub dst : item.head.ip.dst ≡ fields.ip.dst

some_same : {A : Type 0} (x y : A) → Some x ≡ Some y → x ≡ y
some_same x y is = cc

-- a datagram that can be read
of_datagram : (checks : Checks) (moment : Moment) (said : Result Fields Skip) (item : RecordItem) (datagram : Option Datagram)
    → ((d : Datagram) → datagram ≡ Some d → IsOkAnd said (λ fields. HaveSameEnds d.ip fields.ip)) → datagram_item checks moment datagram ≡ Some item → GoesBetween said item
of_datagram checks moment said item None between is = absurd cc
of_datagram checks moment said item (Some d) between is = by_read (datagram_said checks d) (rebuilt_ends d.ip d.bytes checks) is
  where
    by_said : (said : Result Fields Skip) → (fields : Fields) → HaveSameEnds fields.ip d.ip → item.head.ip ≡ fields.ip → IsOkAnd said (λ whole. HaveSameEnds d.ip whole.ip) → GoesBetween said item
    by_said (Ok whole) fields has same of =
        record { fields = whole; is = refl; src = ap (λ (h : IpHead). h.src) same ∙ has.0 ∙ of.0; dst = ap (λ (h : IpHead). h.dst) same ∙ has.1 ∙ of.1 }
    by_said (Err why) fields has same of = absurd of

    by_read : (read : Result Fields Skip) → IfOk read (IsBetween d.ip) → option_map (item_of kind.Rebuilt moment) (result_ok read) ≡ Some item → GoesBetween said item
    by_read (Ok fields) has is =
        let same : item.head.ip ≡ fields.ip = ap (λ (i : RecordItem). i.head.ip) (sym (some_same (item_of kind.Rebuilt moment fields) item is)) in
        by_said said fields has same (between d refl)
    by_read (Err why) has is = absurd cc

-- a packet, as it was captured or put together
of_packet : (way : Way) (moment : Moment) (said : Result Fields Skip) (item : RecordItem) (datagram : Option Datagram)
    → ((d : Datagram) → datagram ≡ Some d → IsOkAnd said (λ fields. HaveSameEnds d.ip fields.ip)) → packet_from way moment datagram said ≡ Some item → GoesBetween said item
of_packet way moment (Err why) item datagram between is = of_datagram way.checks moment (Err why) item datagram between is
of_packet way moment (Ok fields) item datagram between is = by_fragment (is_fragment fields.body) is
  where
    by_fragment : (b : Bool) → option_or (option_map (item_of kind.Packet moment) (cond b None (Some fields))) (datagram_item way.checks moment datagram) ≡ Some item → GoesBetween (Ok fields) item
    by_fragment true is = of_datagram way.checks moment (Ok fields) item datagram between is
    by_fragment false is =
        let same : item.head.ip ≡ fields.ip = ap (λ (i : RecordItem). i.head.ip) (sym (some_same (item_of kind.Packet moment fields) item is)) in
        record { fields = fields; is = refl; src = ap (λ (h : IpHead). h.src) same; dst = ap (λ (h : IpHead). h.dst) same }

pub packet-between : (way : Way) (before : List LinkedRecord) (r : LinkedRecord) (item : RecordItem) → packet_in way before r ≡ Some item → GoesBetween (said_by way r) item
unfolding packet_in
packet-between way before r item is =
    of_packet way r.captured.moment (said_by way r) item (datagram_in way before r) (λ d found. (ends way before r d found).ends) is
