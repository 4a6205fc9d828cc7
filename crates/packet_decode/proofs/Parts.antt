-- A part of a record reads as the record does: a place in the part is a place further on in the
-- record. So the transport header, which the code reads in a slice, is the one that the definition
-- names by places in the whole record.
use Rattle.std.proofs.Common.{◌≡◌, ℕ, ◌+◌, ◌-◌, ◌*◌, ◌/◌, ◌<◌, ◌≤◌, List, length, take, drop, get_or, Bool, true, false, None}
use Rattle.std.proofs.Common.{Result, Ok, nat_lt, refl, sym, ap, ◌∙◌, arith, ⊎_elim, length-drop, length-take-le}
use Rattle.std.proofs.lemmas.List.{get_or-take, get_or-drop, drop-take, take-take, drop-drop}
use Rattle.std.proofs.lemmas.Bool.{cases_lt, lt-ltb, le-ltb, or_right}
use Rattle.std.proofs.lemmas.Bool.Decides.{nat_tests}
use Rattle.packet_decode.specs.declared.checks.Checks.{Checks}
use Rattle.packet_decode.specs.declared.packet.IpHead.{IpHead}
use Rattle.edge_io.proofs.Bytes.{be16-bytes, be32-halves}
use Rattle.edge_io.specs.Bytes.{byte_at, be16, be32, slice}
use Rattle.packet_decode.specs.declared.placed.Placed.{Placed}
use Rattle.packet_decode.specs.declared.skip.Skip.{Skip}
use Rattle.packet_decode.specs.Decoding.{Fields, tcp_head_at, tcp_at, udp_at, icmp_at, transport_at, datagram_decoded, placed}

-- the part of a record from one place to another
pub record IsPart (bytes part : List ℕ) (start stop : ℕ) : Type 0 where
  pub is : part ≡ slice bytes start stop
  pub in_order : start ≤ stop
  pub captured : stop ≤ length bytes

pub part_length : {bytes part : List ℕ} {start stop : ℕ} → IsPart bytes part start stop → length part ≡ stop - start
part_length {bytes = bytes} {part = part} {start = start} {stop = stop} p =
    ap length p.is ∙ length-take-le (stop - start) (drop start bytes) (omega (arith, length-drop start bytes))

pub part_byte : {bytes part : List ℕ} {start stop : ℕ} → IsPart bytes part start stop → (i place : ℕ) → place ≡ start + i → place < stop → byte_at part i ≡ byte_at bytes place
part_byte {bytes = bytes} {part = part} {start = start} {stop = stop} p i place at within =
    ap (λ (s : List ℕ). get_or s i 0) p.is
    ∙ get_or-take (stop - start) (drop start bytes) i 0 (omega arith)
    ∙ get_or-drop start bytes i 0
    ∙ ap (λ (n : ℕ). get_or bytes n 0) (sym at)

pub part_be16 : {bytes part : List ℕ} {start stop : ℕ} → IsPart bytes part start stop → (i place : ℕ) → place ≡ start + i → place + 2 ≤ stop → be16 part i ≡ be16 bytes place
part_be16 {bytes = bytes} {part = part} p i place at within =
    let high = part_byte p i place at (omega arith) in
    let low = part_byte p (i + 1) (place + 1) (omega arith) (omega arith) in
    let here = be16-bytes part i in
    let there = be16-bytes bytes place in
    cc

pub part_be32 : {bytes part : List ℕ} {start stop : ℕ} → IsPart bytes part start stop → (i place : ℕ) → place ≡ start + i → place + 4 ≤ stop → be32 part i ≡ be32 bytes place
part_be32 {bytes = bytes} {part = part} p i place at within =
    let high = part_be16 p i place at (omega arith) in
    let low = part_be16 p (i + 2) (place + 2) (omega arith) (omega arith) in
    let here = be32-halves part i in
    let there = be32-halves bytes place in
    cc

pub part_slice : {bytes part : List ℕ} {start stop : ℕ} → IsPart bytes part start stop → (i j from to : ℕ) → from ≡ start + i → to ≡ start + j → to ≤ stop → slice part i j ≡ slice bytes from to
part_slice {bytes = bytes} {part = part} {start = start} {stop = stop} p i j from to at_from at_to within =
    ⊎_elim
    (λ after.
    let nothing : j - i ≡ 0 = omega arith in
    let nothing_too : to - from ≡ 0 = omega arith in
    ap (λ (n : ℕ). take n (drop i part)) nothing ∙ ap (λ (n : ℕ). take n (drop from bytes)) (sym nothing_too))
    (λ ordered.
    let room : stop - start ≡ i + (stop - start - i) = omega arith in
    ap (λ (s : List ℕ). take (j - i) (drop i s)) p.is
    ∙ ap (λ (n : ℕ). take (j - i) (drop i (take n (drop start bytes)))) room
    ∙ ap (take (j - i)) (drop-take i (stop - start - i) (drop start bytes))
    ∙ take-take (j - i) (stop - start - i) (drop i (drop start bytes)) (omega arith)
    ∙ ap (take (j - i)) (drop-drop i start bytes)
    ∙ ap (λ (n : ℕ). take n (drop (start + i) bytes)) (omega arith)
    ∙ ap (λ (n : ℕ). take (to - from) (drop n bytes)) (sym at_from))
    (cases_lt j i)

-- the header of a TCP segment
tcp_head_part : {bytes part : List ℕ} {start stop : ℕ} → IsPart bytes part start stop → start + 20 ≤ stop → tcp_head_at part 0 ≡ tcp_head_at bytes start
unfolding tcp_head_at
tcp_head_part {start = start} p long =
    let sport = part_be16 p 0 start (omega arith) (omega arith) in
    let dport = part_be16 p 2 (start + 2) refl (omega arith) in
    let seq = part_be32 p 4 (start + 4) refl (omega arith) in
    let ack = part_be32 p 8 (start + 8) refl (omega arith) in
    let flags = part_byte p 13 (start + 13) refl (omega arith) in
    let window = part_be16 p 14 (start + 14) refl (omega arith) in
    cc

-- a TCP segment
tcp_part : {bytes part : List ℕ} {start stop : ℕ} → IsPart bytes part start stop → (ip : IpHead) (check : Bool) → tcp_at ip part 0 (length part) check ≡ tcp_at ip bytes start stop check
unfolding tcp_at
tcp_part {bytes = bytes} {part = part} {start = start} {stop = stop} p ip check =
    let len : length part ≡ stop - start = part_length p in
    let whole : slice part 0 (length part) ≡ slice bytes start stop = part_slice p 0 (length part) start stop (omega arith) (omega (arith, p.in_order)) (omega arith) in
    ⊎_elim
    (λ short.
    let here : nat_lt (length part) 20 ≡ true = lt-ltb (length part) 20 (omega arith) in
    let there : nat_lt stop (start + 20) ≡ true = lt-ltb stop (start + 20) short in
    rw (here, there) refl)
    (λ long.
    let here : nat_lt (length part) 20 ≡ false = le-ltb (length part) 20 (omega (arith, p.in_order)) in
    let there : nat_lt stop (start + 20) ≡ false = le-ltb stop (start + 20) long in
    let offset : byte_at part 12 ≡ byte_at bytes (start + 12) = part_byte p 12 (start + 12) refl (omega arith) in
    let head = tcp_head_part p long in
    let passes : nat_lt (length part) (0 + byte_at bytes (start + 12) / 16 * 4) ≡ nat_lt stop (start + byte_at bytes (start + 12) / 16 * 4) = grind (arith, nat_tests, p.in_order) in
    let payload : slice part (0 + byte_at bytes (start + 12) / 16 * 4) (length part) ≡ slice bytes (start + byte_at bytes (start + 12) / 16 * 4) stop =
    part_slice p (0 + byte_at bytes (start + 12) / 16 * 4) (length part) (start + byte_at bytes (start + 12) / 16 * 4) stop (omega arith) (omega (arith, p.in_order)) (omega arith) in
    cc)
    (cases_lt stop (start + 20))

-- an ICMP message
icmp_part : {bytes part : List ℕ} {start stop : ℕ} → IsPart bytes part start stop → (ip : IpHead) (check : Bool) → icmp_at ip part 0 (length part) check ≡ icmp_at ip bytes start stop check
unfolding icmp_at
icmp_part {bytes = bytes} {part = part} {start = start} {stop = stop} p ip check =
    let len : length part ≡ stop - start = part_length p in
    let whole : slice part 0 (length part) ≡ slice bytes start stop = part_slice p 0 (length part) start stop (omega arith) (omega (arith, p.in_order)) (omega arith) in
    ⊎_elim
    (λ short.
    let here : nat_lt (length part) 8 ≡ true = lt-ltb (length part) 8 (omega arith) in
    let there : nat_lt stop (start + 8) ≡ true = lt-ltb stop (start + 8) short in
    rw (here, there) refl)
    (λ long.
    let here : nat_lt (length part) 8 ≡ false = le-ltb (length part) 8 (omega (arith, p.in_order)) in
    let there : nat_lt stop (start + 8) ≡ false = le-ltb stop (start + 8) long in
    let kind = part_byte p 0 start (omega arith) (omega arith) in
    let code = part_byte p 1 (start + 1) refl (omega arith) in
    let id = part_be16 p 4 (start + 4) refl (omega arith) in
    let seq = part_be16 p 6 (start + 6) refl (omega arith) in
    let payload = part_slice p 8 (length part) (start + 8) stop refl (omega (arith, p.in_order)) (omega arith) in
    cc)
    (cases_lt stop (start + 8))

-- a UDP datagram
udp_part : {bytes part : List ℕ} {start stop : ℕ} → IsPart bytes part start stop → (ip : IpHead) (check : Bool) → udp_at ip part 0 (length part) check ≡ udp_at ip bytes start stop check
unfolding udp_at
udp_part {bytes = bytes} {part = part} {start = start} {stop = stop} p ip check =
    let len : length part ≡ stop - start = part_length p in
    ⊎_elim
    (λ short.
    let here : nat_lt (length part) 8 ≡ true = lt-ltb (length part) 8 (omega arith) in
    let there : nat_lt stop (start + 8) ≡ true = lt-ltb stop (start + 8) short in
    rw (here, there) refl)
    (λ long.
    let here : nat_lt (length part) 8 ≡ false = le-ltb (length part) 8 (omega (arith, p.in_order)) in
    let there : nat_lt stop (start + 8) ≡ false = le-ltb stop (start + 8) long in
    let same_len : be16 part 4 ≡ be16 bytes (start + 4) = part_be16 p 4 (start + 4) refl (omega arith) in
    let sum = part_be16 p 6 (start + 6) refl (omega arith) in
    let sport = part_be16 p 0 start (omega arith) (omega arith) in
    let dport = part_be16 p 2 (start + 2) refl (omega arith) in
    let passes : nat_lt (length part) (0 + be16 bytes (start + 4)) ≡ nat_lt stop (start + be16 bytes (start + 4)) = grind (arith, nat_tests, p.in_order) in
    ⊎_elim
    (λ cut.
    let past : nat_lt stop (start + be16 bytes (start + 4)) ≡ true = lt-ltb stop (start + be16 bytes (start + 4)) cut in
    let malformed = or_right (nat_lt (be16 bytes (start + 4)) 8) (nat_lt stop (start + be16 bytes (start + 4))) past in
    rw (here, there, same_len, passes, malformed) refl)
    (λ inside.
    let whole = part_slice p 0 (0 + be16 bytes (start + 4)) start (start + be16 bytes (start + 4)) (omega arith) (omega arith) inside in
    let payload = part_slice p 8 (0 + be16 bytes (start + 4)) (start + 8) (start + be16 bytes (start + 4)) refl (omega arith) inside in
    cc)
    (cases_lt stop (start + be16 bytes (start + 4))))
    (cases_lt stop (start + 8))

-- the data of a datagram, whatever they carry
pub transport_part : {bytes part : List ℕ} {start stop : ℕ} → IsPart bytes part start stop → (ip : IpHead) (checks : Checks) → datagram_decoded ip part checks ≡ transport_at ip bytes start stop checks
unfolding datagram_decoded transport_at
transport_part {bytes = bytes} {part = part} {start = start} {stop = stop} p ip checks =
    let whole : slice part 0 (length part) ≡ slice bytes start stop = part_slice p 0 (length part) start stop (omega arith) (omega (arith, p.in_order, part_length p)) (omega arith) in
    rw (tcp_part p ip checks.tcp, udp_part p ip checks.udp, icmp_part p ip checks.icmp, whole) refl

-- a packet that was read from a part lies so much further on in the record
pub placed_part : {bytes part : List ℕ} {start stop : ℕ}
    → IsPart bytes part start stop
    → (packet : Placed)
    → packet.start + packet.len ≤ length part
    → placed part None packet ≡ placed bytes None (record packet { start = packet.start + start })
placed_part {bytes = bytes} {part = part} {start = start} {stop = stop} p packet within = ap carrying same
  where
    carrying : List ℕ → Result Fields Skip
    carrying payload = Ok (record { ip = packet.ip; body = packet.body; payload = payload })

    here : packet.start + packet.len - packet.start ≡ packet.len
    here = omega arith

    there : packet.start + start + packet.len - (packet.start + start) ≡ packet.len
    there = omega arith

    captured : packet.start + start + packet.len ≤ stop
    captured = omega (arith, part_length p, p.in_order, within)

    same : take packet.len (drop packet.start part) ≡ take packet.len (drop (packet.start + start) bytes)
    same =
        ap (λ (n : ℕ). take n (drop packet.start part)) (sym here)
        ∙ part_slice p packet.start (packet.start + packet.len) (packet.start + start) (packet.start + start + packet.len) (omega arith) (omega arith) captured
        ∙ ap (λ (n : ℕ). take n (drop (packet.start + start) bytes)) there
