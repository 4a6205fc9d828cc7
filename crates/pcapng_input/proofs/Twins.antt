-- A savefile and a pcapng file of the same packets give the same records.
use Rattle.std.proofs.Common.{◌≡◌, ◌/◌, ◌%◌, ℕ, ◌+◌, ◌*◌, ◌^◌, ◌<◌, ◌≤◌, Bool, true, false, List, [], ◌∷◌, ◌++◌, Option, Some}
use Rattle.std.proofs.Common.{None, Ok, length, take, drop, refl, sym, ap, subst, append_assoc, ◌∙◌, arith}
use Rattle.std.specs.Prelude.{◌-◌, ◌==◌, ◌&&◌, ◌||◌, if◌then◌else◌, map, nat_lt, nat_le, replicate}
use Rattle.std.specs.List.{All, flat_map}
use Rattle.std.proofs.lemmas.List.{append-nil, length-append, length-map, length-replicate, take-map, take_at, drop_at}
use Rattle.std.proofs.lemmas.List.Elements.{All-head, All-tail}
use Rattle.std.proofs.lemmas.Bool.Decides.{nat_tests}
use Rattle.byteorder.specs.Numbers.{big_number-reads_back, little_number-reads_back}
use Rattle.edge_io.specs.declared.link.Link.{Link}
use Rattle.edge_io.specs.declared.link.Link.TheVariants.{Ethernet, RawIp, Cooked}
use Rattle.pcap_input.specs.declared.capture.CaptureHead.{CaptureHead}
use Rattle.pcap_input.specs.declared.capture.Record.{Record}
use Rattle.pcap_input.specs.Cut.{Clean, clean_with, first_records, with_first}
use Rattle.pcap_input.specs.Savefile.{most_records, number_at, savefile}
use Rattle.pcap_input.proofs.Laws.{number_at-append}
use Rattle.edge_io.specs.declared.moment.Moment.{Moment}
use Rattle.pcapng_input.specs.declared.block.Block.{Block}
use Rattle.pcapng_input.specs.declared.block.BlockKind.TheVariants as kind
use Rattle.pcapng_input.specs.declared.content.PacketBlock.{PacketBlock}
use Rattle.pcapng_input.specs.declared.resolution.Resolution.TheVariants.{TenToMinus}
use Rattle.pcapng_input.specs.Moments.{moment_within, resolution_in, resolution_of_byte, ticks_a_second, moment_of as ng_moment}
use Rattle.pcapng_input.specs.declared.content.BlockContent.{BlockContent}
use Rattle.pcapng_input.specs.declared.content.BlockContent.TheVariants as content
use Rattle.pcapng_input.specs.declared.walk.Interface.{Interface}
use Rattle.pcapng_input.specs.declared.walk.Walk.{Walk}
use Rattle.pcapng_input.specs.Blocks.{Gives, Skips, content_of, enhanced_of, front_length, given_by, inner_length, interface_of}
use Rattle.pcapng_input.specs.Blocks.{is_full, is_sized, kind_of, known, link_of, other_block, packet_of, section_type, step_of}
use Rattle.pcapng_input.specs.Blocks.{first_walk, next_of as ng_next, ng_records, opening, order_of, section_of}
use Rattle.pcapng_input.specs.Blocks.{records_left as ng_left}
use Rattle.pcapng_input.proofs.Captures.Nexts.{next_of-gives, next_of-skips, next_of-stops}
use Rattle.pcapng_input.proofs.Captures.Records.{records_left-ends as ng_left-ends, records_left-same as ng_left-same, records_left-follows as ng_left-follows}
use Rattle.pcapng_input.specs.Options.{resolution_along, resolution_told}
use Rattle.pcapng_input.proofs.Blocks.Begins.{begun_other, begun_section, fronted-ok, known_fronted, section_known, step_begun, step_nothing}
use Rattle.pcapng_input.proofs.Blocks.Closing.{closing_whole, given-interface, given-packet, given-skipped}
use Rattle.pcapng_input.specs.Twins.{AreTwins, block_text, Caught, IsPcapngOf, IsWritable, a_second, held_from, interface_body}
use Rattle.pcapng_input.specs.Twins.{nanos_each, ng_text, number_of, held_as, on_link, packet_body, pcap_text, section_body, word}
use Rattle.pcapng_input.proofs.Savefiles.{savefile_is, word-length, word-reads}

-- ---- the pcapng file

-- the parts of a block, before what follows it
block-parts : (a b front inner last more : List ℕ) → (((a ++ b) ++ (front ++ inner)) ++ last) ++ more ≡ (a ++ b) ++ (front ++ ((inner ++ last) ++ more))
block-parts a b front inner last more =
    append_assoc ((a ++ b) ++ (front ++ inner)) last more ∙ append_assoc (a ++ b) (front ++ inner) (last ++ more)
    ∙ ap (λ xs. (a ++ b) ++ xs) (append_assoc front inner (last ++ more) ∙ ap (λ xs. front ++ xs) (sym (append_assoc inner last more)))

-- the walk in a section of this order
walk_in : Bool → List Interface → ℕ → Moment → ℕ → Walk
walk_in swapped interfaces number last at = record {
  section = record { swapped = swapped; interfaces = interfaces };
  number = number;
  last = last;
  at = at;
}

-- the first eight bytes of a block tell its type and its total length
two_read : (swapped : Bool) (a b : ℕ) → a < 2 ^ 32 → b < 2 ^ 32
    → (number_at swapped 0 4 (word swapped 4 a ++ word swapped 4 b) ≡ a) × (number_at swapped 4 4 (word swapped 4 a ++ word swapped 4 b) ≡ b)
unfolding word number_at
two_read true a b small_a small_b = (big_number-reads_back 4 a [] small_a, big_number-reads_back 4 b [] small_b)
two_read false a b small_a small_b = (little_number-reads_back 4 a [] small_a, little_number-reads_back 4 b [] small_b)

-- no section header: its type, in either order, is none
IsOther : ℕ → Type 0
IsOther kind = (kind < 2 ^ 32) × ((swapped : Bool) (total : ℕ) → number_at false 0 4 (word swapped 4 kind ++ word swapped 4 total) ≡ section_type → ⊥)

one_other : IsOther 1
unfolding IsOther word number_at
one_other = (omega arith, by_order)
  where
    by_order : (swapped : Bool) (total : ℕ) → number_at false 0 4 (word swapped 4 1 ++ word swapped 4 total) ≡ section_type → ⊥
    by_order true total is = omega (arith, is)
    by_order false total is = omega (arith, is)

six_other : IsOther 6
unfolding IsOther word number_at
six_other = (omega arith, by_order)
  where
    by_order : (swapped : Bool) (total : ℕ) → number_at false 0 4 (word swapped 4 6 ++ word swapped 4 total) ≡ section_type → ⊥
    by_order true total is = omega (arith, is)
    by_order false total is = omega (arith, is)

-- a block that is whole gives what its content says
block-given : (swapped : Bool) (interfaces : List Interface) (number at : ℕ) (last : Moment) (kind : ℕ) (front inner more : List ℕ) (told : BlockContent)
    → IsOther kind → 12 + length (front ++ inner) < 2 ^ 32 → number < 4294967295 → at < 2 ^ 62
    → is_sized (record { kind = kind_of kind; total = 12 + length (front ++ inner) }) ≡ true
    → length front ≡ front_length (kind_of kind) → length inner ≡ inner_length (record { kind = kind_of kind; total = 12 + length (front ++ inner) })
    → content_of (walk_in swapped interfaces number last at) (record { kind = kind_of kind; total = 12 + length (front ++ inner) }) front ≡ Ok told
    → step_of (walk_in swapped interfaces number last at) (block_text swapped kind (front ++ inner) ++ more)
    ≡ given_by (walk_in swapped interfaces number last at) (record { kind = kind_of kind; total = 12 + length (front ++ inner) }) told inner more
unfolding block_text walk_in IsOther
block-given swapped interfaces number at last kind front inner more told other small few near sized front_is inner_is content =
    let walk = walk_in swapped interfaces number last at in
    let total = 12 + length (front ++ inner) in
    let block : Block = record { kind = kind_of kind; total = total } in
    let first = word swapped 4 kind ++ word swapped 4 total in
    let eight : length first ≡ 8 = omega (
      arith,
      length-append (word swapped 4 kind) (word swapped 4 total),
      word-length swapped 4 kind,
      word-length swapped 4 total,
    ) in
    let room : is_full walk ≡ false = grind (arith, nat_tests) in
    let two = two_read swapped kind total other.0 small in
    let is_block : other_block swapped first ≡ block =
    ap (λ (n : ℕ). record { kind = kind_of n; total = number_at swapped 4 4 first }) two.0
    ∙ ap (λ (n : ℕ). record { kind = kind_of kind; total = n }) two.1 in
    let four = word-length swapped 4 total in
    let ends : (number_at swapped 0 4 (word swapped 4 total) == total) ≡ true =
    grind (
      arith,
      nat_tests,
      ap (number_at swapped 0 4) (sym (append-nil (word swapped 4 total))) ∙ word-reads swapped 4 total [] small,
    ) in
    ap (step_of walk) (block-parts (word swapped 4 kind) (word swapped 4 total) front inner (word swapped 4 total) more)
    ∙ step_begun walk first eight room (front ++ ((inner ++ word swapped 4 total) ++ more))
    ∙ begun_other walk first (other.1 swapped total) (front ++ ((inner ++ word swapped 4 total) ++ more))
    ∙ ap (λ (b : Block). known walk b (front ++ ((inner ++ word swapped 4 total) ++ more))) is_block
    ∙ known_fronted walk block front sized front_is ((inner ++ word swapped 4 total) ++ more)
    ∙ fronted-ok walk block front told content ((inner ++ word swapped 4 total) ++ more)
    ∙ closing_whole walk block told inner (word swapped 4 total) more true inner_is four ends

-- ---- an enhanced packet

-- the interface of the file
interface_is : Bool → Link → Interface
interface_is nanos link = record { link = number_of link; snaplen = 262144; resolution = TenToMinus (if nanos then 9 else 6) }

link_is : (link : Link) → link_of (number_of link) ≡ Some link
link_is Ethernet = refl
link_is RawIp = refl
link_is Cooked = refl

packet_front : Bool → Caught → List ℕ
packet_front swapped packet =
    word swapped 4 0 ++ word swapped 4 (packet.time / 2 ^ 32) ++ word swapped 4 (packet.time % 2 ^ 32)
    ++ word swapped 4 (length packet.bytes) ++ word swapped 4 packet.original

packet_front-length : (swapped : Bool) (packet : Caught) → length (packet_front swapped packet) ≡ 20
unfolding packet_front word
packet_front-length true packet = refl
packet_front-length false packet = refl

-- the five numbers that the front of a packet's block is read as
record FiveRead (swapped : Bool) (front : List ℕ) (a b c d e : ℕ) : Type 0 where
  first : number_at swapped 0 4 front ≡ a
  second : number_at swapped 4 4 front ≡ b
  third : number_at swapped 8 4 front ≡ c
  fourth : number_at swapped 12 4 front ≡ d
  fifth : number_at swapped 16 4 front ≡ e

five_read : (swapped : Bool) (a b c d e : ℕ) → a < 2 ^ 32 → b < 2 ^ 32 → c < 2 ^ 32 → d < 2 ^ 32 → e < 2 ^ 32
    → FiveRead swapped (word swapped 4 a ++ word swapped 4 b ++ word swapped 4 c ++ word swapped 4 d ++ word swapped 4 e) a b c d e
unfolding word number_at
five_read true a b c d e small_a small_b small_c small_d small_e = record {
  first = big_number-reads_back 4 a [] small_a;
  second = big_number-reads_back 4 b [] small_b;
  third = big_number-reads_back 4 c [] small_c;
  fourth = big_number-reads_back 4 d [] small_d;
  fifth = big_number-reads_back 4 e [] small_e;
}
five_read false a b c d e small_a small_b small_c small_d small_e = record {
  first = little_number-reads_back 4 a [] small_a;
  second = little_number-reads_back 4 b [] small_b;
  third = little_number-reads_back 4 c [] small_c;
  fourth = little_number-reads_back 4 d [] small_d;
  fifth = little_number-reads_back 4 e [] small_e;
}

-- the second has four bytes, so the time has eight, and its nanoseconds fit too
time_small : (nanos : Bool) (time : ℕ) → time / a_second nanos < 2 ^ 32 → (time / 2 ^ 32 < 2 ^ 32) × (time * nanos_each nanos < 2 ^ 64)
time_small true time small = (omega (arith, small), omega (arith, small))
time_small false time small = (omega (arith, small), omega (arith, small))

ticks_are : (nanos : Bool) (time : ℕ) → time * 1000000000 / ticks_a_second (TenToMinus (if nanos then 9 else 6)) ≡ time * nanos_each nanos
ticks_are true time = omega arith
ticks_are false time = omega arith

moment_is : (nanos : Bool) (time : ℕ) → time / a_second nanos < 2 ^ 32 → ng_moment (TenToMinus (if nanos then 9 else 6)) time ≡ Some (record { nanos = time * nanos_each nanos })
unfolding ng_moment
moment_is nanos time small =
    let fits : nat_lt (time * nanos_each nanos) (2 ^ 64) ≡ true = grind (arith, nat_tests, (time_small nanos time small).1) in
    ap moment_within (ticks_are nanos time) ∙ rw fits refl

packet_told : Bool → Link → Caught → PacketBlock
packet_told nanos link packet = record {
  link = link;
  moment = record { nanos = packet.time * nanos_each nanos };
  original = packet.original;
  captured = length packet.bytes;
}

packet_of-is : (walk : Walk) (block : Block) (interface : Interface) (link : Link) (moment : Moment) (original captured : ℕ)
    → link_of interface.link ≡ Some link
    → captured ≤ 262144
    → captured ≤ inner_length block
    → packet_of walk block interface (Some moment) original captured ≡
    Ok (content.Packet (record { link = link; moment = moment; original = original; captured = captured }))
unfolding packet_of
packet_of-is walk block interface link moment original captured is short fits =
    let one : nat_lt 262144 captured ≡ false = grind (arith, nat_tests) in
    let two : nat_lt (inner_length block) captured ≡ false = grind (arith, nat_tests) in
    rw (packet_of, is, one, two) refl

enhanced-front : (swapped nanos : Bool) (link : Link) (number at total : ℕ) (last : Moment) (front : List ℕ) → number_at swapped 0 4 front ≡ 0
    → content_of (walk_in swapped (interface_is nanos link ∷ []) number last at) (record { kind = kind.Enhanced; total = total }) front
    ≡ packet_of (walk_in swapped (interface_is nanos link ∷ []) number last at) (record { kind = kind.Enhanced; total = total }) (interface_is nanos link)
    (ng_moment (TenToMinus (if nanos then 9 else 6)) (number_at swapped 4 4 front * 2 ^ 32 + number_at swapped 8 4 front)) (number_at swapped 16 4 front) (number_at swapped 12 4 front)
unfolding content_of enhanced_of walk_in interface_is
enhanced-front swapped nanos link number at total last front is = rw (enhanced_of, is) refl

packet-content : (swapped nanos : Bool) (link : Link) (number at total : ℕ) (last : Moment) (packet : Caught)
    → IsWritable nanos packet
    → 32 + length packet.bytes ≤ total
    → content_of (walk_in swapped (interface_is nanos link ∷ []) number last at)
    (record { kind = kind.Enhanced; total = total })
    (packet_front swapped packet) ≡
    Ok (content.Packet (packet_told nanos link packet))
unfolding packet_front packet_told interface_is
packet-content swapped nanos link number at total last packet held fits =
    let walk = walk_in swapped (interface_is nanos link ∷ []) number last at in
    let block : Block = record { kind = kind.Enhanced; total = total } in
    let front = packet_front swapped packet in
    let time = packet.time in
    let five =
    five_read swapped 0 (time / 2 ^ 32) (time % 2 ^ 32) (length packet.bytes) packet.original (omega arith)
    (time_small nanos time held.second).0 (omega arith) (omega (arith, held.short)) held.length_on_wire in
    let ticks : number_at swapped 4 4 front * 2 ^ 32 + number_at swapped 8 4 front ≡ time =
    omega (arith, five.second, five.third) in
    let moment = ap (ng_moment (TenToMinus (if nanos then 9 else 6))) ticks ∙ moment_is nanos time held.second in
    enhanced-front swapped nanos link number at total last front five.first
    ∙ ap (λ m. packet_of walk block (interface_is nanos link) m (number_at swapped 16 4 front) (number_at swapped 12 4 front))
    moment
    ∙ ap (λ (n : ℕ). packet_of walk block (interface_is nanos link) (Some (record { nanos = time * nanos_each nanos })) n
    (number_at swapped 12 4 front)) five.fifth
    ∙ ap (λ (n : ℕ). packet_of walk block (interface_is nanos link) (Some (record { nanos = time * nanos_each nanos }))
    packet.original n) five.fourth
    ∙ packet_of-is walk block (interface_is nanos link) link _ packet.original (length packet.bytes) (link_is link) held.short
    (omega (arith, fits))

padding_of : Caught → List ℕ
padding_of packet = replicate ((4 - length packet.bytes % 4) % 4) 0

-- how long its block is
packet_total : Bool → Caught → ℕ
packet_total swapped packet = 12 + length (packet_front swapped packet ++ (packet.bytes ++ padding_of packet))

packet_total-is : (swapped : Bool) (packet : Caught) → packet_total swapped packet ≡ 32 + length packet.bytes + (4 - length packet.bytes % 4) % 4
unfolding packet_total padding_of
packet_total-is swapped packet =
    omega (
      arith,
      length-append (packet_front swapped packet) (packet.bytes ++ padding_of packet),
      length-append packet.bytes (padding_of packet),
      packet_front-length swapped packet,
      length-replicate {A = ℕ} ((4 - length packet.bytes % 4) % 4) 0,
    )

packet_total-short : (swapped : Bool) (packet : Caught) → length packet.bytes ≤ 262144 → packet_total swapped packet ≤ 262176
packet_total-short swapped packet short = omega (arith, packet_total-is swapped packet)

packet-sized : (swapped : Bool) (packet : Caught) → is_sized (record { kind = kind.Enhanced; total = packet_total swapped packet }) ≡ true
unfolding is_sized
packet-sized swapped packet =
    let total = packet_total swapped packet in
    let whole : (total % 4 == 0) ≡ true = grind (arith, nat_tests, packet_total-is swapped packet) in
    let least : nat_le 32 total ≡ true = grind (arith, nat_tests, packet_total-is swapped packet) in
    rw (whole, least) (any_or (nat_le total 1048576))
  where
    any_or : (test : Bool) → (test || true) ≡ true
    any_or true = refl
    any_or false = refl

-- the block gives the record, and the walk goes on
packet-given : (swapped nanos : Bool) (link : Link) (number at : ℕ) (last : Moment) (packet : Caught) (more : List ℕ) → IsWritable nanos packet → number < 4294967295 → at < 2 ^ 62
    → step_of (walk_in swapped (interface_is nanos link ∷ []) number last at) (block_text swapped 6 (packet_body swapped packet) ++ more)
    ≡ Gives (on_link link (held_as number nanos packet))
    (walk_in swapped (interface_is nanos link ∷ []) (number + 1) (record { nanos = packet.time * nanos_each nanos }) (at + packet_total swapped packet)) more
unfolding packet_total padding_of packet_front packet_told walk_in
packet-given swapped nanos link number at last packet more held few near =
    let inner = packet.bytes ++ padding_of packet in
    let total = packet_total swapped packet in
    let block : Block = record { kind = kind.Enhanced; total = total } in
    let is = packet_total-is swapped packet in
    let inner_is : length inner ≡ inner_length block =
    omega (arith, is, length-append packet.bytes (padding_of packet), length-replicate {A = ℕ} ((4 - length packet.bytes % 4) % 4) 0) in
    block-given swapped (interface_is nanos link ∷ []) number at last 6 (packet_front swapped packet) inner more (content.Packet (packet_told nanos link packet))
    six_other (omega (arith, packet_total-short swapped packet held.short)) few near (packet-sized swapped packet) (packet_front-length swapped packet) inner_is
    (packet-content swapped nanos link number at total last packet held (omega (arith, is)))
    ∙ given-packet (walk_in swapped (interface_is nanos link ∷ []) number last at) block (packet_told nanos link packet) packet.bytes (padding_of packet) more refl

packets-are : (swapped nanos : Bool) (link : Link) (number at : ℕ) (last : Moment) (packets : List Caught)
    → All (IsWritable nanos) packets
    → number + length packets ≤ 4294967295
    → at ≤ 60 + number * 262176
    → ng_left (walk_in swapped (interface_is nanos link ∷ []) number last at)
    (flat_map (λ packet. block_text swapped 6 (packet_body swapped packet)) packets)
    ≡ clean_with (map (on_link link) (held_from number nanos packets))
unfolding held_from
packets-are swapped nanos link number at last [] all few near = ng_left-ends _ [] Clean (next_of-stops _ [] Clean (step_nothing _))
packets-are swapped nanos link number at last (packet ∷ packets) all few near =
    let walk = walk_in swapped (interface_is nanos link ∷ []) number last at in
    let held = All-head (IsWritable nanos) packet packets all in
    let more = flat_map (λ packet. block_text swapped 6 (packet_body swapped packet)) packets in
    let text = block_text swapped 6 (packet_body swapped packet) ++ more in
    let first = on_link link (held_as number nanos packet) in
    let moment : Moment = record { nanos = packet.time * nanos_each nanos } in
    let after = walk_in swapped (interface_is nanos link ∷ []) (number + 1) moment (at + packet_total swapped packet) in
    ng_left-follows walk text first after more (next_of-gives walk text first after more (packet-given swapped nanos link number at last packet more held (omega arith) (omega arith)))
    ∙ ap (with_first first)
    (packets-are swapped nanos link (number + 1) (at + packet_total swapped packet) moment packets (All-tail (IsWritable nanos) packet packets all) (omega arith)
    (omega (arith, packet_total-short swapped packet held.short)))

-- ---- the section header and the interface

interface_front : Bool → Link → List ℕ
interface_front swapped link = word swapped 2 (number_of link) ++ word swapped 2 0 ++ word swapped 4 262144

interface_options : Bool → Bool → List ℕ
interface_options swapped nanos = word swapped 2 9 ++ word swapped 2 1 ++ (if nanos then 9 else 6) ∷ 0 ∷ 0 ∷ 0 ∷ word swapped 4 0

interface-content : (swapped : Bool) (link : Link)
    → content_of (walk_in swapped [] 0 (record { nanos = 0 }) 28)
    (record { kind = kind.Interface; total = 32 })
    (interface_front swapped link) ≡
    Ok (content.Interface (number_of link) 262144)
unfolding content_of interface_of interface_front walk_in word number_at
interface-content true Ethernet = refl
interface-content true RawIp = refl
interface-content true Cooked = refl
interface-content false Ethernet = refl
interface-content false RawIp = refl
interface-content false Cooked = refl

options-told : (swapped nanos : Bool) → resolution_told swapped (interface_options swapped nanos) ≡ Some (TenToMinus (if nanos then 9 else 6))
unfolding resolution_told resolution_along resolution_in resolution_of_byte interface_options word number_at
options-told true true = refl
options-told true false = refl
options-told false true = refl
options-told false false = refl

interface_front-length : (swapped : Bool) (link : Link) → length (interface_front swapped link) ≡ 8
unfolding interface_front word
interface_front-length true link = refl
interface_front-length false link = refl

interface_options-length : (swapped nanos : Bool) → length (interface_options swapped nanos) ≡ 12
unfolding interface_options word
interface_options-length true nanos = refl
interface_options-length false nanos = refl

interface-skipped : (swapped nanos : Bool) (link : Link) (more : List ℕ)
    → step_of (walk_in swapped [] 0 (record { nanos = 0 }) 28) (block_text swapped 1 (interface_body swapped nanos link) ++ more)
    ≡ Skips (walk_in swapped (interface_is nanos link ∷ []) 0 (record { nanos = 0 }) 60) more
unfolding interface_front interface_options interface_is walk_in is_sized
interface-skipped swapped nanos link more =
    let front = interface_front swapped link in
    let inner = interface_options swapped nanos in
    let front_is = interface_front-length swapped link in
    let inner_is = interface_options-length swapped nanos in
    let total : 12 + length (front ++ inner) ≡ 32 = omega (arith, length-append front inner, front_is, inner_is) in
    let walk = walk_in swapped [] 0 (record { nanos = 0 }) 28 in
    subst (λ (n : ℕ). n < 2 ^ 32 → is_sized (record { kind = kind.Interface; total = n }) ≡ true →
    length inner ≡ inner_length (record { kind = kind.Interface; total = n })
    → content_of walk (record { kind = kind.Interface; total = n }) front ≡ Ok (content.Interface (number_of link) 262144)
    → step_of walk (block_text swapped 1 (front ++ inner) ++ more) ≡
    given_by walk (record { kind = kind.Interface; total = n }) (content.Interface (number_of link) 262144) inner more)
    total
    (λ small sized is told. block-given swapped [] 0 28 (record { nanos = 0 }) 1 front inner more
    (content.Interface (number_of link) 262144) one_other small
    (omega arith) (omega arith) sized front_is is told)
    (omega arith) refl inner_is (interface-content swapped link)
    ∙ given-interface walk (record { kind = kind.Interface; total = 32 })
    (number_of link) 262144 inner more (TenToMinus (if nanos then 9 else 6)) (options-told swapped nanos)

section_first : Bool → List ℕ
section_first swapped = word swapped 4 section_type ++ word swapped 4 28

section_front : Bool → List ℕ
section_front swapped = word swapped 2 1 ++ word swapped 2 0 ++ replicate 8 255

section-parts : (swapped : Bool) (more : List ℕ) → block_text swapped section_type (section_body swapped) ++ more
    ≡ section_first swapped ++ (word swapped 4 0x1a2b_3c4d ++ (section_front swapped ++ (([] ++ word swapped 4 28) ++ more)))
unfolding block_text section_first section_front word
section-parts true more = refl
section-parts false more = refl

-- the parts of a section header, and what they tell
record IsSection (swapped : Bool) : Type 0 where
  eight : length (section_first swapped) ≡ 8
  type_is : number_at false 0 4 (section_first swapped) ≡ section_type
  total_is : number_at swapped 4 4 (section_first swapped) ≡ 28
  order_is : order_of (word swapped 4 0x1a2b_3c4d) ≡ Some swapped
  front_is : length (section_front swapped) ≡ 12
  major_is : number_at swapped 0 2 (section_front swapped) ≡ 1
  ends : (number_at swapped 0 4 (word swapped 4 28) == 28) ≡ true

section-is : (swapped : Bool) → IsSection swapped
unfolding section_first section_front order_of word number_at
section-is true = record { eight = refl; type_is = refl; total_is = refl; order_is = refl; front_is = refl; major_is = refl; ends = refl }
section-is false = record { eight = refl; type_is = refl; total_is = refl; order_is = refl; front_is = refl; major_is = refl; ends = refl }

section-content : (swapped : Bool) (walk : Walk) (block : Block)
    → walk.section.swapped ≡ swapped
    → number_at swapped 0 2 (section_front swapped) ≡ 1
    → section_of walk (section_front swapped) ≡ Ok content.Skipped
unfolding section_of
section-content swapped walk block order is =
    let major : number_at walk.section.swapped 0 2 (section_front swapped) ≡ 1 = ap (λ o. number_at o 0 2 (section_front swapped)) order ∙ is in
    rw major refl

section-skipped : (swapped : Bool) (more : List ℕ) → step_of first_walk (block_text swapped section_type (section_body swapped) ++ more) ≡ Skips (walk_in swapped [] 0 (record { nanos = 0 }) 28) more
unfolding walk_in content_of is_sized
section-skipped swapped more =
    let is = section-is swapped in
    let magic = word swapped 4 0x1a2b_3c4d in
    let walk = walk_in swapped [] 0 (record { nanos = 0 }) 0 in
    let block : Block = record { kind = kind.Section; total = 28 } in
    let last = ([] ++ word swapped 4 28) ++ more in
    ap (step_of first_walk) (section-parts swapped more)
    ∙ step_begun first_walk (section_first swapped) is.eight refl (magic ++ (section_front swapped ++ last))
    ∙ begun_section first_walk (section_first swapped) is.type_is (magic ++ (section_front swapped ++ last))
    ∙ section_known first_walk (section_first swapped) magic swapped (word-length swapped 4 0x1a2b_3c4d) is.order_is (section_front swapped ++ last)
    ∙ ap (λ (n : ℕ). known walk (record { kind = kind.Section; total = n }) (section_front swapped ++ last)) is.total_is
    ∙ known_fronted walk block (section_front swapped) refl is.front_is last
    ∙ fronted-ok walk block (section_front swapped) content.Skipped (section-content swapped walk block refl is.major_is) last
    ∙ closing_whole walk block content.Skipped [] (word swapped 4 28) more true refl (word-length swapped 4 28) is.ends
    ∙ given-skipped walk block [] more

opening-on : (bytes : List ℕ) (swapped : Bool)
    → (nat_le 4 (length bytes) && (number_at false 0 4 bytes == section_type)) ≡ true
    → nat_lt (length bytes) 12 ≡ false
    → order_of (take 4 (drop 8 bytes)) ≡ Some swapped
    → opening bytes ≡ step_of first_walk bytes
unfolding opening
opening-on bytes swapped one two three = rw (opening, one, two, three) refl

-- a section header as it is written opens a file: the first block is skipped
section-opens : (swapped : Bool) (more : List ℕ) → opening (block_text swapped section_type (section_body swapped) ++ more) ≡ Skips (walk_in swapped [] 0 (record { nanos = 0 }) 28) more
unfolding opening
section-opens swapped more =
    let is = section-is swapped in
    let rest = word swapped 4 0x1a2b_3c4d ++ (section_front swapped ++ (([] ++ word swapped 4 28) ++ more)) in
    let bytes = section_first swapped ++ rest in
    let parts = section-parts swapped more in
    let long : 12 ≤ length bytes = omega (
      arith,
      length-append (section_first swapped) rest,
      is.eight,
      length-append (word swapped 4 0x1a2b_3c4d) (section_front swapped ++ (([] ++ word swapped 4 28) ++ more)),
      word-length swapped 4 0x1a2b_3c4d,
    ) in
    let type_is : number_at false 0 4 bytes ≡ section_type =
    number_at-append false 0 4 (section_first swapped) rest (omega (arith, is.eight)) ∙ is.type_is in
    let begins : (nat_le 4 (length bytes) && (number_at false 0 4 bytes == section_type)) ≡ true =
    grind (arith, nat_tests, type_is) in
    let enough : nat_lt (length bytes) 12 ≡ false = grind (arith, nat_tests) in
    let after : drop 8 bytes ≡ rest = drop_at (section_first swapped) rest 8 is.eight in
    let magic : take 4 (drop 8 bytes) ≡ word swapped 4 0x1a2b_3c4d =
    ap (take 4) after
    ∙ take_at (word swapped 4 0x1a2b_3c4d) (section_front swapped ++ (([] ++ word swapped 4 28) ++ more)) 4
    (word-length swapped 4 0x1a2b_3c4d) in
    ap opening parts
    ∙ opening-on bytes swapped begins enough (ap order_of magic ∙ is.order_is)
    ∙ ap (step_of first_walk) (sym parts)
    ∙ section-skipped swapped more

-- ---- whole

ng_records-with : (bytes more : List ℕ) (after : Walk) (limit : Option ℕ) → opening bytes ≡ Skips after more → ng_records bytes limit ≡ Ok (first_records limit (ng_left first_walk bytes))
unfolding ng_records
ng_records-with bytes more after limit is = rw (ng_records, is) refl

pcapng_is : (swapped nanos : Bool) (link : Link) (packets : List Caught) (limit : Option ℕ) → All (IsWritable nanos) packets → length packets ≤ most_records
    → ng_records (ng_text swapped nanos link packets) limit ≡ Ok (first_records limit (clean_with (map (on_link link) (held_from 0 nanos packets))))
unfolding ng_text
pcapng_is swapped nanos link packets limit all few =
    let last = flat_map (λ packet. block_text swapped 6 (packet_body swapped packet)) packets in
    let interface = block_text swapped 1 (interface_body swapped nanos link) ++ last in
    let text = block_text swapped section_type (section_body swapped) ++ interface in
    let none : Moment = record { nanos = 0 } in
    let in_section = walk_in swapped [] 0 none 28 in
    let with_interface = walk_in swapped (interface_is nanos link ∷ []) 0 none 60 in
    let next : ng_next first_walk text ≡ ng_next with_interface last =
    next_of-skips first_walk text in_section interface (section-skipped swapped interface)
    ∙ next_of-skips in_section interface with_interface last (interface-skipped swapped nanos link last) in
    ng_records-with text interface in_section limit (section-opens swapped interface)
    ∙ ap (λ cut. Ok (first_records limit cut))
    (ng_left-same first_walk with_interface text last next ∙ packets-are swapped nanos link 0 60 none packets all (omega (arith, few)) (omega arith))

-- the file is read as what was written
pub ng_text-read : (swapped nanos : Bool) (link : Link) (packets : List Caught) → All (IsWritable nanos) packets → length packets ≤ most_records → IsPcapngOf swapped nanos link packets
unfolding first_records
ng_text-read swapped nanos link packets all few = pcapng_is swapped nanos link packets None all few

-- the first records of both are the same
cuts-twins : (head : CaptureHead) (records : List Record) (limit : Option ℕ)
    → AreTwins (Ok (record { head = head; cut = first_records limit (clean_with records) }))
    (Ok (first_records limit (clean_with (map (on_link head.link) records))))
unfolding first_records
cuts-twins head records None = (refl, refl, refl)
cuts-twins head records (Some limit) =
    let same : nat_le limit (length (map (on_link head.link) records)) ≡ nat_le limit (length records) = ap (nat_le limit) (length-map records (on_link head.link)) in
    rw same (by_test (nat_le limit (length records)))
  where
    by_test : (test : Bool) → AreTwins (Ok (record { head = head; cut = if test then clean_with (take limit records) else clean_with records }))
        (Ok (if test then clean_with (take limit (map (on_link head.link) records)) else clean_with (map (on_link head.link) records)))
    by_test true = (take-map (on_link head.link) limit records, refl, refl)
    by_test false = (refl, refl, refl)

pub texts-twins : (swapped other nanos : Bool) (link : Link) (packets : List Caught) (limit : Option ℕ) → All (IsWritable nanos) packets → length packets ≤ most_records
    → AreTwins (savefile (pcap_text swapped nanos link packets) limit) (ng_records (ng_text other nanos link packets) limit)
texts-twins swapped other nanos link packets limit all few =
    let head : CaptureHead = record { link = link; swapped = swapped; nanos = nanos } in
    subst (λ capture. AreTwins capture (ng_records (ng_text other nanos link packets) limit)) (sym (savefile_is swapped nanos link packets limit all few))
    (subst (AreTwins (Ok (record { head = head; cut = first_records limit (clean_with (held_from 0 nanos packets)) })))
    (sym (pcapng_is other nanos link packets limit all few)) (cuts-twins head (held_from 0 nanos packets) limit))
