-- A savefile is read as the packets that were written.
use Rattle.std.proofs.Common.{◌≡◌, ◌/◌, ◌%◌, ℕ, ◌+◌, ◌*◌, ◌^◌, ◌<◌, ◌≤◌, Bool, true, false, List, [], ◌∷◌, ◌++◌, Option, None, Ok, length, drop, refl, ap, subst, append_assoc, ◌∙◌, arith}
use Rattle.std.specs.Prelude.{if◌then◌else◌}
use Rattle.std.specs.List.{All, flat_map}
use Rattle.std.proofs.lemmas.List.{append-nil, drop_at}
use Rattle.std.proofs.lemmas.List.Elements.{All-head, All-tail}
use Rattle.byteorder.specs.Numbers.{length-bytes_high_first, length-bytes_low_first, big_number-reads_back, little_number-reads_back}
use Rattle.edge_io.specs.declared.link.Link.{Link}
use Rattle.edge_io.specs.declared.link.Link.TheVariants.{Ethernet, RawIp, Cooked}
use Rattle.pcap_input.specs.declared.capture.CaptureHead.{CaptureHead}
use Rattle.pcap_input.specs.declared.capture.CaptureFault.{CaptureFault}
use Rattle.pcap_input.specs.declared.capture.Record.{Record}
use Rattle.pcap_input.specs.Cut.{Clean, Cut, clean_with, first_records, with_first}
use Rattle.pcap_input.specs.Savefile.{Follows, captured_length, head_after, head_of, head_with, moment_of, most_records, next_of, number_at, place_after, record_of, records_left, savefile}
use Rattle.pcap_input.proofs.Laws.{bytes_follow, head_of-append, next_of_header, next_of_nothing}
use Rattle.pcap_input.proofs.Records.{records_left-ends, records_left-follows}
use Rattle.pcapng_input.specs.Twins.{Caught, IsSavefileOf, IsWritable, a_second, held_from, nanos_each, number_of, held_as, pcap_record, pcap_text, word}

-- ---- words

pub word-length : (swapped : Bool) (size number : ℕ) → length (word swapped size number) ≡ size
unfolding word
word-length true size number = length-bytes_high_first size number
word-length false size number = length-bytes_low_first 0 size number

pub word-reads : (swapped : Bool) (size number : ℕ) (more : List ℕ) → number < 256 ^ size → number_at swapped 0 size (word swapped size number ++ more) ≡ number
unfolding word number_at
word-reads true size number more small = big_number-reads_back size number more small
word-reads false size number more small = little_number-reads_back size number more small

-- ---- the savefile

pcap_header : Bool → Bool → Link → List ℕ
pcap_header swapped nanos link =
    word swapped 4 (if nanos then 0xa1b2_3c4d else 0xa1b2_c3d4) ++ word swapped 2 2 ++ word swapped 2 4
    ++ word swapped 4 0 ++ word swapped 4 0 ++ word swapped 4 262144 ++ word swapped 4 (number_of link)

pcap_header-length : (swapped nanos : Bool) (link : Link) → length (pcap_header swapped nanos link) ≡ 24
unfolding pcap_header word
pcap_header-length true nanos link = refl
pcap_header-length false nanos link = refl

pcap_header-head : (swapped nanos : Bool) (link : Link) → head_of (pcap_header swapped nanos link) ≡ Ok (record { link = link; swapped = swapped; nanos = nanos })
unfolding pcap_header word head_of head_after head_with number_at
pcap_header-head true true Ethernet = refl
pcap_header-head true true RawIp = refl
pcap_header-head true true Cooked = refl
pcap_header-head true false Ethernet = refl
pcap_header-head true false RawIp = refl
pcap_header-head true false Cooked = refl
pcap_header-head false true Ethernet = refl
pcap_header-head false true RawIp = refl
pcap_header-head false true Cooked = refl
pcap_header-head false false Ethernet = refl
pcap_header-head false false RawIp = refl
pcap_header-head false false Cooked = refl

-- the header of a packet's record, and what it tells
pcap_fields : Bool → Bool → Caught → List ℕ
pcap_fields swapped nanos packet =
    word swapped 4 (packet.time / a_second nanos) ++ word swapped 4 (packet.time % a_second nanos)
    ++ word swapped 4 (length packet.bytes) ++ word swapped 4 packet.original

pcap_fields-length : (swapped nanos : Bool) (packet : Caught) → length (pcap_fields swapped nanos packet) ≡ 16
unfolding pcap_fields word
pcap_fields-length true nanos packet = refl
pcap_fields-length false nanos packet = refl

-- the four numbers that the header of a packet's record is read as
record FourRead (swapped : Bool) (fields : List ℕ) (a b c d : ℕ) : Type 0 where
  first : number_at swapped 0 4 fields ≡ a
  second : number_at swapped 4 4 fields ≡ b
  third : number_at swapped 8 4 fields ≡ c
  fourth : number_at swapped 12 4 fields ≡ d

four_read : (swapped : Bool) (a b c d : ℕ) (more : List ℕ) → a < 2 ^ 32 → b < 2 ^ 32 → c < 2 ^ 32 → d < 2 ^ 32
    → FourRead swapped (word swapped 4 a ++ word swapped 4 b ++ word swapped 4 c ++ word swapped 4 d ++ more) a b c d
unfolding word number_at
four_read true a b c d more small_a small_b small_c small_d = record {
  first = big_number-reads_back 4 a [] small_a;
  second = big_number-reads_back 4 b [] small_b;
  third = big_number-reads_back 4 c [] small_c;
  fourth = big_number-reads_back 4 d [] small_d;
}
four_read false a b c d more small_a small_b small_c small_d = record {
  first = little_number-reads_back 4 a [] small_a;
  second = little_number-reads_back 4 b [] small_b;
  third = little_number-reads_back 4 c [] small_c;
  fourth = little_number-reads_back 4 d [] small_d;
}

pcap_fields-read : (swapped nanos : Bool) (packet : Caught) → IsWritable nanos packet
    → FourRead swapped (pcap_fields swapped nanos packet) (packet.time / a_second nanos) (packet.time % a_second nanos) (length packet.bytes) packet.original
unfolding pcap_fields
pcap_fields-read swapped nanos packet held =
    subst (λ (xs : List ℕ). FourRead swapped xs (packet.time / a_second nanos) (packet.time % a_second nanos) (length packet.bytes) packet.original)
    (append-nil (pcap_fields swapped nanos packet))
    (four_read swapped (packet.time / a_second nanos) (packet.time % a_second nanos) (length packet.bytes) packet.original [] held.second (fraction_small nanos packet.time)
    (omega (arith, held.short)) held.length_on_wire)
  where
    fraction_small : (nanos : Bool) (time : ℕ) → time % a_second nanos < 2 ^ 32
    fraction_small true time = omega arith
    fraction_small false time = omega arith

-- the moment that it tells
moment_read : (nanos : Bool) (time : ℕ) → time / a_second nanos * 1000000000 + time % a_second nanos * (if nanos then 1 else 1000) ≡ time * nanos_each nanos
moment_read true time = omega arith
moment_read false time = omega arith

pcap_record-is : (swapped nanos : Bool) (link : Link) (number : ℕ) (packet : Caught) → IsWritable nanos packet
    → record_of (record { link = link; swapped = swapped; nanos = nanos }) number (pcap_fields swapped nanos packet) packet.bytes ≡ held_as number nanos packet
unfolding record_of moment_of
pcap_record-is swapped nanos link number packet held =
    let fields = pcap_fields-read swapped nanos packet held in
    rw (fields.first, fields.second, fields.fourth, moment_read nanos packet.time) refl

pcap_record-follows : (swapped nanos : Bool) (link : Link) (number place : ℕ) (packet : Caught) (more : List ℕ) → number < 4294967295 → IsWritable nanos packet
    → next_of (record { link = link; swapped = swapped; nanos = nanos }) number place (pcap_record swapped nanos packet ++ more) ≡ Follows (held_as number nanos packet) more
unfolding pcap_record pcap_fields captured_length
pcap_record-follows swapped nanos link number place packet more few held =
    let head : CaptureHead = record { link = link; swapped = swapped; nanos = nanos } in
    let fields = pcap_fields swapped nanos packet in
    let read = pcap_fields-read swapped nanos packet held in
    ap (next_of head number place) (append_assoc fields packet.bytes more)
    ∙ next_of_header head number place fields (packet.bytes ++ more) (pcap_fields-length swapped nanos packet) few
    ∙ bytes_follow head number place fields packet.bytes more read.third held.short
    ∙ ap (λ r. Follows r more) (pcap_record-is swapped nanos link number packet held)

pcap_records-are : (swapped nanos : Bool) (link : Link) (number place : ℕ) (packets : List Caught) → All (IsWritable nanos) packets → number + length packets ≤ 4294967295
    → records_left (record { link = link; swapped = swapped; nanos = nanos }) number place (flat_map (pcap_record swapped nanos) packets) ≡ clean_with (held_from number nanos packets)
unfolding held_from
pcap_records-are swapped nanos link number place [] all few = records_left-ends _ number place [] Clean (next_of_nothing _ number place)
pcap_records-are swapped nanos link number place (packet ∷ packets) all few =
    let head : CaptureHead = record { link = link; swapped = swapped; nanos = nanos } in
    let more = flat_map (pcap_record swapped nanos) packets in
    let first = held_as number nanos packet in
    records_left-follows head number place (pcap_record swapped nanos packet ++ more) first more
    (pcap_record-follows swapped nanos link number place packet more (omega arith) (All-head (IsWritable nanos) packet packets all))
    ∙ ap (with_first first)
    (pcap_records-are swapped nanos link (number + 1) (place_after place first) packets (All-tail (IsWritable nanos) packet packets all) (omega arith))

savefile_with : (bytes : List ℕ) (head : CaptureHead) (limit : Option ℕ)
    → head_of bytes ≡ Ok head
    → savefile bytes limit ≡ Ok (record { head = head; cut = first_records limit (records_left head 0 24 (drop 24 bytes)) })
unfolding savefile
savefile_with bytes head limit is = rw (savefile, is) refl

pub savefile_is : (swapped nanos : Bool) (link : Link) (packets : List Caught) (limit : Option ℕ) → All (IsWritable nanos) packets → length packets ≤ most_records
    → savefile (pcap_text swapped nanos link packets) limit
    ≡ Ok (record { head = record { link = link; swapped = swapped; nanos = nanos }; cut = first_records limit (clean_with (held_from 0 nanos packets)) })
unfolding pcap_text pcap_header
savefile_is swapped nanos link packets limit all few =
    let head : CaptureHead = record { link = link; swapped = swapped; nanos = nanos } in
    let more = flat_map (pcap_record swapped nanos) packets in
    let header = pcap_header swapped nanos link in
    let begins : head_of (header ++ more) ≡ Ok head = head_of-append header more (omega (arith, pcap_header-length swapped nanos link)) ∙ pcap_header-head swapped nanos link in
    let after : drop 24 (header ++ more) ≡ more = drop_at header more 24 (pcap_header-length swapped nanos link) in
    savefile_with (header ++ more) head limit begins
    ∙ ap (λ (cut : Cut Record CaptureFault). Ok (record { head = head; cut = first_records limit cut }))
    (ap (records_left head 0 24) after ∙ pcap_records-are swapped nanos link 0 24 packets all (omega (arith, few)))

-- the file is read as what was written
pub pcap_text-read : (swapped nanos : Bool) (link : Link) (packets : List Caught) → All (IsWritable nanos) packets → length packets ≤ most_records → IsSavefileOf swapped nanos link packets
unfolding first_records
pcap_text-read swapped nanos link packets all few = savefile_is swapped nanos link packets None all few
