-- A capture that is made, as a savefile: its head, as many records as are asked for, and a clean ending.
use Rattle.std.proofs.Common.{◌≡◌, ℕ, zero, suc, ◌+◌, ◌^◌, ◌<◌, ◌≤◌, Bool, true, false, List, [], ◌++◌, Ok, length, drop, refl, ap, subst, sym, ◌∙◌, arith, append_assoc, length-append, ◌==◌}
use Rattle.std.specs.Prelude.{codes, if◌then◌else◌}
use Rattle.std.proofs.lemmas.List.{length-drop, drop_at}
use Rattle.byteorder.specs.Numbers.{little_number-reads_back}
use Rattle.pcap_input.specs.declared.capture.Record.{Record}
use Rattle.pcap_input.specs.declared.capture.CaptureFault.{CaptureFault}
use Rattle.pcap_input.specs.Cut.{Cut, Clean, IsWhole}
use Rattle.pcap_input.specs.Savefile.{Follows, captured_length, head_after, head_of, head_with, most_records, number_at, next_of, place_after, records_left, record_of}
use Rattle.pcap_input.specs.Frames.{ip_fields, ip_header, tcp_fields, tcp_header, udp_header, frame, tcp_frame, udp_frame}
use Rattle.pcap_input.specs.Generated.{capture_of, draw, first_traffic, frames, generated, has_payload, header_bytes, letters}
use Rattle.pcap_input.specs.Generated.{made, made_cut, made_datagram, made_head, made_of_session, made_segment, marked}
use Rattle.pcap_input.specs.Generated.{payload_at, payload_drawn, record_bytes, record_fields, records_from, step, text_drawn}
use Rattle.pcap_input.specs.Generated.{with_state}
use Rattle.pcap_input.proofs.Laws.{bytes_follow, head_of-append, next_of_header, next_of_nothing}
use Rattle.pcap_input.proofs.Made.Making.{text-short}
use Rattle.pcap_input.proofs.Records.{records_left-ends, records_left-follows}

-- ---- the head of a made capture

head_of_header : head_of header_bytes ≡ Ok made_head
unfolding head_of head_after head_with number_at
head_of_header = refl

-- a capture that is made begins with a file header
pub generated-head : (seed count : ℕ) → head_of (generated seed count) ≡ Ok made_head
unfolding generated capture_of
generated-head seed count = head_of-append header_bytes (records_from 0 (frames count (first_traffic seed))) (omega arith) ∙ head_of_header

-- ---- frames are short

length-letters : (count state : ℕ) → length (letters count state) ≡ count
unfolding letters
length-letters zero state = refl
length-letters (suc count) state = ap suc (length-letters count (step state))

marked_short : (mark : Bool) (text : List ℕ) → length text ≡ 64 → length (marked mark text) ≤ 100
unfolding marked
marked_short true text is = omega (arith, length-append (codes "attack") (drop 6 text), length-drop 6 text)
marked_short false text is = omega arith

payload_short : (turn : _) (state : ℕ) → length (payload_at turn state) ≤ 100
unfolding payload_at payload_drawn
payload_short turn state = by_turn (has_payload turn)
  where
    by_turn : (test : Bool) → length (if test then payload_drawn state else []) ≤ 100
    by_turn true = marked_short (draw 50 state == 0) (letters 64 (step state)) (length-letters 64 (step state))
    by_turn false = omega arith

tcp_short : (segment : _) (payload : List ℕ) → length payload ≤ 100 → length (tcp_frame segment payload) < 1000
unfolding tcp_frame frame ip_header ip_fields tcp_header tcp_fields
tcp_short segment payload short = omega (arith, short)

udp_short : (source destination : _) (payload : List ℕ) → length payload ≤ 100 → length (udp_frame source destination payload) < 1000
unfolding udp_frame frame ip_header ip_fields udp_header
udp_short source destination payload short = omega (arith, short)

drawn_below : (state : ℕ) → draw 1000 state < 1000
unfolding draw
drawn_below state = omega arith

datagram_short : (traffic : _) → length (made_datagram traffic).frame < 1000
unfolding made_datagram text_drawn
datagram_short traffic =
    let text = text_drawn (step traffic.draws.state) in
    udp_short _ _ text (text-short (draw 1000 (step traffic.draws.state)) text (drawn_below (step traffic.draws.state)) refl)

segment_short : (traffic : _) → length (made_segment traffic).frame < 1000
unfolding made_segment made_of_session
segment_short traffic = tcp_short _ _ (payload_short _ _)

made_short : (traffic : _) → length (made traffic).frame < 1000
unfolding made
made_short traffic = by_draw (draw 4 traffic.draws.state == 0) refl
  where
    by_draw : (test : Bool) → (draw 4 traffic.draws.state == 0) ≡ test → length (made traffic).frame < 1000
    by_draw true is = rw is (datagram_short (with_state traffic (step traffic.draws.state)))
    by_draw false is = rw is (segment_short (with_state traffic (step traffic.draws.state)))

-- ---- the records of a made capture are whole

captured : (millis size : ℕ) → size < 2 ^ 32 → captured_length made_head (record_fields millis size) ≡ size
unfolding captured_length number_at record_fields
captured millis size small = little_number-reads_back 4 size [] small

fields_long : (millis size : ℕ) → length (record_fields millis size) ≡ 16
unfolding record_fields
fields_long millis size = refl

record_follows : (number place millis : ℕ) (bytes more : List ℕ) → number < 4294967295 → length bytes < 1000
    → next_of made_head number place (record_bytes millis bytes ++ more) ≡ Follows (record_of made_head number (record_fields millis (length bytes)) bytes) more
unfolding record_bytes
record_follows number place millis bytes more few short =
    let fields = record_fields millis (length bytes) in
    ap (next_of made_head number place) (append_assoc fields bytes more)
    ∙ next_of_header made_head number place fields (bytes ++ more) (fields_long millis (length bytes)) few
    ∙ bytes_follow made_head number place fields bytes more (captured millis (length bytes) (omega arith)) (omega arith)

records_whole : (count number place millis : ℕ) (traffic : _) → number + count ≤ 4294967295 → IsWhole count (records_left made_head number place (records_from millis (frames count traffic)))
unfolding frames records_from
records_whole zero number place millis traffic few =
    let none = records_left-ends made_head number place [] Clean (next_of_nothing made_head number place) in
    record { count_is = ap (λ (cut : Cut Record CaptureFault). length cut.records) none; clean = ap (λ (cut : Cut Record CaptureFault). cut.ending) none }
records_whole (suc count) number place millis traffic few =
    let bytes = (made traffic).frame in
    let more = records_from (millis + 1) (frames count (made traffic).after) in
    let first = record_of made_head number (record_fields millis (length bytes)) bytes in
    let is = records_left-follows made_head number place (record_bytes millis bytes ++ more) first more (record_follows number place millis bytes more (omega arith) (made_short traffic)) in
    let later = records_whole count (number + 1) (place_after place first) (millis + 1) (made traffic).after (omega arith) in
    record {
      count_is = ap (λ (cut : Cut Record CaptureFault). length cut.records) is ∙ ap suc later.count_is;
      clean = ap (λ (cut : Cut Record CaptureFault). cut.ending) is ∙ later.clean;
    }

-- after the file header come as many records as were asked for, up to a clean ending
pub made_cut-whole : (seed count : ℕ) → count ≤ most_records → IsWhole count (made_cut seed count)
unfolding generated capture_of
made_cut-whole seed count few =
    let frames_are = frames count (first_traffic seed) in
    let after : drop 24 (generated seed count) ≡ records_from 0 frames_are = drop_at header_bytes (records_from 0 frames_are) 24 refl in
    subst (λ (rest : List ℕ). IsWhole count (records_left made_head 0 24 rest)) (sym after) (records_whole count 0 24 0 (first_traffic seed) (omega arith))
