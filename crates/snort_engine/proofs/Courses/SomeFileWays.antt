-- Every file has some way: its bytes are records, or of all lists of records that they begin with one is the longest.
use Rattle.std.proofs.Common.{◌≡◌, ℕ, zero, suc, ◌+◌, ◌-◌, ◌*◌, ◌^◌, ◌<◌, ◌≤◌, ◌==◌, ◌⊎◌, inl, inr, ltb, Bool, true, false}
use Rattle.std.proofs.Common.{List, [], ◌∷◌, ◌++◌, length, take, drop, get_or, slice_index, refl, sym, ap}
use Rattle.std.proofs.Common.{subst, ◌∙◌, arith}
use Rattle.std.specs.List.{All, prefix_len}
use Rattle.std.proofs.Math.Nat.{mul-suc}
use Rattle.std.proofs.lemmas.Bool.{cases_lt, eqb-true, eqb-false, ltb-true, ltb-false}
use Rattle.std.proofs.lemmas.List.{length-take, length-drop, take_all, drop-drop, get_or-take, get_or_past, take-take}
use Rattle.std.proofs.lemmas.List.Sums.{prefix_len-le-length, prefix_len_passes, prefix_len_stops}
use Rattle.std.specs.Int.{byte_at, bytes_high_first}
use Rattle.byteorder.specs.Endian.{big_number, IsRead}
use Rattle.edge_io.specs.declared.address.Addr.{Addr}
use Rattle.edge_io.specs.declared.address.Addr.TheVariants.{V4, V6}
use Rattle.unified2_out.specs.declared.record.U2Event.{U2Event}
use Rattle.unified2_out.specs.declared.record.U2Packet.{U2Packet}
use Rattle.unified2_out.specs.declared.record.U2.{U2}
use Rattle.unified2_out.specs.declared.record.U2.TheVariants.{Event, Packet, Other}
use Rattle.unified2_out.specs.Records.{AllFit, address_bytes, body_of, event_body, event_octets, event_ports}
use Rattle.unified2_out.specs.Records.{event_words, frame_text, kind_of, most_body_bytes, numbers, packet_body, packet_words}
use Rattle.unified2_out.specs.Records.{unified2_text}
use Rattle.unified2_out.specs.Reading.{AreRecordsOf, IsBadAt, IsRecord, RecordsEndAt, joined_text}
use Rattle.unified2_out.specs.Fronts.{AddsFront, HasNoFrame, HasNoRecord, IsFrontFrame, IsOfNoRecord, IsRecordOf}
use Rattle.unified2_out.proofs.Numbers.{AreBytes, all-bytes, bytes-drop, bytes-take}
use Rattle.unified2_out.proofs.Bodies.{AreParts, IsEventRead, event-of, event-of-6, event-read, packet-of, size-2, size-7, size-72}
use Rattle.unified2_out.proofs.Frames.{frame-long, frame-read, frame-size}
use Rattle.unified2_out.proofs.Walks.{IsWalk, front-no_frame, front-no_record, front-record, front-size, walk-bad, walk-end, walk-start, walk-step}

-- ---- numbers

-- this many numbers of `width` bytes each
abbrev words_of : ℕ → ℕ → List ℕ → List ℕ
words_of width zero bytes = []
words_of width (suc count) bytes = big_number width bytes ∷ words_of width count (drop width bytes)

length-words_of : (width count : ℕ) (bytes : List ℕ) → length (words_of width count bytes) ≡ count
length-words_of width zero bytes = refl
length-words_of width (suc count) bytes = ap suc (length-words_of width count (drop width bytes))

words_of-read : (width count : ℕ) (bytes : List ℕ) → IsRead big_number width bytes (words_of width count bytes)
words_of-read width zero bytes k h = absurd (omega arith)
words_of-read width (suc count) bytes zero h =
    let start : 0 ≡ width * 0 = omega arith in
    ap (λ (n : ℕ). big_number width (drop n bytes)) start
words_of-read width (suc count) bytes (suc k) h =
    let next : width + width * k ≡ width * suc k = omega (arith, mul-suc width k) in
    words_of-read width count (drop width bytes) k (omega arith)
    ∙ ap (big_number width) (drop-drop (width * k) width bytes)
    ∙ ap (λ (n : ℕ). big_number width (drop n bytes)) next

-- ---- fronts

-- the event of these words and of this tail
abbrev event_by : List ℕ → List ℕ → Addr → Addr → U2Event
event_by words tail src dst =
    let values = words_of 4 9 words in
    let ends = words_of 2 2 (take 4 tail) in
    let octets = drop 4 tail in
    record {
      sensor = get_or values 0 0;
      id = get_or values 1 0;
      second = get_or values 2 0;
      micro = get_or values 3 0;
      sid = get_or values 4 0;
      gid = get_or values 5 0;
      rev = get_or values 6 0;
      class = get_or values 7 0;
      priority = get_or values 8 0;
      src = src;
      dst = dst;
      sport = get_or ends 0 0;
      dport = get_or ends 1 0;
      protocol = get_or octets 0 0;
      impact_flag = get_or octets 1 0;
      impact = get_or octets 2 0;
      blocked = get_or octets 3 0;
    }

event_by-read : (words tail : List ℕ) (src dst : Addr) → AreBytes words → AreBytes tail → length words ≡ 36 → length tail ≡ 8
    → IsEventRead (event_by words tail src dst) words tail
event_by-read words tail src dst small small_tail size tail_size =
    record {
      words_bytes = small;
      tail_bytes = small_tail;
      words_size = size;
      tail_size = tail_size;
      values = words_of 4 9 words;
      values_size = refl;
      values_read = words_of-read 4 9 words;
      ends = words_of 2 2 (take 4 tail);
      ends_size = refl;
      ends_read = words_of-read 2 2 (take 4 tail);
      words_are = refl;
      ports_are = refl;
      octets_are = refl;
    }

-- the parts of a body, with addresses of this many bytes
abbrev src_of : ℕ → List ℕ → ℕ
src_of width body = big_number width (take width (take (width + width) (drop 36 body)))

abbrev dst_of : ℕ → List ℕ → ℕ
dst_of width body = big_number width (drop width (take (width + width) (drop 36 body)))

abbrev tail_of : ℕ → List ℕ → List ℕ
tail_of width body = drop (width + width) (drop 36 body)

are_parts : (width : ℕ) (body : List ℕ) → AreBytes body → length body ≡ 44 + (width + width)
    → AreParts width body (take 36 body) (tail_of width body) (src_of width body) (dst_of width body)
are_parts width body small size =
    record {
      bytes = small;
      size = size;
      words_are = refl;
      after = drop 36 body;
      after_is = refl;
      tail_is = refl;
      src = take width (take (width + width) (drop 36 body));
      src_is = refl;
      dst = drop width (take (width + width) (drop 36 body));
      dst_is = refl;
      first_is = refl;
      second_is = refl;
    }

event_read_of : (width : ℕ) (body : List ℕ) (src dst : Addr) → AreBytes body → length body ≡ 44 + (width + width)
    → IsEventRead (event_by (take 36 body) (tail_of width body) src dst) (take 36 body) (tail_of width body)
event_read_of width body src dst small size =
    event_by-read (take 36 body) (tail_of width body) src dst (bytes-take 36 body small) (bytes-drop (width + width) (drop 36 body) (bytes-drop 36 body small))
    (omega (arith, length-take 36 body)) (omega (arith, length-drop (width + width) (drop 36 body), length-drop 36 body))

-- the packet of this body
abbrev packet_by : List ℕ → U2Packet
packet_by body =
    let values = words_of 4 7 (take 28 body) in
    record {
      sensor = get_or values 0 0;
      id = get_or values 1 0;
      event_second = get_or values 2 0;
      second = get_or values 3 0;
      micro = get_or values 4 0;
      link = get_or values 5 0;
      bytes = drop 28 body;
    }

-- a kind and a body are of a record, or of none
abbrev IsOrNot : ℕ → List ℕ → Type 0
IsOrNot kind body = ((entry : U2) × IsRecordOf kind body entry) ⊎ IsOfNoRecord kind body

event_is : (body : List ℕ) → AreBytes body → IsOrNot 7 body
event_is body small = by_size (length body == 52) refl
  where
    by_size : (b : Bool) → (length body == 52) ≡ b → IsOrNot 7 body
    by_size true is =
        let size : length body ≡ 44 + (4 + 4) = eqb-true (length body) 52 is in
        let src = V4 (src_of 4 body) in
        let dst = V4 (dst_of 4 body) in
        let words = take 36 body in
        let tail = tail_of 4 body in
        let event = event_by words tail src dst in
        inl (
          Event event,
          event-of event body words tail (src_of 4 body) (dst_of 4 body) (are_parts 4 body small size)
              (event-read event words src dst tail refl refl (event_read_of 4 body src dst small size)),
        )
    by_size false isnt = inr (λ entry of. eqb-false (length body) 52 isnt (size-7 body entry of))

event_is-6 : (body : List ℕ) → AreBytes body → IsOrNot 72 body
event_is-6 body small = by_size (length body == 76) refl
  where
    by_size : (b : Bool) → (length body == 76) ≡ b → IsOrNot 72 body
    by_size true is =
        let size : length body ≡ 44 + (16 + 16) = eqb-true (length body) 76 is in
        let src = V6 (src_of 16 body) in
        let dst = V6 (dst_of 16 body) in
        let words = take 36 body in
        let tail = tail_of 16 body in
        let event = event_by words tail src dst in
        inl (
          Event event,
          event-of-6 event body words tail (src_of 16 body) (dst_of 16 body) (are_parts 16 body small size)
              (event-read event words src dst tail refl refl (event_read_of 16 body src dst small size)),
        )
    by_size false isnt = inr (λ entry of. eqb-false (length body) 76 isnt (size-72 body entry of))

packet_is : (body : List ℕ) → AreBytes body → length body ≤ most_body_bytes → IsOrNot 2 body
packet_is body small short = by_length (cases_lt (length body) 28)
  where
    words : List ℕ
    words = take 28 body

    counted : ℕ
    counted = big_number 4 (drop 24 words)

    by_count : 28 ≤ length body → (b : Bool) → (28 + counted == length body) ≡ b → IsOrNot 2 body
    by_count long true is =
        let count : 28 + counted ≡ length body = eqb-true (28 + counted) (length body) is in
        let last = words_of-read 4 7 words 6 (omega arith) in
        inl (
          Packet (packet_by body),
          packet-of (packet_by body) body words (drop 28 body) (words_of 4 7 words) small short long refl refl refl (words_of-read 4 7 words) refl
              (last ∙ omega (arith, count, length-drop 28 body)) refl,
        )
    by_count long false isnt = inr (λ entry of. eqb-false (28 + counted) (length body) isnt (size-2 body entry of).1)

    by_length : (length body < 28) ⊎ (28 ≤ length body) → IsOrNot 2 body
    by_length (inl few) = inr (λ entry of. let long = (size-2 body entry of).0 in omega (arith, few, long))
    by_length (inr long) = by_count long (28 + counted == length body) refl

record_is : (kind : ℕ) (body : List ℕ) → kind < 256 ^ 4 → AreBytes body → length body ≤ most_body_bytes → IsOrNot kind body
record_is kind body fits small short = by_event (kind == 7) refl
  where
    by_packet : (kind ≡ 7 → ⊥) → (kind ≡ 72 → ⊥) → (b : Bool) → (kind == 2) ≡ b → IsOrNot kind body
    by_packet no_event no_event6 true is = subst (λ (k : ℕ). IsOrNot k body) (sym (eqb-true kind 2 is)) (packet_is body small short)
    by_packet no_event no_event6 false isnt =
        inl (
          Other kind body,
          record {
            is = record {
              writable = (record { no_packet = eqb-false kind 2 isnt; no_event = no_event; no_event6 = no_event6 }, short);
              fits = (fits, all-bytes body small);
            };
            kind_is = refl;
            body_is = refl;
          },
        )

    by_event6 : (kind ≡ 7 → ⊥) → (b : Bool) → (kind == 72) ≡ b → IsOrNot kind body
    by_event6 no_event true is = subst (λ (k : ℕ). IsOrNot k body) (sym (eqb-true kind 72 is)) (event_is-6 body small)
    by_event6 no_event false isnt = by_packet no_event (eqb-false kind 72 isnt) (kind == 2) refl

    by_event : (b : Bool) → (kind == 7) ≡ b → IsOrNot kind body
    by_event true is = subst (λ (k : ℕ). IsOrNot k body) (sym (eqb-true kind 7 is)) (event_is body small)
    by_event false isnt = by_event6 (eqb-false kind 7 isnt) (kind == 72) refl

-- the frame that the bytes begin with, if there is one, has a body of bytes
record HasFrame (bytes : List ℕ) : Type 0 where
  kind : ℕ
  body : List ℕ
  small : AreBytes body
  is : IsFrontFrame bytes kind body

frame_at : (bytes : List ℕ) → AreBytes bytes → HasFrame bytes ⊎ HasNoFrame bytes
frame_at bytes small = by_length (cases_lt (length bytes) (8 + size))
  where
    size : ℕ
    size = big_number 4 (drop 4 bytes)

    by_size : 8 + size ≤ length bytes → (most_body_bytes < size) ⊎ (size ≤ most_body_bytes) → HasFrame bytes ⊎ HasNoFrame bytes
    by_size long (inl large) = inr (λ kind body front. let is = frame-size bytes kind body front in let short = front.short in omega (arith, large, is, short))
    by_size long (inr short) =
        inl (record {
          kind = big_number 4 bytes;
          body = take size (drop 8 bytes);
          small = bytes-take size (drop 8 bytes) (bytes-drop 8 bytes small);
          is = frame-read bytes (big_number 4 bytes) size (take size (drop 8 bytes)) small long short refl refl refl;
        })

    by_length : (length bytes < 8 + size) ⊎ (8 + size ≤ length bytes) → HasFrame bytes ⊎ HasNoFrame bytes
    by_length (inl few) = inr (λ kind body front. let long = frame-long bytes kind body front in let is = frame-size bytes kind body front in omega (arith, few, long, is))
    by_length (inr long) = by_size long (cases_lt most_body_bytes size)

-- a record is at the front, and is one more; or none is
abbrev AddsOrNot : List ℕ → List U2 → Type 0
AddsOrNot bytes old = ((new : List U2) × (size : ℕ) × AddsFront bytes old new size) ⊎ HasNoRecord bytes

front_at : (bytes : List ℕ) (old : List U2) → AreBytes bytes → AddsOrNot bytes old
front_at bytes old small = by_frame (frame_at bytes small)
  where
    by_record : (frame : HasFrame bytes) → IsOrNot frame.kind frame.body → AddsOrNot bytes old
    by_record frame (inl (entry, of)) =
        inl (old ++ entry ∷ [], 8 + length frame.body, front-record bytes frame.kind frame.body entry old (old ++ entry ∷ []) frame.is of refl)
    by_record frame (inr none) = inr (front-no_record bytes frame.kind frame.body frame.is none)

    by_frame : HasFrame bytes ⊎ HasNoFrame bytes → AddsOrNot bytes old
    by_frame (inl frame) = by_record frame (record_is frame.kind frame.body frame.is.kind_fits frame.small frame.is.short)
    by_frame (inr none) = inr (front-no_frame bytes none)

-- ---- bytes

-- bytes are records, or bad at a place
abbrev pub AreOrBad : List ℕ → Type 0
AreOrBad bytes = ((entries : List U2) × AreRecordsOf bytes entries) ⊎ ((place : ℕ) × IsBadAt bytes place)

-- a reading that has come to a place goes on
abbrev StepsOrEnds : List ℕ → List U2 → ℕ → Type 0
StepsOrEnds bytes entries place = ((new : List U2) × (size : ℕ) × (8 ≤ size) × IsWalk bytes [] new (place + size)) ⊎ AreOrBad bytes

step_at : (bytes : List ℕ) (entries : List U2) (place : ℕ) → AreBytes bytes → IsWalk bytes [] entries place → StepsOrEnds bytes entries place
step_at bytes entries place small walk = by_place (cases_lt place (length bytes))
  where
    rest : List ℕ
    rest = take (length bytes - place) (drop place bytes)

    by_front : place < length bytes → AddsOrNot rest entries → StepsOrEnds bytes entries place
    by_front inside (inl (new, size, adds)) = inl (new, size, front-size rest entries new size adds, walk-step bytes [] entries new place size walk adds)
    by_front inside (inr none) = inr (inr (place, walk-bad bytes [] entries place walk inside none))

    by_place : (place < length bytes) ⊎ (length bytes ≤ place) → StepsOrEnds bytes entries place
    by_place (inl inside) = by_front inside (front_at rest entries (bytes-take (length bytes - place) (drop place bytes) (bytes-drop place bytes small)))
    by_place (inr past) = let all = walk-end bytes [] entries place walk past in inr (inl (all.entries, all.are))

goes_on : (bytes : List ℕ) (entries : List U2) (steps place : ℕ) → AreBytes bytes → length bytes ≤ steps + place → IsWalk bytes [] entries place → AreOrBad bytes
goes_on bytes entries zero place small enough walk =
    let all = walk-end bytes [] entries place walk (omega (arith, enough)) in
    inl (all.entries, all.are)
goes_on bytes entries (suc steps) place small enough walk = elim (step_at bytes entries place small walk) as (λ _. AreOrBad bytes) [
  | inl next ↦ goes_on bytes next.0 steps (place + next.1) small (let some = next.2 in omega (arith, enough, some)) next.3
  | inr ended ↦ ended
]

of_bytes : (bytes : List ℕ) → AreBytes bytes → AreOrBad bytes
of_bytes bytes small = goes_on bytes [] (length bytes) 0 small (omega arith) (walk-start bytes [])

-- ---- numbers that are no bytes

-- the texts of records are bytes
below : (n k : ℕ) → byte_at k n < 256
below n zero = omega arith
below n (suc k) = omega arith

big_bytes-are : (width number : ℕ) → AreBytes (bytes_high_first width number)
big_bytes-are zero number k = omega arith
big_bytes-are (suc width) number zero = below number width
big_bytes-are (suc width) number (suc k) = big_bytes-are width number k

append-are : (front back : List ℕ) → AreBytes front → AreBytes back → AreBytes (front ++ back)
append-are [] back small small_too k = small_too k
append-are (byte ∷ front) back small small_too zero = small 0
append-are (byte ∷ front) back small small_too (suc k) = append-are front back (λ j. small (suc j)) small_too k

numbers-are : (width : ℕ) (values : List ℕ) → AreBytes (numbers width values)
numbers-are width [] k = omega arith
numbers-are width (value ∷ values) k = append-are (bytes_high_first width value) (numbers width values) (big_bytes-are width value) (numbers-are width values) k

address-are : (address : Addr) → AreBytes (address_bytes address)
address-are (V4 address) = big_bytes-are 4 address
address-are (V6 address) = big_bytes-are 16 address

fit-are : (bytes : List ℕ) → AllFit 1 bytes → AreBytes bytes
fit-are [] fit k = omega arith
fit-are (byte ∷ bytes) fit zero = let own = fit 0 0 (omega arith) in omega (arith, own)
fit-are (byte ∷ bytes) fit (suc k) = fit-are bytes (λ j d h. fit (suc j) d (omega arith)) k

body-are : (entry : U2) → IsRecord entry → AreBytes (body_of entry)
unfolding event_body packet_body
body-are (Event event) is =
    append-are (numbers 4 (event_words event) ++ address_bytes event.src ++ address_bytes event.dst ++ numbers 2 (event_ports event)) (event_octets event)
    (append-are (numbers 4 (event_words event) ++ address_bytes event.src ++ address_bytes event.dst) (numbers 2 (event_ports event))
    (append-are (numbers 4 (event_words event) ++ address_bytes event.src) (address_bytes event.dst)
    (append-are (numbers 4 (event_words event)) (address_bytes event.src) (numbers-are 4 (event_words event)) (address-are event.src)) (address-are event.dst))
    (numbers-are 2 (event_ports event)))
    (fit-are (event_octets event) is.fits.octets)
body-are (Packet packet) is = append-are (numbers 4 (packet_words packet)) packet.bytes (numbers-are 4 (packet_words packet)) (fit-are packet.bytes is.fits.1)
body-are (Other kind bytes) is = fit-are bytes is.fits.1

text-are : (entry : U2) → IsRecord entry → AreBytes (unified2_text entry)
unfolding unified2_text frame_text
text-are entry is =
    append-are (numbers 4 (kind_of entry ∷ length (body_of entry) ∷ [])) (body_of entry) (numbers-are 4 (kind_of entry ∷ length (body_of entry) ∷ [])) (body-are entry is)

joined-are : (entries : List U2) → All IsRecord entries → AreBytes (joined_text entries)
joined-are [] each k = omega arith
joined-are (entry ∷ entries) each k =
    append-are (unified2_text entry) (joined_text entries) (text-are entry (each 0 entry (omega arith))) (joined-are entries (λ j d h. each (suc j) d (omega arith))) k

-- the numbers before the first that is no byte
abbrev is_byte : ℕ → Bool
is_byte number = ltb number 256

-- of all lists of records that bytes begin with there is a longest, whatever numbers the bytes are
pub are_or_bad : (bytes : List ℕ) → AreOrBad bytes
are_or_bad bytes = by_front (of_bytes front small)
  where
    size : ℕ
    size = prefix_len is_byte bytes

    front : List ℕ
    front = take size bytes

    less : size ≤ length bytes
    less = prefix_len-le-length is_byte bytes

    front_size : length front ≡ size
    front_size = omega (arith, length-take size bytes, less)

    small_at : (k : ℕ) → (k < size) ⊎ (size ≤ k) → slice_index front k < 256
    small_at k (inl inside) =
        let same : get_or front k 0 ≡ get_or bytes k 0 = get_or-take size bytes k 0 inside in
        let fits = ltb-true (get_or bytes k 0) 256 (prefix_len_passes is_byte bytes k 0 inside) in
        omega (arith, same, fits)
    small_at k (inr past) = let none = get_or_past front k 0 (omega (arith, front_size, past)) in omega (arith, none)

    small : AreBytes front
    small k = small_at k (cases_lt k size)

    moved : (other : ℕ) → other ≤ size → take other front ≡ take other bytes
    moved other h = take-take other size bytes h

    within_at : (other : ℕ) → RecordsEndAt bytes other → (size < other) ⊎ (other ≤ size) → other ≤ size
    within_at other there (inr inside) = inside
    within_at other there (inl past) =
        let inside = there.within in
        let stops = ltb-false (get_or bytes size 0) 256 (prefix_len_stops is_byte bytes 0 (omega (arith, past, inside))) in
        let fits = joined-are there.entries there.are.each size in
        let same : get_or (joined_text there.entries) size 0 ≡ get_or bytes size 0 =
        ap (λ (b : List ℕ). get_or b size 0) there.are.joined ∙ get_or-take other bytes size 0 past in
        absurd (omega (arith, stops, fits, same))

    within : (other : ℕ) → RecordsEndAt bytes other → other ≤ size
    within other there = within_at other there (cases_lt size other)

    by_size : (entries : List U2) → AreRecordsOf front entries → (size < length bytes) ⊎ (length bytes ≤ size) → AreOrBad bytes
    by_size entries are (inl inside) =
        inr (size, record { reached = record { within = less; entries = entries; are = are }; furthest = within; left = inside })
    by_size entries are (inr all) = inl (entries, record { each = are.each; joined = are.joined ∙ take_all size bytes all })

    by_front : AreOrBad front → AreOrBad bytes
    by_front (inl (entries, are)) = by_size entries are (cases_lt size (length bytes))
    by_front (inr (place, bad)) =
        let left = bad.left in
        let inside : place ≤ size = omega (arith, left, front_size) in
        let furthest : (other : ℕ) → RecordsEndAt bytes other → other ≤ place =
        λ (other : ℕ) (there : RecordsEndAt bytes other).
        let low = within other there in
        bad.furthest other (record {
          within = omega (arith, low, front_size);
          entries = there.entries;
          are = record { each = there.are.each; joined = there.are.joined ∙ sym (moved other low) };
        }) in
        inr (
          place,
          record {
            reached = record {
              within = omega (arith, inside, less);
              entries = bad.reached.entries;
              are = record { each = bad.reached.are.each; joined = bad.reached.are.joined ∙ moved place inside };
            };
            furthest = furthest;
            left = omega (arith, left, front_size, less);
          },
        )
