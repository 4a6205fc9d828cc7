-- Bodies of records: how long they are, what their parts read as, and that a kind and a body are of
-- one record.
use Rattle.std.proofs.Common.{◌≡◌, ℕ, ◌+◌, ◌*◌, ◌^◌, ◌<◌, ◌≤◌, List, [], ◌∷◌, ◌++◌, length, take, drop, get_or, refl, sym, ap, subst, ◌∙◌, append_assoc, length-append, arith}
use Rattle.std.proofs.lemmas.List.{length-take, length-drop, take-append-drop}
use Rattle.byteorder.specs.Endian.{big_bytes, big_number, IsRead}
use Rattle.byteorder.specs.Numbers.{big_from-lt, big_number-reads_back}
use Rattle.edge_io.specs.declared.address.Addr.{Addr}
use Rattle.edge_io.specs.declared.address.Addr.TheVariants.{V4, V6}
use Rattle.unified2_out.specs.declared.record.U2Event.{U2Event}
use Rattle.unified2_out.specs.declared.record.U2Packet.{U2Packet}
use Rattle.unified2_out.specs.declared.record.U2.{U2}
use Rattle.unified2_out.specs.declared.record.U2.TheVariants.{Event, Packet, Other}
use Rattle.unified2_out.specs.Records.{numbers, address_bytes, event_words, event_ports, event_octets, packet_words, event_body}
use Rattle.unified2_out.specs.Records.{packet_body, event_kind, event_size, kind_of, body_of, most_body_bytes, AreOfOneVersion}
use Rattle.unified2_out.specs.Records.{IsInRange, AllFit, FitsEvent}
use Rattle.unified2_out.specs.Parts.{event_len}
use Rattle.unified2_out.specs.Reading.{IsRecord}
use Rattle.unified2_out.specs.Fronts.{IsRecordOf, IsEventOf}
use Rattle.unified2_out.proofs.Numbers.{AreBytes, bytes-take, bytes-drop, bytes-number, numbers-read, numbers-fit, places, places-rest, all-bytes}

-- how long the body of an event is
pub length-event_body : (event : U2Event) (src dst : Addr) → event.src ≡ src → event.dst ≡ dst → AreOfOneVersion src dst → length (event_body event) ≡ event_size src
unfolding event_body
length-event_body event (V4 first) (V4 second) src_is dst_is one = rw (src_is, dst_is) refl
length-event_body event (V4 first) (V6 second) src_is dst_is one = absurd one
length-event_body event (V6 first) (V4 second) src_is dst_is one = absurd one
length-event_body event (V6 first) (V6 second) src_is dst_is one = rw (src_is, dst_is) refl

-- the length of an event's body, between any addresses
pub length-any_event : (event : U2Event) (src dst : Addr) → event.src ≡ src → event.dst ≡ dst → length (event_body event) ≡ event_len src dst
unfolding event_body
length-any_event event (V4 first) (V4 second) src_is dst_is = rw (src_is, dst_is) refl
length-any_event event (V4 first) (V6 second) src_is dst_is = rw (src_is, dst_is) refl
length-any_event event (V6 first) (V4 second) src_is dst_is = rw (src_is, dst_is) refl
length-any_event event (V6 first) (V6 second) src_is dst_is = rw (src_is, dst_is) refl

-- the length of a packet's body
pub length-packet_body : (packet : U2Packet) → length (packet_body packet) ≡ 28 + length packet.bytes
unfolding packet_body
length-packet_body packet = length-append (numbers 4 (packet_words packet)) packet.bytes

-- an event between addresses of version 4 or 6, and its size
event-version : (src dst : Addr) → AreOfOneVersion src dst → event_kind src ≡ 7 → event_size src ≡ 52
event-version (V4 first) dst one kind = refl
event-version (V6 first) dst one kind = absurd (omega arith)

event-version6 : (src dst : Addr) → AreOfOneVersion src dst → event_kind src ≡ 72 → event_size src ≡ 76
event-version6 (V4 first) dst one kind = absurd (omega arith)
event-version6 (V6 first) dst one kind = refl

pub event-kinds : (src : Addr) → event_kind src ≡ 2 → ⊥
event-kinds (V4 first) kind = omega arith
event-kinds (V6 first) kind = omega arith

-- the sizes of the bodies of each kind
pub size-7 : (body : List ℕ) (entry : U2) → IsRecordOf 7 body entry → length body ≡ 52
size-7 body (Event event) of =
    ap length (sym of.body_is) ∙ length-event_body event event.src event.dst refl refl of.is.writable ∙ event-version event.src event.dst of.is.writable of.kind_is
size-7 body (Packet packet) of = let e = of.kind_is in absurd (omega arith)
size-7 body (Other kind bytes) of = absurd (of.is.writable.0.no_event of.kind_is)

pub size-72 : (body : List ℕ) (entry : U2) → IsRecordOf 72 body entry → length body ≡ 76
size-72 body (Event event) of =
    ap length (sym of.body_is) ∙ length-event_body event event.src event.dst refl refl of.is.writable ∙ event-version6 event.src event.dst of.is.writable of.kind_is
size-72 body (Packet packet) of = let e = of.kind_is in absurd (omega arith)
size-72 body (Other kind bytes) of = absurd (of.is.writable.0.no_event6 of.kind_is)

-- the count in the body of a packet
count-packet : (packet : U2Packet) → length packet.bytes < 256 ^ 4 → big_number 4 (drop 24 (take 28 (packet_body packet))) ≡ length packet.bytes
unfolding packet_body
count-packet packet short = big_number-reads_back 4 (length packet.bytes) [] short

-- a packet's body is long enough, and its count is that of the bytes after its numbers
pub size-2 : (body : List ℕ) (entry : U2) → IsRecordOf 2 body entry → (28 ≤ length body) × (28 + big_number 4 (drop 24 (take 28 body)) ≡ length body)
size-2 body (Event event) of = absurd (event-kinds event.src of.kind_is)
size-2 body (Other kind bytes) of = absurd (of.is.writable.0.no_packet of.kind_is)
size-2 body (Packet packet) of =
    let short : 28 + length packet.bytes ≤ 1048576 = of.is.writable in
    let size = ap length (sym of.body_is) ∙ length-packet_body packet in
    let count = ap (λ (b : List ℕ). big_number 4 (drop 24 (take 28 b))) (sym of.body_is) ∙ count-packet packet (omega arith) in
    (omega arith, omega arith)

-- a record's kind fits, and its body is short
pub kind-fits : (entry : U2) → IsRecord entry → kind_of entry < 256 ^ 4
kind-fits (Event event) is = of_address event.src
  where
    of_address : (src : Addr) → event_kind src < 256 ^ 4
    of_address (V4 first) = omega arith
    of_address (V6 first) = omega arith
kind-fits (Packet packet) is = omega arith
kind-fits (Other kind bytes) is = is.fits.0

pub body-short : (entry : U2) → IsRecord entry → length (body_of entry) ≤ most_body_bytes
body-short (Event event) is = let size = length-event_body event event.src event.dst refl refl is.writable in let few = of_address event.src in omega arith
  where
    of_address : (src : Addr) → event_size src ≤ 76
    of_address (V4 first) = omega arith
    of_address (V6 first) = omega arith
body-short (Packet packet) is = let short : 28 + length packet.bytes ≤ 1048576 = is.writable in let size = length-packet_body packet in omega arith
body-short (Other kind bytes) is = is.writable.1

-- what was read of the numbers of an event
pub record IsEventRead (event : U2Event) (words tail : List ℕ) : Type 0 where
  pub words_bytes : AreBytes words
  pub tail_bytes : AreBytes tail
  pub words_size : length words ≡ 36
  pub tail_size : length tail ≡ 8
  pub values : List ℕ
  pub values_size : length values ≡ 9
  pub values_read : IsRead big_number 4 words values
  pub ends : List ℕ
  pub ends_size : length ends ≡ 2
  pub ends_read : IsRead big_number 2 (take 4 tail) ends
  pub words_are : event_words event ≡ places 0 9 values
  pub ports_are : event_ports event ≡ places 0 2 ends
  pub octets_are : event_octets event ≡ places 0 4 (drop 4 tail)

-- the body of an event whose numbers were read
body-read : (event : U2Event) (words tail : List ℕ) → IsEventRead event words tail
    → event_body event ≡ words ++ address_bytes event.src ++ address_bytes event.dst ++ tail
unfolding event_body
body-read event words tail is =
    let src = address_bytes event.src in
    let dst = address_bytes event.dst in
    let values : event_words event ≡ is.values = is.words_are ∙ places-rest 0 9 is.values (omega arith) in
    let ends : event_ports event ≡ is.ends = is.ports_are ∙ places-rest 0 2 is.ends (omega arith) in
    let octets : event_octets event ≡ drop 4 tail = is.octets_are ∙ places-rest 0 4 (drop 4 tail) (omega (arith, is.tail_size, length-drop 4 tail)) in
    let size : length (take 4 tail) ≡ 2 * length is.ends = omega (arith, is.tail_size, is.ends_size, length-take 4 tail) in
    let front = numbers-read 4 words is.values is.words_bytes (omega (arith, is.words_size, is.values_size)) is.values_read in
    let ports = numbers-read 2 (take 4 tail) is.ends (bytes-take 4 tail is.tail_bytes) size is.ends_read in
    ap (λ (w : List ℕ). w ++ src ++ dst ++ numbers 2 (event_ports event) ++ event_octets event) (ap (numbers 4) values ∙ front)
    ∙ ap (λ (p : List ℕ). words ++ src ++ dst ++ p ++ event_octets event) (ap (numbers 2) ends ∙ ports)
    ∙ ap (λ (o : List ℕ). words ++ src ++ dst ++ take 4 tail ++ o) octets
    ∙ append_assoc (words ++ src ++ dst) (take 4 tail) (drop 4 tail)
    ∙ ap (λ (t : List ℕ). words ++ src ++ dst ++ t) (take-append-drop 4 tail)

-- an event's numbers that are read of its body fit
fits-read : (event : U2Event) (words tail : List ℕ) → IsEventRead event words tail → IsInRange event.src → IsInRange event.dst → FitsEvent event
fits-read event words tail is src dst =
    let values : event_words event ≡ is.values = is.words_are ∙ places-rest 0 9 is.values (omega arith) in
    let ends : event_ports event ≡ is.ends = is.ports_are ∙ places-rest 0 2 is.ends (omega arith) in
    let octets : event_octets event ≡ drop 4 tail = is.octets_are ∙ places-rest 0 4 (drop 4 tail) (omega (arith, is.tail_size, length-drop 4 tail)) in
    record {
      words = subst (AllFit 4) (sym values) (numbers-fit 4 words is.values is.words_bytes is.values_read);
      src = src;
      dst = dst;
      ports = subst (AllFit 2) (sym ends) (numbers-fit 2 (take 4 tail) is.ends (bytes-take 4 tail is.tail_bytes) is.ends_read);
      octets = subst (AllFit 1) (sym octets) (all-bytes (drop 4 tail) (bytes-drop 4 tail is.tail_bytes));
    }

-- the event that is read is that of its words and its tail
pub event-read : (event : U2Event) (words : List ℕ) (src dst : Addr) (tail : List ℕ) → event.src ≡ src → event.dst ≡ dst → IsEventRead event words tail → IsEventOf words src dst tail event
event-read event words src dst tail src_is dst_is is =
    record {
      src_is = src_is;
      dst_is = dst_is;
      body_is = rw (← src_is, ← dst_is) (body-read event words tail is);
      fits = λ (first : IsInRange src) (second : IsInRange dst). fits-read event words tail is (subst IsInRange (sym src_is) first) (subst IsInRange (sym dst_is) second);
    }

-- the parts of the body of an event, with addresses of `width` bytes
pub record AreParts (width : ℕ) (body words tail : List ℕ) (first second : ℕ) : Type 0 where
  pub bytes : AreBytes body
  pub size : length body ≡ 44 + (width + width)
  pub words_are : words ≡ take 36 body
  pub after : List ℕ
  pub after_is : after ≡ drop 36 body
  pub tail_is : tail ≡ drop (width + width) after
  pub src : List ℕ
  pub src_is : src ≡ take width (take (width + width) after)
  pub dst : List ℕ
  pub dst_is : dst ≡ drop width (take (width + width) after)
  pub first_is : first ≡ big_number width src
  pub second_is : second ≡ big_number width dst

-- the parts make the body, and the addresses fit
pub parts-whole : (width : ℕ) (body words tail : List ℕ) (first second : ℕ) → AreParts width body words tail first second
    → (words ++ big_bytes width first ++ big_bytes width second ++ tail ≡ body) × (first < 256 ^ width) × (second < 256 ^ width)
parts-whole width body words tail first second are =
    let after = drop 36 body in
    let both = take (width + width) after in
    let after_bytes = bytes-drop 36 body are.bytes in
    let both_bytes = bytes-take (width + width) after after_bytes in
    let both_size : length both ≡ width + width =
    omega (arith, are.size, length-take (width + width) after, length-drop 36 body) in
    let src_bytes = bytes-take width both both_bytes in
    let dst_bytes = bytes-drop width both both_bytes in
    let src_is : are.src ≡ take width both = are.src_is ∙ ap (λ (b : List ℕ). take width (take (width + width) b)) are.after_is in
    let dst_is : are.dst ≡ drop width both = are.dst_is ∙ ap (λ (b : List ℕ). drop width (take (width + width) b)) are.after_is in
    let tail_is : tail ≡ drop (width + width) after = are.tail_is ∙ ap (λ (b : List ℕ). drop (width + width) b) are.after_is in
    let first_is : first ≡ big_number width (take width both) = are.first_is ∙ ap (big_number width) src_is in
    let second_is : second ≡ big_number width (drop width both) = are.second_is ∙ ap (big_number width) dst_is in
    let src =
    ap (big_bytes width) first_is ∙ bytes-number width (take width both) src_bytes (omega (arith, length-take width both)) in
    let dst =
    ap (big_bytes width) second_is ∙ bytes-number width (drop width both) dst_bytes (omega (arith, length-drop width both)) in
    let whole : words ++ big_bytes width first ++ big_bytes width second ++ tail ≡ body =
    rw (
      are.words_are,
      src,
      dst,
      tail_is,
      append_assoc (take 36 body) (take width both) (drop width both),
      take-append-drop width both,
      append_assoc (take 36 body) both (drop (width + width) after),
      take-append-drop (width + width) after,
      take-append-drop 36 body,
    ) refl in (
      whole,
      subst (λ (n : ℕ). n < 256 ^ width) (sym first_is) (big_from-lt 0 width (take width both) src_bytes),
      subst (λ (n : ℕ). n < 256 ^ width) (sym second_is) (big_from-lt 0 width (drop width both) dst_bytes),
    )

-- an event between addresses of version 4 whose body is that
pub event-of : (event : U2Event) (body words tail : List ℕ) (first second : ℕ) → AreParts 4 body words tail first second
    → IsEventOf words (V4 first) (V4 second) tail event
    → IsRecordOf 7 body (Event event)
event-of event body words tail first second are of =
    let whole = parts-whole 4 body words tail first second are in
    let one : AreOfOneVersion event.src event.dst = rw (of.src_is, of.dst_is) tt in
    record {
      is = record { writable = one; fits = of.fits whole.1 whole.2 };
      kind_is = ap event_kind of.src_is;
      body_is = of.body_is ∙ whole.0;
    }

-- an event between addresses of version 6 whose body is that
pub event-of-6 : (event : U2Event) (body words tail : List ℕ) (first second : ℕ) → AreParts 16 body words tail first second
    → IsEventOf words (V6 first) (V6 second) tail event
    → IsRecordOf 72 body (Event event)
event-of-6 event body words tail first second are of =
    let whole = parts-whole 16 body words tail first second are in
    let one : AreOfOneVersion event.src event.dst = rw (of.src_is, of.dst_is) tt in
    record {
      is = record { writable = one; fits = of.fits whole.1 whole.2 };
      kind_is = ap event_kind of.src_is;
      body_is = of.body_is ∙ whole.0;
    }

-- a packet whose numbers were read
pub packet-of : (packet : U2Packet) (body words bytes values : List ℕ) → AreBytes body → length body ≤ most_body_bytes → 28 ≤ length body
    → words ≡ take 28 body → bytes ≡ drop 28 body → length values ≡ 7 → IsRead big_number 4 words values
    → take 6 (packet_words packet) ≡ places 0 6 values → get_or values 6 0 ≡ length bytes → packet.bytes ≡ bytes
    → IsRecordOf 2 body (Packet packet)
unfolding packet_body
packet-of packet body words bytes values small short long words_are bytes_are values_size values_read six count bytes_is =
    let words_bytes : AreBytes words = subst AreBytes (sym words_are) (bytes-take 28 body small) in
    let words_size : length words ≡ 28 = ap length words_are ∙ omega (arith, length-take 28 body) in
    let bytes_size : length packet.bytes + 28 ≡ length body = omega (arith, ap length bytes_is, ap length bytes_are, length-drop 28 body) in
    let all : packet_words packet ≡ values =
    ap (λ (front : List ℕ). front ++ length packet.bytes ∷ []) six
    ∙ ap (λ (n : ℕ). places 0 6 values ++ n ∷ []) (ap length bytes_is ∙ sym count)
    ∙ places-rest 0 7 values (omega arith) in
    let front : numbers 4 (packet_words packet) ≡ words = ap (numbers 4) all ∙ numbers-read 4 words values words_bytes (omega arith) values_read in
    let whole : numbers 4 (packet_words packet) ++ packet.bytes ≡ body =
    ap (λ (w : List ℕ). w ++ packet.bytes) (front ∙ words_are)
    ∙ ap (λ (b : List ℕ). take 28 body ++ b) (bytes_is ∙ bytes_are)
    ∙ take-append-drop 28 body in
    let fit : AllFit 4 (packet_words packet) = subst (AllFit 4) (sym all) (numbers-fit 4 words values words_bytes values_read) in
    let own : AllFit 1 packet.bytes = subst (AllFit 1) (sym (bytes_is ∙ bytes_are)) (all-bytes (drop 28 body) (bytes-drop 28 body small)) in
    record {
      is = record { writable = omega arith; fits = (fit, own) };
      kind_is = refl;
      body_is = whole;
    }
