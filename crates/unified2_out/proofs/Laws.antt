-- The laws of the format: a kind and a body are of one record, no record's text begins another's, and
-- a list of records is one by its joined text.
use Rattle.std.proofs.Common.{◌≡◌, ℕ, suc, ◌≤◌, List, [], ◌∷◌, ◌++◌, length, get_or, refl, sym, ap, ◌∙◌, append_assoc, append-nil, length-append, arith}
use Rattle.std.specs.List.{All}
use Rattle.std.proofs.lemmas.List.{take_all}
use Rattle.edge_io.specs.declared.address.Addr.{Addr}
use Rattle.edge_io.specs.declared.address.Addr.TheVariants.{V4, V6}
use Rattle.unified2_out.specs.declared.record.U2Event.{U2Event}
use Rattle.unified2_out.specs.declared.record.U2Packet.{U2Packet}
use Rattle.unified2_out.specs.declared.record.U2.{U2}
use Rattle.unified2_out.specs.declared.record.U2.TheVariants.{Event, Packet, Other}
use Rattle.unified2_out.specs.Records.{numbers, address_bytes, event_words, event_ports, event_octets, packet_words, event_body}
use Rattle.unified2_out.specs.Records.{packet_body, event_kind, kind_of, body_of, unified2_text, AreOfOneVersion, IsInRange}
use Rattle.unified2_out.specs.Records.{IsOtherKind}
use Rattle.unified2_out.specs.Reading.{IsRecord, joined_text, AreRecordsOf, IsBadAt}
use Rattle.unified2_out.proofs.Numbers.{number-split, numbers-split}
use Rattle.unified2_out.proofs.Bodies.{event-kinds, kind-fits, body-short}
use Rattle.unified2_out.proofs.Frames.{frame-split, length-frame_text}

-- two addresses of one version, with what follows them, are one where their bytes are
address-split : (first second : Addr) (rest more : List ℕ) → IsInRange first → IsInRange second → event_kind first ≡ event_kind second
    → address_bytes first ++ rest ≡ address_bytes second ++ more → (first ≡ second) × (rest ≡ more)
address-split (V4 first) (V4 second) rest more fits as_well kinds same =
    let both = number-split 4 first second rest more fits as_well same in
    (ap V4 both.0, both.1)
address-split (V4 first) (V6 second) rest more fits as_well kinds same = absurd (omega arith)
address-split (V6 first) (V4 second) rest more fits as_well kinds same = absurd (omega arith)
address-split (V6 first) (V6 second) rest more fits as_well kinds same =
    let both = number-split 16 first second rest more fits as_well same in
    (ap V6 both.0, both.1)

-- addresses of one version make events of one kind
one-kind : (src dst : Addr) → AreOfOneVersion src dst → event_kind src ≡ event_kind dst
one-kind (V4 first) (V4 second) one = refl
one-kind (V4 first) (V6 second) one = absurd one
one-kind (V6 first) (V4 second) one = absurd one
one-kind (V6 first) (V6 second) one = refl

regroup : (a b c d e : List ℕ) → a ++ b ++ c ++ d ++ e ≡ a ++ (b ++ (c ++ (d ++ e)))
regroup a b c d e = simp append_assoc

-- an event by its numbers
event_by : List ℕ → Addr → Addr → List ℕ → List ℕ → U2Event
event_by words src dst ports octets =
    record {
      sensor = get_or words 0 0;
      id = get_or words 1 0;
      second = get_or words 2 0;
      micro = get_or words 3 0;
      sid = get_or words 4 0;
      gid = get_or words 5 0;
      rev = get_or words 6 0;
      class = get_or words 7 0;
      priority = get_or words 8 0;
      src = src;
      dst = dst;
      sport = get_or ports 0 0;
      dport = get_or ports 1 0;
      protocol = get_or octets 0 0;
      impact_flag = get_or octets 1 0;
      impact = get_or octets 2 0;
      blocked = get_or octets 3 0;
    }

event_by-own : (event : U2Event) → event_by (event_words event) event.src event.dst (event_ports event) (event_octets event) ≡ event
unfolding event_by
event_by-own event = refl

-- an event is one by its kind and its body
event-one : (first second : U2Event) → IsRecord (Event first) → IsRecord (Event second) → event_kind first.src ≡ event_kind second.src → event_body first ≡ event_body second → first ≡ second
unfolding event_body
event-one first second is as_well kinds same =
    let parts : (event : U2Event) → List ℕ =
    λ (event : U2Event). address_bytes event.dst ++ (numbers 2 (event_ports event) ++ event_octets event) in
    let regrouped = λ (event : U2Event).
    regroup (numbers 4 (event_words event)) (address_bytes event.src) (address_bytes event.dst) (numbers 2 (event_ports event))
    (event_octets event) in
    let words =
    numbers-split 4 (event_words first) (event_words second) (address_bytes first.src ++ parts first)
    (address_bytes second.src ++ parts second)
    is.fits.words as_well.fits.words refl
    (sym (regrouped first) ∙ same ∙ regrouped second) in
    let src = address-split first.src second.src (parts first) (parts second) is.fits.src as_well.fits.src kinds words.1 in
    let dst_kinds = sym (one-kind first.src first.dst is.writable) ∙ kinds ∙ one-kind second.src second.dst as_well.writable in
    let dst =
    address-split first.dst second.dst (numbers 2 (event_ports first) ++ event_octets first)
    (numbers 2 (event_ports second) ++ event_octets second)
    is.fits.dst as_well.fits.dst dst_kinds src.1 in
    let ports =
    numbers-split 2 (event_ports first) (event_ports second) (event_octets first) (event_octets second) is.fits.ports
    as_well.fits.ports refl dst.1 in
    sym (event_by-own first)
    ∙ ap (λ (w : List ℕ). event_by w first.src first.dst (event_ports first) (event_octets first)) words.0
    ∙ ap (λ (a : Addr). event_by (event_words second) a first.dst (event_ports first) (event_octets first)) src.0
    ∙ ap (λ (a : Addr). event_by (event_words second) second.src a (event_ports first) (event_octets first)) dst.0
    ∙ ap (λ (p : List ℕ). event_by (event_words second) second.src second.dst p (event_octets first)) ports.0
    ∙ ap (event_by (event_words second) second.src second.dst (event_ports second)) ports.1
    ∙ event_by-own second

-- a packet by its numbers and its bytes
packet_by : List ℕ → List ℕ → U2Packet
packet_by words bytes =
    record {
      sensor = get_or words 0 0;
      id = get_or words 1 0;
      event_second = get_or words 2 0;
      second = get_or words 3 0;
      micro = get_or words 4 0;
      link = get_or words 5 0;
      bytes = bytes;
    }

packet_by-own : (packet : U2Packet) → packet_by (packet_words packet) packet.bytes ≡ packet
unfolding packet_by
packet_by-own packet = refl

-- a packet is one by its body
packet-one : (first second : U2Packet) → IsRecord (Packet first) → IsRecord (Packet second) → packet_body first ≡ packet_body second → first ≡ second
unfolding packet_body
packet-one first second is as_well same =
    let words = numbers-split 4 (packet_words first) (packet_words second) first.bytes second.bytes is.fits.0 as_well.fits.0 refl same in
    sym (packet_by-own first)
    ∙ ap (λ (w : List ℕ). packet_by w first.bytes) words.0
    ∙ ap (packet_by (packet_words second)) words.1
    ∙ packet_by-own second

-- an event's kind is no other's
event-no_other : (src : Addr) (kind : ℕ) → IsOtherKind kind → event_kind src ≡ kind → ⊥
event-no_other (V4 first) kind other same = other.no_event (sym same)
event-no_other (V6 first) kind other same = other.no_event6 (sym same)

-- a record is one by its kind and its body
pub record-one : (first second : U2) → IsRecord first → IsRecord second → kind_of first ≡ kind_of second → body_of first ≡ body_of second → first ≡ second
record-one (Event first) (Event second) is as_well kinds bodies = ap Event (event-one first second is as_well kinds bodies)
record-one (Event first) (Packet second) is as_well kinds bodies = absurd (event-kinds first.src kinds)
record-one (Event first) (Other kind bytes) is as_well kinds bodies = absurd (event-no_other first.src kind as_well.writable.0 kinds)
record-one (Packet first) (Event second) is as_well kinds bodies = absurd (event-kinds second.src (sym kinds))
record-one (Packet first) (Packet second) is as_well kinds bodies = ap Packet (packet-one first second is as_well bodies)
record-one (Packet first) (Other kind bytes) is as_well kinds bodies = absurd (as_well.writable.0.no_packet (sym kinds))
record-one (Other kind bytes) (Event second) is as_well kinds bodies = absurd (event-no_other second.src kind is.writable.0 (sym kinds))
record-one (Other kind bytes) (Packet second) is as_well kinds bodies = absurd (is.writable.0.no_packet kinds)
record-one (Other kind bytes) (Other other more) is as_well kinds bodies =
    ap (λ (k : ℕ). Other k bytes) kinds ∙ ap (Other other) bodies

-- two records, with what follows them, are one where their texts are
pub text-split : (first second : U2) (rest more : List ℕ) → IsRecord first → IsRecord second
    → unified2_text first ++ rest ≡ unified2_text second ++ more → (first ≡ second) × (rest ≡ more)
unfolding unified2_text
text-split first second rest more is as_well same =
    let parts =
    frame-split (kind_of first) (kind_of second) (body_of first) (body_of second) rest more (kind-fits first is)
    (kind-fits second as_well) (body-short first is) (body-short second as_well) same in
    (record-one first second is as_well parts.0 parts.1, parts.2)

-- no record's text is a proper beginning of another's
pub no_proper_beginning : (first second : U2) (rest : List ℕ) → IsRecord first → IsRecord second
    → unified2_text first ++ rest ≡ unified2_text second → (first ≡ second) × (rest ≡ [])
no_proper_beginning first second rest is as_well same =
    text-split first second rest [] is as_well (same ∙ sym (append-nil (unified2_text second)))

-- a record's text is no shorter than its header
pub length-unified2_text : (entry : U2) → 8 ≤ length (unified2_text entry)
unfolding unified2_text
length-unified2_text entry = omega (arith, length-frame_text (kind_of entry) (body_of entry))

-- a list of records is one by its joined text
pub records-one : (firsts seconds : List U2) → All IsRecord firsts → All IsRecord seconds → joined_text firsts ≡ joined_text seconds → firsts ≡ seconds
records-one [] [] are as_well same = refl
records-one [] (second ∷ seconds) are as_well same =
    let size = ap length same ∙ length-append (unified2_text second) (joined_text seconds) in
    absurd (omega (arith, size, length-unified2_text second))
records-one (first ∷ firsts) [] are as_well same =
    let size = ap length (sym same) ∙ length-append (unified2_text first) (joined_text firsts) in
    absurd (omega (arith, size, length-unified2_text first))
records-one (first ∷ firsts) (second ∷ seconds) are as_well same =
    let heads = text-split first second (joined_text firsts) (joined_text seconds) (are 0 first (omega arith)) (as_well 0 second (omega arith)) same in
    let tails = records-one firsts seconds (λ k d h. are (suc k) d (omega arith)) (λ k d h. as_well (suc k) d (omega arith)) heads.1 in
    ap (λ (r : U2). r ∷ firsts) heads.0 ∙ ap (λ (rs : List U2). second ∷ rs) tails

-- bytes are of one list of records
pub records_of-one : (bytes : List ℕ) (firsts seconds : List U2) → AreRecordsOf bytes firsts → AreRecordsOf bytes seconds → firsts ≡ seconds
records_of-one bytes firsts seconds are as_well = records-one firsts seconds are.each as_well.each (are.joined ∙ sym as_well.joined)

-- bad bytes are of no list of records
pub bad-no_records : (bytes : List ℕ) (place : ℕ) (entries : List U2) → IsBadAt bytes place → AreRecordsOf bytes entries → ⊥
bad-no_records bytes place entries bad are =
    let whole = sym (take_all (length bytes) bytes (omega arith)) in
    let least = bad.furthest (length bytes) (record { within = omega arith; entries = entries; are = record { each = are.each; joined = are.joined ∙ whole } }) in
    omega (arith, least, bad.left)
