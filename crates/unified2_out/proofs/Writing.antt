-- The bytes of a record, part by part after what is there.
use Rattle.std.proofs.Common.{◌≡◌, ℕ, ◌+◌, List, [], ◌∷◌, ◌++◌, length, refl, sym, ap, ◌∙◌, append_assoc}
use Rattle.byteorder.specs.Endian.{big_bytes}
use Rattle.unified2_out.specs.declared.record.U2Event.{U2Event}
use Rattle.unified2_out.specs.declared.record.U2Packet.{U2Packet}
use Rattle.unified2_out.specs.declared.record.U2.TheVariants.{Event, Packet}
use Rattle.unified2_out.specs.Records.{numbers, address_bytes, event_words, event_ports, event_octets, packet_words, event_body, packet_body, event_kind, frame_text, unified2_text}
use Rattle.unified2_out.specs.Parts.{event_len}
use Rattle.unified2_out.proofs.Bodies.{length-any_event, length-packet_body}

-- an event: its head, its addresses and its tail
event_text-parts : (event : U2Event) (old : List ℕ)
    → old ++ numbers 4 (event_kind event.src ∷ event_len event.src event.dst ∷ event_words event) ++ address_bytes event.src ++
    address_bytes event.dst ++ (numbers 2 (event_ports event) ++ event_octets event)
    ≡ old ++ unified2_text (Event event)
unfolding unified2_text frame_text event_body
event_text-parts event old =
    let size = length-any_event event event.src event.dst refl refl in
    let words = numbers 4 (event_words event) in
    let head = numbers 4 (event_kind event.src ∷ event_len event.src event.dst ∷ []) in
    regroup old head words (address_bytes event.src) (address_bytes event.dst) (numbers 2 (event_ports event)) (event_octets event)
    ∙ ap (λ (n : ℕ). old ++ (numbers 4 (event_kind event.src ∷ n ∷ []) ++ event_body event)) (sym size)
  where
    regroup : (old head words src dst ports octets : List ℕ) → old ++ (head ++ words) ++ src ++ dst ++ (ports ++ octets) ≡ old ++ (head ++ (words ++ src ++ dst ++ ports ++ octets))
    regroup old head words src dst ports octets = simp append_assoc

-- appended one by one
pub event-appended : (event : U2Event) (old head tail first second third last : List ℕ)
    → head ≡ numbers 4 (event_kind event.src ∷ event_len event.src event.dst ∷ event_words event) → tail ≡ numbers 2 (event_ports event) ++ event_octets event
    → first ≡ old ++ head → second ≡ first ++ address_bytes event.src → third ≡ second ++ address_bytes event.dst → last ≡ third ++ tail
    → last ≡ old ++ unified2_text (Event event)
event-appended event old head tail first second third last head_is tail_is first_is second_is third_is last_is =
    rw (last_is, third_is, second_is, first_is, head_is, tail_is) (event_text-parts event old)

-- a packet: its head and its bytes
packet_text-parts : (packet : U2Packet) (old : List ℕ)
    → old ++ numbers 4 (2 ∷ (28 + length packet.bytes) ∷ packet_words packet) ++ packet.bytes ≡ old ++ unified2_text (Packet packet)
unfolding unified2_text frame_text packet_body
packet_text-parts packet old =
    let size = length-packet_body packet in
    let head = numbers 4 (2 ∷ (28 + length packet.bytes) ∷ []) in
    regroup old head (numbers 4 (packet_words packet)) packet.bytes
    ∙ ap (λ (n : ℕ). old ++ (numbers 4 (2 ∷ n ∷ []) ++ packet_body packet)) (sym size)
  where
    regroup : (old head words bytes : List ℕ) → old ++ (head ++ words) ++ bytes ≡ old ++ (head ++ (words ++ bytes))
    regroup old head words bytes = simp append_assoc

-- appended one by one
pub packet-appended : (packet : U2Packet) (size count : ℕ) (old head bytes first last : List ℕ)
    → big_bytes 4 size ≡ big_bytes 4 (28 + length bytes) → big_bytes 4 count ≡ big_bytes 4 (length bytes)
    → head ≡ numbers 4 (2 ∷ size ∷ packet.sensor ∷ packet.id ∷ packet.event_second ∷ packet.second ∷ packet.micro ∷ packet.link ∷ count ∷ [])
    → bytes ≡ packet.bytes → first ≡ old ++ head → last ≡ first ++ bytes → last ≡ old ++ unified2_text (Packet packet)
packet-appended packet size count old head bytes first last size_is count_is head_is bytes_is first_is last_is =
    let words : List ℕ → List ℕ → List ℕ = λ s n. big_bytes 4 2 ++ (s ++ (big_bytes 4 packet.sensor ++ (big_bytes 4 packet.id ++ (big_bytes 4 packet.event_second
    ++ (big_bytes 4 packet.second ++ (big_bytes 4 packet.micro ++ (big_bytes 4 packet.link ++ (n ++ [])))))))) in
    let exact : head ≡ numbers 4 (2 ∷ (28 + length bytes) ∷ packet.sensor ∷ packet.id ∷ packet.event_second ∷ packet.second ∷ packet.micro ∷ packet.link ∷ length bytes ∷ []) =
    head_is ∙ ap (λ s. words s (big_bytes 4 count)) size_is ∙ ap (words (big_bytes 4 (28 + length bytes))) count_is in
    rw (last_is, first_is, exact, bytes_is) (packet_text-parts packet old)

-- any other record: its head and its body
frame_text-parts : (kind : ℕ) (body old : List ℕ) → old ++ numbers 4 (kind ∷ length body ∷ []) ++ body ≡ old ++ frame_text kind body
unfolding frame_text
frame_text-parts kind body old = append_assoc old (numbers 4 (kind ∷ length body ∷ [])) body

-- appended one by one
pub frame-appended : (kind size : ℕ) (body old head first last : List ℕ) → big_bytes 4 size ≡ big_bytes 4 (length body)
    → head ≡ numbers 4 (kind ∷ size ∷ []) → first ≡ old ++ head → last ≡ first ++ body → last ≡ old ++ frame_text kind body
frame-appended kind size body old head first last size_is head_is first_is last_is =
    rw (last_is, first_is, head_is ∙ ap (λ s. big_bytes 4 kind ++ (s ++ [])) size_is) (frame_text-parts kind body old)
