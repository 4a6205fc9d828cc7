-- What is made, step by step: each loop told of what is left to make, and each frame by its draws.
use Rattle.std.proofs.Common.{◌≡◌, ℕ, zero, suc, ◌+◌, ◌-◌, ◌*◌, ◌^◌, ◌<◌, ◌≤◌, Bool, true, false, List, [], ◌∷◌, ◌++◌, length}
use Rattle.std.proofs.Common.{get_or, map, set, refl, sym, ap, ◌∙◌, add-one, append_assoc, append-nil, length-append, eq-eqb}
use Rattle.std.proofs.Common.{arith, ◌==◌}
use Rattle.std.specs.Prelude.{codes, decimal, slice_set}
use Rattle.std.proofs.lemmas.Bool.{ne_eqb}
use Rattle.std.proofs.lemmas.Fmt.{length-decimal-le}
use Rattle.std.proofs.lemmas.List.Edits.{fill_by_more}
use Rattle.pcap_input.specs.declared.frames.Segment.{Segment}
use Rattle.pcap_input.specs.declared.traffic.TrafficSession.{TrafficSession}
use Rattle.pcap_input.specs.declared.traffic.Traffic.{Traffic}
use Rattle.pcap_input.specs.Frames.{tcp_frame, udp_frame}
use Rattle.pcap_input.specs.Generated.{step, steps, draw, letters, first_session, first_traffic, segment_at, session_after}
use Rattle.pcap_input.specs.Generated.{session_at, payload_at, state_after, text_drawn, with_state, Made, made_of_session}
use Rattle.pcap_input.specs.Generated.{made_segment, made_datagram, made, IsMade, frames, header_bytes, record_bytes}
use Rattle.pcap_input.specs.Generated.{records_from, capture_of, generated}

-- a letter more
pub letters-step : (left rest state : ℕ) (front whole : List ℕ) → left ≡ rest + 1 → front ++ letters left state ≡ whole → (front ++ (97 + draw 26 state) ∷ []) ++ letters rest (step state) ≡ whole
unfolding letters
letters-step left rest state front whole next is =
    append_assoc front ((97 + draw 26 state) ∷ []) (letters rest (step state))
    ∙ sym (ap (λ n. front ++ letters n state) (next ∙ add-one rest))
    ∙ is

-- no letter more
pub letters-end : (left state : ℕ) (front whole : List ℕ) → left ≡ 0 → front ++ letters left state ≡ whole → front ≡ whole
unfolding letters
letters-end left state front whole none is =
    sym (append-nil front) ∙ sym (ap (λ n. front ++ letters n state) none) ∙ is

-- a step more
pub steps-step : (left rest state whole : ℕ) → left ≡ rest + 1 → steps left state ≡ whole → steps rest (step state) ≡ whole
unfolding steps
steps-step left rest state whole next is = sym (ap (λ n. steps n state) (next ∙ add-one rest)) ∙ is

-- no step more
pub steps-end : (left state whole : ℕ) → left ≡ 0 → steps left state ≡ whole → state ≡ whole
unfolding steps
steps-end left state whole none is = sym (ap (λ n. steps n state) none) ∙ is

-- the first step
pub steps-first : (count state : ℕ) → steps (suc count) state ≡ steps count (step state)
unfolding steps
steps-first count state = refl

-- the text of a datagram is short
pub text-short : (number : ℕ) (bytes : List ℕ) → number < 1000 → bytes ≡ codes "gen-" ++ decimal number → length bytes ≤ 100
text-short number bytes small is =
    let digits : length (decimal number) ≤ 3 = length-decimal-le 3 number (omega arith) small (omega arith) in
    let size : length bytes ≡ 4 + length (decimal number) = ap length is ∙ length-append (codes "gen-") (decimal number) in
    omega arith

-- a session more
pub sessions-step : (sessions : List TrafficSession) (number : ℕ) (session : TrafficSession) → number < length sessions → session ≡ first_session number
    → ((k : ℕ) (d : TrafficSession) → k < number → get_or sessions k d ≡ first_session k)
    → (k : ℕ) (d : TrafficSession) → k < number + 1 → get_or (set sessions number session) k d ≡ first_session k
sessions-step sessions number session within is first k d below =
    ap (λ s. get_or (set sessions number s) k d) is
    ∙ fill_by_more first_session sessions number d within (λ j under. first j d under) k below

-- a datagram, by its draws
pub datagram-made : (traffic : Traffic) (host first after : ℕ) (text frame : List ℕ)
    → host ≡ 1 + draw 16 traffic.draws.state
    → first ≡ step traffic.draws.state
    → text ≡ text_drawn first
    → after ≡ step first
    → frame ≡ udp_frame (record { net = 1; host = host; port = 1024 }) (record { net = 2; host = 2; port = 53 }) text
    → IsMade (made_datagram traffic) frame (record { draws = record { state = after }; sessions = traffic.sessions })
unfolding made_datagram steps
datagram-made traffic host first after text frame host_is first_is text_is after_is frame_is =
    rw (frame_is, text_is, after_is, first_is, host_is) refl

-- a segment, by its draws
pub segment-made : (traffic : Traffic) (number first after : ℕ) (session next : TrafficSession) (sessions : List TrafficSession) (segment : Segment) (payload frame : List ℕ)
    → number ≡ draw 16 traffic.draws.state
    → first ≡ step traffic.draws.state
    → session ≡ session_at traffic.sessions number
    → payload ≡ payload_at session.turn first
    → after ≡ state_after session.turn first
    → sessions ≡ traffic.sessions
    → next ≡ session_after session.client session.server session.turn
    → segment ≡ segment_at number session.client session.server session.turn
    → frame ≡ tcp_frame segment payload
    → IsMade (made_segment traffic) frame (record { draws = record { state = after }; sessions = set sessions number next })
unfolding made_segment made_of_session
segment-made traffic number first after session next sessions segment payload frame number_is first_is session_is payload_is after_is sessions_are next_is segment_is frame_is =
    rw (frame_is, segment_is, next_is, sessions_are, payload_is, after_is, session_is, first_is, number_is) refl

-- one in four is a datagram
pub made-datagram : (traffic following : Traffic) (drawn first : ℕ) (frame : List ℕ)
    → drawn ≡ draw 4 traffic.draws.state
    → first ≡ step traffic.draws.state
    → drawn ≡ 0
    → IsMade (made_datagram (with_state traffic first)) frame following
    → IsMade (made traffic) frame following
unfolding made
made-datagram traffic following drawn first frame drawn_is first_is none is =
    let zero_drawn : (draw 4 traffic.draws.state == 0) ≡ true = eq-eqb _ _ (sym drawn_is ∙ none) in
    rw zero_drawn (ap (λ s. made_datagram (with_state traffic s)) (sym first_is) ∙ is)

-- the frames that are no datagrams are segments
pub made-segment : (traffic following : Traffic) (drawn first : ℕ) (frame : List ℕ)
    → drawn ≡ draw 4 traffic.draws.state
    → first ≡ step traffic.draws.state
    → (drawn ≡ 0 → ⊥)
    → IsMade (made_segment (with_state traffic first)) frame following
    → IsMade (made traffic) frame following
unfolding made
made-segment traffic following drawn first frame drawn_is first_is some is =
    let other_drawn : (draw 4 traffic.draws.state == 0) ≡ false = ne_eqb _ _ (λ none. some (drawn_is ∙ none)) in
    rw other_drawn (ap (λ s. made_segment (with_state traffic s)) (sym first_is) ∙ is)

-- no record yet
pub records-first : (seed count : ℕ) (traffic : Traffic) (bytes : List ℕ) → bytes ≡ header_bytes → traffic ≡ first_traffic seed
    → bytes ++ records_from 0 (frames (count - 0) traffic) ≡ generated seed count
unfolding generated capture_of
records-first seed count traffic bytes bytes_are traffic_is =
    let whole : count - 0 ≡ count = omega arith in
    rw (bytes_are, traffic_is, whole) refl

-- a record more
pub records-step : (left rest millis : ℕ) (traffic following : Traffic) (frame bytes whole : List ℕ)
    → left ≡ rest + 1
    → IsMade (made traffic) frame following
    → bytes ++ records_from millis (frames left traffic) ≡ whole
    → (bytes ++ record_bytes millis frame) ++ records_from (millis + 1) (frames rest following) ≡ whole
unfolding frames records_from
records-step left rest millis traffic following frame bytes whole next is_made is =
    append_assoc bytes (record_bytes millis frame) (records_from (millis + 1) (frames rest following))
    ∙ ap (λ (m : Made). bytes ++ (record_bytes millis m.frame ++ records_from (millis + 1) (frames rest m.after))) (sym is_made)
    ∙ sym (ap (λ n. bytes ++ records_from millis (frames n traffic)) (next ∙ add-one rest))
    ∙ is

-- no record more
pub records-end : (left millis : ℕ) (traffic : Traffic) (bytes whole : List ℕ) → left ≡ 0 → bytes ++ records_from millis (frames left traffic) ≡ whole → bytes ≡ whole
unfolding frames records_from
records-end left millis traffic bytes whole none is =
    sym (append-nil bytes) ∙ sym (ap (λ n. bytes ++ records_from millis (frames n traffic)) none) ∙ is
