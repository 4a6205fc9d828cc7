-- The laws of a capture that callers use: what a record needs to be there, what it leaves, that it
-- depends on its own bytes alone, and what follows for the records of a whole text.
use Rattle.std.proofs.Common.{◌≡◌, ℕ, ◌+◌, ◌<◌, ◌≤◌, Bool, true, false, List, [], ◌++◌, length, take, drop, refl, sym, ap, ◌∙◌, arith}
use Rattle.std.specs.Prelude.{if◌then◌else◌, nat_lt, nat_le, ◌==◌}
use Rattle.std.proofs.lemmas.List.{take-append-le, length-append, take_at, drop_at}
use Rattle.std.proofs.lemmas.Bool.Decides.{nat_tests}
use Rattle.byteorder.specs.Endian.{big_from, little_from}
use Rattle.byteorder.specs.Numbers.{big_from-take, little_from-take}
use Rattle.pcap_input.specs.declared.capture.CaptureHead.{CaptureHead}
use Rattle.pcap_input.specs.declared.capture.Record.{Record}
use Rattle.pcap_input.specs.declared.capture.CaptureFault.{CaptureFault}
use Rattle.pcap_input.specs.declared.capture.CaptureFault.TheVariants.{Truncated, TooLong, TooMany}
use Rattle.pcap_input.specs.Cut.{Ending, Clean, Refused}
use Rattle.pcap_input.specs.Savefile.{number_at, head_after, head_of, captured_length, record_of, Next, Ends, Follows, next_after, next_of}

-- a number depends on its own bytes alone
pub number_at-append : (swapped : Bool) (place count : ℕ) (front back : List ℕ) → place + count ≤ length front
    → number_at swapped place count (front ++ back) ≡ number_at swapped place count front
unfolding number_at
number_at-append true place count front back fits =
    sym (big_from-take place count (place + count) (front ++ back) (omega arith))
    ∙ ap (big_from place count) (take-append-le (place + count) front back fits)
    ∙ big_from-take place count (place + count) front (omega arith)
number_at-append false place count front back fits =
    sym (little_from-take place count (place + count) (front ++ back) (omega arith))
    ∙ ap (little_from place count) (take-append-le (place + count) front back fits)
    ∙ little_from-take place count (place + count) front (omega arith)

-- the head after the magic number depends on the first 24 bytes alone
head_after-append : (swapped nanos : Bool) (front back : List ℕ) → 24 ≤ length front → head_after swapped nanos (front ++ back) ≡ head_after swapped nanos front
unfolding head_after
head_after-append swapped nanos front back long =
    let major = number_at-append swapped 4 2 front back (omega arith) in
    let link = number_at-append swapped 20 4 front back (omega arith) in
    rw (major, link) refl

-- the head depends on the first 24 bytes alone
pub head_of-append : (front back : List ℕ) → 24 ≤ length front → head_of (front ++ back) ≡ head_of front
unfolding head_of
head_of-append front back long =
    let longer : nat_lt (length (front ++ back)) 24 ≡ false = grind (arith, nat_tests, length-append front back) in
    let as_long : nat_lt (length front) 24 ≡ false = grind (arith, nat_tests) in
    let least = number_at-append false 0 4 front back (omega arith) in
    let most = number_at-append true 0 4 front back (omega arith) in
    let a = head_after-append false false front back long in
    let b = head_after-append false true front back long in
    let c = head_after-append true false front back long in
    let d = head_after-append true true front back long in
    rw (longer, as_long, least, most, a, b, c, d) refl

-- where there is a record, a test that ends the capture doesn't hold
not_ended : (test : Bool) (ending : Ending CaptureFault) (next : Next) (given : Record) (rest : List ℕ)
    → (if test then Ends ending else next) ≡ Follows given rest
    → (test ≡ false) × (next ≡ Follows given rest)
not_ended true ending next given rest is = cc
not_ended false ending next given rest is = (refl, is)

-- what a record needs after its header, and what it leaves
pub record IsAfter (head : CaptureHead) (number : ℕ) (header bytes : List ℕ) (given : Record) (rest : List ℕ) : Type 0 where
  pub short : captured_length head header ≤ 262144
  pub whole : captured_length head header ≤ length bytes
  pub is : given ≡ record_of head number header (take (captured_length head header) bytes)
  pub left : rest ≡ drop (captured_length head header) bytes

pub after_means : (head : CaptureHead) (number place : ℕ) (header bytes : List ℕ) (given : Record) (rest : List ℕ)
    → next_after head number place header bytes ≡ Follows given rest → IsAfter head number header bytes given rest
unfolding next_after
after_means head number place header bytes given rest is =
    let one = not_ended (nat_lt 262144 (captured_length head header)) (Refused (TooLong place (captured_length head header))) _ given rest is in
    let two = not_ended (nat_lt (length bytes) (captured_length head header)) (Refused (Truncated place)) _ given rest one.1 in
    record { short = grind (arith, nat_tests, one.0); whole = grind (arith, nat_tests, two.0); is = cc (two.1); left = cc (two.1) }

-- after a header there is a record where its bytes are there
pub after_follows : (head : CaptureHead) (number place : ℕ) (header bytes : List ℕ) → captured_length head header ≤ 262144 → captured_length head header ≤ length bytes
    → next_after head number place header bytes ≡ Follows (record_of head number header (take (captured_length head header) bytes)) (drop (captured_length head header) bytes)
unfolding next_after
after_follows head number place header bytes short whole =
    let one : nat_lt 262144 (captured_length head header) ≡ false = grind (arith, nat_tests) in
    let two : nat_lt (length bytes) (captured_length head header) ≡ false = grind (arith, nat_tests) in
    rw (one, two) refl

-- after a header, as many bytes as it says are the record's, whatever follows
pub bytes_follow : (head : CaptureHead) (number place : ℕ) (header bytes more : List ℕ) → captured_length head header ≡ length bytes → length bytes ≤ 262144
    → next_after head number place header (bytes ++ more) ≡ Follows (record_of head number header bytes) more
bytes_follow head number place header bytes more is short =
    let enough : captured_length head header ≤ length (bytes ++ more) = omega (arith, length-append bytes more) in
    let front = take_at bytes more (captured_length head header) (sym is) in
    let back = drop_at bytes more (captured_length head header) (sym is) in
    after_follows head number place header (bytes ++ more) (omega arith) enough
    ∙ ap (λ (xs : List ℕ). Follows (record_of head number header xs) (drop (captured_length head header) (bytes ++ more))) front
    ∙ ap (Follows (record_of head number header bytes)) back

-- more captured bytes than a record may have
pub after_too_long : (head : CaptureHead) (number place : ℕ) (header bytes : List ℕ) → 262144 < captured_length head header
    → next_after head number place header bytes ≡ Ends (Refused (TooLong place (captured_length head header)))
unfolding next_after
after_too_long head number place header bytes long =
    let one : nat_lt 262144 (captured_length head header) ≡ true = grind (arith, nat_tests) in
    rw one refl

-- fewer bytes than the captured ones
pub after_truncated : (head : CaptureHead) (number place : ℕ) (header bytes : List ℕ) → captured_length head header ≤ 262144 → length bytes < captured_length head header
    → next_after head number place header bytes ≡ Ends (Refused (Truncated place))
unfolding next_after
after_truncated head number place header bytes short fewer =
    let one : nat_lt 262144 (captured_length head header) ≡ false = grind (arith, nat_tests) in
    let two : nat_lt (length bytes) (captured_length head header) ≡ true = grind (arith, nat_tests) in
    rw (one, two) refl

-- what a record needs to come next: fewer than 4294967295 before it, and a whole header
pub record IsNext (head : CaptureHead) (number place : ℕ) (bytes : List ℕ) (given : Record) (rest : List ℕ) : Type 0 where
  pub few : number < 4294967295
  pub header : 16 ≤ length bytes
  pub after : next_after head number place (take 16 bytes) (drop 16 bytes) ≡ Follows given rest

pub next_means : (head : CaptureHead) (number place : ℕ) (bytes : List ℕ) (given : Record) (rest : List ℕ)
    → next_of head number place bytes ≡ Follows given rest → IsNext head number place bytes given rest
unfolding next_of
next_means head number place bytes given rest is =
    let one = not_ended (length bytes == 0) Clean _ given rest is in
    let two = not_ended (nat_le 4294967295 number) (Refused TooMany) _ given rest one.1 in
    let three = not_ended (nat_lt (length bytes) 16) (Refused (Truncated place)) _ given rest two.1 in
    record { few = grind (arith, nat_tests, two.0); header = grind (arith, nat_tests, three.0); after = three.1 }

-- after a whole header comes what `next_after` says
pub next_of_header : (head : CaptureHead) (number place : ℕ) (header bytes : List ℕ) → length header ≡ 16 → number < 4294967295
    → next_of head number place (header ++ bytes) ≡ next_after head number place header bytes
unfolding next_of
next_of_header head number place header bytes whole few =
    let long : length (header ++ bytes) ≡ 16 + length bytes = omega (arith, length-append header bytes) in
    let one : (length (header ++ bytes) == 0) ≡ false = grind (arith, nat_tests) in
    let two : nat_le 4294967295 number ≡ false = grind (arith, nat_tests) in
    let three : nat_lt (length (header ++ bytes)) 16 ≡ false = grind (arith, nat_tests) in
    let front = take_at header bytes 16 whole in
    let back = drop_at header bytes 16 whole in
    rw (one, two, three, front, back) refl

-- nothing is left
pub next_of_nothing : (head : CaptureHead) (number place : ℕ) → next_of head number place [] ≡ Ends Clean
unfolding next_of
next_of_nothing head number place = refl

-- a byte is left after the last record that may be
pub next_of_too_many : (head : CaptureHead) (number place : ℕ) (bytes : List ℕ) → 0 < length bytes → 4294967295 ≤ number
    → next_of head number place bytes ≡ Ends (Refused TooMany)
unfolding next_of
next_of_too_many head number place bytes some many =
    let one : (length bytes == 0) ≡ false = grind (arith, nat_tests) in
    let two : nat_le 4294967295 number ≡ true = grind (arith, nat_tests) in
    rw (one, two) refl

-- a part of a header is left
pub next_of_truncated : (head : CaptureHead) (number place : ℕ) (bytes : List ℕ) → 0 < length bytes → length bytes < 16 → number < 4294967295
    → next_of head number place bytes ≡ Ends (Refused (Truncated place))
unfolding next_of
next_of_truncated head number place bytes some fewer few =
    let one : (length bytes == 0) ≡ false = grind (arith, nat_tests) in
    let two : nat_le 4294967295 number ≡ false = grind (arith, nat_tests) in
    let three : nat_lt (length bytes) 16 ≡ true = grind (arith, nat_tests) in
    rw (one, two, three) refl

-- fewer bytes than a header hold no record
pub next_of_few : (head : CaptureHead) (number place : ℕ) (bytes : List ℕ) → length bytes < 16 → (ending : Ending CaptureFault) × (next_of head number place bytes ≡ Ends ending)
unfolding next_of
next_of_few head number place bytes fewer =
    let three : nat_lt (length bytes) 16 ≡ true = grind (arith, nat_tests) in
    elim (length bytes == 0) as
    (λ test. (ending : Ending CaptureFault) ×
    ((if test then Ends Clean
    else if nat_le 4294967295 number then Ends (Refused TooMany)
    else if nat_lt (length bytes) 16 then Ends (Refused (Truncated place))
    else next_after head number place (take 16 bytes) (drop 16 bytes)) ≡
    Ends ending)) [
      | true ↦ (Clean, refl)
      | false ↦
          elim (nat_le 4294967295 number) as
          (λ test. (ending : Ending CaptureFault) ×
          ((if test then Ends (Refused TooMany)
          else if nat_lt (length bytes) 16 then Ends (Refused (Truncated place))
          else next_after head number place (take 16 bytes) (drop 16 bytes)) ≡
          Ends ending)) [
            | true ↦ (Refused TooMany, refl)
            | false ↦ (Refused (Truncated place), rw three refl)
          ]
    ]
