-- The bytes of a datagram: as a queue's answers tell them, and that fewer bytes than places leave a gap.
use Rattle.std.proofs.Common.{◌≡◌, ℕ, zero, suc, ◌+◌, ◌-◌, ◌<◌, ◌≤◌, Bool, true, false, cond, ltb, leb, ◌&&◌, ◌||◌, List, [], ◌∷◌}
use Rattle.std.proofs.Common.{Option, Some, None, IsSome, length, max, ◌++◌, min, ◌^◌, refl, sym, ap, ◌∙◌, arith}
use Rattle.std.specs.List.{range_with_len}
use Rattle.std.specs.Option.{is_some, option_map, option_and_then}
use Rattle.std.proofs.lemmas.Bool.Decides.{nat_tests}
use Rattle.std.proofs.lemmas.List.Sums.{sum_by-cons, sum_by_push}
use Rattle.std.specs.Option.{ForSome}
use Rattle.edge_io.specs.declared.policy.Preference.{Preference}
use Rattle.overlap_core.specs.Segments.{Segment}
use Rattle.overlap_core.specs.Overlap.{chosen_byte, covers, end_of, is_covered}
use Rattle.overlap_core.specs.Runs.{AppendsBytes, AreBytes}
use Rattle.overlap_core.proofs.Segments.Arrivals.{chosen_byte-is_some}
use Rattle.frag3_core.specs.Inside.{byte_count}
use Rattle.frag3_core.specs.Parts.{IsRoomFor}
use Rattle.frag3_core.specs.Trackers.{TrackerState, bytes_at, datagram_of}

-- a first byte and the bytes after it
bytes_at-cons : (byte : ℕ → Option ℕ) (place : ℕ) (later : List ℕ) (first : ℕ) (rest : List ℕ)
    → byte place ≡ Some first
    → bytes_at byte later ≡ Some rest
    → bytes_at byte (place ∷ later) ≡ Some (first ∷ rest)
bytes_at-cons byte place later first rest here after = rw (here, after)

-- bytes that are there place by place are the bytes at these places
pub bytes_at-from_AreBytes : (byte : ℕ → Option ℕ) (low : ℕ) (bytes : List ℕ) → AreBytes byte low bytes → bytes_at byte (range_with_len low (length bytes)) ≡ Some bytes
bytes_at-from_AreBytes byte low [] are = refl
bytes_at-from_AreBytes byte low (b ∷ bs) are =
    let at_low : low + 0 ≡ low = omega arith in
    let here : byte low ≡ Some b = ap byte (sym at_low) ∙ are 0 (omega arith) in
    bytes_at-cons byte low (range_with_len (low + 1) (length bs)) b bs here
    (bytes_at-from_AreBytes byte (low + 1) bs (λ k below.
    let moved : (low + 1) + k ≡ low + suc k = omega arith in
    ap byte moved ∙ are (suc k) (omega arith)))

-- bytes that were appended to nothing are the bytes at these places
pub bytes_at-appended : (byte : ℕ → Option ℕ) (count : ℕ) (old new : List ℕ) → old ≡ [] → AppendsBytes byte 0 count old new → bytes_at byte (range_with_len 0 count) ≡ Some new
bytes_at-appended byte count old new none added =
    let same : new ≡ added.0 = added.1 ∙ ap (λ bs. bs ++ added.0) none in
    ap (λ n. bytes_at byte (range_with_len 0 n)) (sym added.2) ∙ bytes_at-from_AreBytes byte 0 added.0 added.3 ∙ ap Some (sym same)

head_some : (found : Option ℕ) (rest : Option (List ℕ)) (bytes : List ℕ) → option_and_then (λ first. option_map (λ later. first ∷ later) rest) found ≡ Some bytes → is_some found ≡ true
head_some None rest bytes is = cc
head_some (Some first) rest bytes is = refl

tail_some : (found : Option ℕ) (rest : Option (List ℕ)) (bytes : List ℕ)
    → option_and_then (λ first. option_map (λ later. first ∷ later) rest) found ≡ Some bytes
    → (later : List ℕ) × (rest ≡ Some later)
tail_some None rest bytes is = cc
tail_some (Some first) None bytes is = cc
tail_some (Some first) (Some later) bytes is = (later, refl)

-- where the bytes are given, each place has one
pub is_some-from_bytes_at : (byte : ℕ → Option ℕ) (low n : ℕ) (bytes : List ℕ) → bytes_at byte (range_with_len low n) ≡ Some bytes → (k : ℕ) → k < n → is_some (byte (low + k)) ≡ true
is_some-from_bytes_at byte low zero bytes is k below = absurd (omega arith)
is_some-from_bytes_at byte low (suc n) bytes is zero below =
    let at_low : low + 0 ≡ low = omega arith in
    ap (λ p. is_some (byte p)) at_low ∙ head_some (byte low) (bytes_at byte (range_with_len (low + 1) n)) bytes is
is_some-from_bytes_at byte low (suc n) bytes is (suc k) below =
    let moved : low + suc k ≡ (low + 1) + k = omega arith in
    let rest = tail_some (byte low) (bytes_at byte (range_with_len (low + 1) n)) bytes is in
    ap (λ p. is_some (byte p)) moved ∙ is_some-from_bytes_at byte (low + 1) n rest.0 rest.1 k (omega arith)

-- a place without a byte leaves none
pub bytes_at-none : (byte : ℕ → Option ℕ) (n : ℕ) → (((k : ℕ) → k < n → IsSome (byte (0 + k))) → ⊥) → bytes_at byte (range_with_len 0 n) ≡ None
bytes_at-none byte n gap = (elim (bytes_at byte (range_with_len 0 n)) as (λ o. bytes_at byte (range_with_len 0 n) ≡ o → o ≡ None) [
  | None ↦ λ is. refl
  | Some bytes ↦ λ is. absurd (gap (is_some-from_bytes_at byte 0 n bytes is))
]) refl

-- how many of n places from `low` on pass a test
count : (ℕ → Bool) → ℕ → ℕ → ℕ
count test low zero = 0
count test low (suc n) = cond (test low) 1 0 + count test (low + 1) n

either : (a b : Bool) → cond (a || b) 1 0 ≤ cond a 1 0 + cond b 1 0
either true b = omega arith
either false b = omega arith

count-or : (p q : ℕ → Bool) (low n : ℕ) → count (λ k. p k || q k) low n ≤ count p low n + count q low n
unfolding count
count-or p q low zero = omega arith
count-or p q low (suc n) = omega (arith, either (p low) (q low), count-or p q (low + 1) n)

one_more : (a b low rest : ℕ) → rest ≤ b - max a (low + 1) → cond (leb a low && ltb low b) 1 0 + rest ≤ b - max a low
one_more a b low rest after = grind (arith, nat_tests)

count-between : (a b low n : ℕ) → count (λ k. leb a k && ltb k b) low n ≤ b - max a low
unfolding count
count-between a b low zero = omega arith
count-between a b low (suc n) = one_more a b low (count (λ k. leb a k && ltb k b) (low + 1) n) (count-between a b (low + 1) n)

count-none : (low n : ℕ) → count (λ k. false) low n ≡ 0
unfolding count
count-none low zero = refl
count-none low (suc n) = omega (arith, count-none (low + 1) n)

-- segments cover no more places than they have bytes
count-covered : (segments : List Segment) (low n : ℕ) → count (is_covered segments) low n ≤ byte_count segments
count-covered [] low n = omega (arith, count-none low n)
count-covered (s ∷ segments) low n =
    let split : count (is_covered (s ∷ segments)) low n ≤ count (covers s) low n + count (is_covered segments) low n = count-or (covers s) (is_covered segments) low n in
    let first : count (covers s) low n ≤ end_of s - max s.start low = count-between s.start (end_of s) low n in
    omega (arith, split, first, count-covered segments low n, sum_by-cons (λ (t : Segment). length t.bytes) s segments)

count-all : (test : ℕ → Bool) (low n : ℕ) → ((k : ℕ) → k < n → test (low + k) ≡ true) → n ≤ count test low n
unfolding count
count-all test low zero each = omega arith
count-all test low (suc n) each =
    let at_low : low + 0 ≡ low = omega arith in
    let here : test low ≡ true = ap test (sym at_low) ∙ each 0 (omega arith) in
    let rest = count-all test (low + 1) n (λ k below.
    let moved : (low + 1) + k ≡ low + suc k = omega arith in ap test moved ∙ each (suc k) (omega arith)) in
    let one : ◌≡◌ {A = ℕ} (cond (test low) 1 0) 1 = ap (λ b. cond b 1 0) here in
    omega (arith, one, rest)

-- fewer bytes than places leave a place without one
pub bytes_at-short : (preference : Preference) (segments : List Segment) (n : ℕ) → byte_count segments < n → bytes_at (chosen_byte preference segments) (range_with_len 0 n) ≡ None
bytes_at-short preference segments n short = bytes_at-none (chosen_byte preference segments) n (λ each.
    let covered = count-all (is_covered segments) 0 n (λ k below. sym (chosen_byte-is_some preference segments (0 + k)) ∙ each k below) in
    omega (arith, covered, count-covered segments 0 n))

-- the count of bytes with one segment more, where the sum may be at its type's end
pub byte_count_push : (segments : List Segment) (new : Segment) (held : ℕ)
    → min (byte_count segments) (2 ^ 64 - 1) ≤ held
    → min (byte_count (segments ++ new ∷ [])) (2 ^ 64 - 1) ≤ min (held + length new.bytes) (2 ^ 64 - 1)
byte_count_push segments new held before = omega (arith, sum_by_push (λ (t : Segment). length t.bytes) segments new)

-- the bytes in a room for them are those of the datagram, and where there is no room it isn't whole
pub datagram_by_room : (t : TrackerState) (held : ℕ) (room : Option ℕ)
    → ForSome t.end (λ e. e ≤ 65535)
    → min (byte_count t.segments) (2 ^ 64 - 1) ≤ held
    → IsRoomFor t.end held room
    → option_and_then (λ n. bytes_at (chosen_byte t.preference t.segments) (range_with_len 0 n)) room ≡ datagram_of t
unfolding datagram_of
datagram_by_room t held (Some n) small counted is = ap (option_and_then (λ n. bytes_at (chosen_byte t.preference t.segments) (range_with_len 0 n))) (sym is)
datagram_by_room t held None small counted is = no_room t.end small is where
  no_room : (end : Option ℕ) → ForSome end (λ e. e ≤ 65535) → IsRoomFor end held None → None ≡ option_and_then (λ n. bytes_at (chosen_byte t.preference t.segments) (range_with_len 0 n)) end
  no_room None small is = refl
  no_room (Some end) small is =
      let within : end ≤ 65535 = small end refl in
      let short : held < end = is in
      sym (bytes_at-short t.preference t.segments end (omega (arith, within, short, counted)))
