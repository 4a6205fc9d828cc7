-- Where a pattern occurs in a text, its windows occur there too, so a place that doesn't pass begins none.
use Rattle.std.proofs.Common.{◌≡◌, ℕ, ◌+◌, ◌-◌, ◌<◌, ◌≤◌, min, true, List, [], ◌++◌, length, take, map, reverse, get_or, slice_index, sym, ap, ◌∙◌, arith, ⊎_elim}
use Rattle.std.specs.Int.Bits.{bit_and}
use Rattle.std.proofs.lemmas.Bool.{cases_lt, eqb-true, eq-eqb}
use Rattle.std.proofs.lemmas.List.{reverse-append, reverse-reverse, length-map, length-take-le, get_or-take, get_or-map, get_or-append-add, length-append, get_or_past}
use Rattle.pattern_search.specs.declared.sieve.Sieve.{Sieve}
use Rattle.pattern_search.specs.Letters.{lower, AllTold}
use Rattle.pattern_search.specs.Words.{begins, word_of, word_at}
use Rattle.pattern_search.specs.Slots.{slot_bit}
use Rattle.pattern_search.specs.Windows.{window_at, folding_mask, slot_of, HaveWindows}
use Rattle.pattern_search.specs.Sieving.{window_bit, Sifts, Skips}
use Rattle.pattern_search.proofs.Finding.Occurring.{begins-split}
use Rattle.pattern_search.proofs.Windowing.{same-lower, same-slot}

-- where a pattern ends, its letters are there
letters-hold : (letters pattern bytes : List ℕ) (end k : ℕ)
    → end ≤ length bytes
    → begins (word_of letters pattern) (word_of letters (take end bytes)) ≡ true
    → k < length pattern
    → slice_index letters (slice_index pattern k) ≡ slice_index letters (slice_index bytes (end - length pattern + k))
unfolding word_of
letters-hold letters pattern bytes end k h b low =
    let f : ℕ → ℕ = slice_index letters in
    let read = map f (take end bytes) in
    let split = begins-split (reverse (map f pattern)) (reverse read) b in
    let all : read ≡ reverse split.0 ++ map f pattern =
    sym (reverse-reverse read)
    ∙ ap reverse split.1
    ∙ reverse-append (reverse (map f pattern)) split.0
    ∙ ap (λ t. reverse split.0 ++ t) (reverse-reverse (map f pattern)) in
    let long : length read ≡ end = length-map (take end bytes) f ∙ length-take-le end bytes h in
    let sizes : length read ≡ length (reverse split.0) + length (map f pattern) =
    ap length all ∙ length-append (reverse split.0) (map f pattern) in
    let own : length (map f pattern) ≡ length pattern = length-map pattern f in
    let place : length (reverse split.0) + k ≡ end - length pattern + k = omega (arith, long, sizes, own) in
    let within : end - length pattern + k < end = omega (arith, long, sizes, own) in
    let left : get_or read (length (reverse split.0) + k) 0 ≡ f (slice_index pattern k) =
    ap (λ xs. get_or xs (length (reverse split.0) + k) 0) all
    ∙ get_or-append-add (reverse split.0) (map f pattern) k 0
    ∙ get_or-map f pattern k 0 0 low in
    let right : get_or read (end - length pattern + k) 0 ≡ f (slice_index bytes (end - length pattern + k)) =
    get_or-map f (take end bytes) (end - length pattern + k) 0 0 (omega (arith, within, length-take-le end bytes h))
    ∙ ap f (get_or-take end bytes (end - length pattern + k) 0 within) in
    sym left ∙ ap (λ n. get_or read n 0) place ∙ right

-- a byte of a pattern and a byte that has its letter
letter-same : (letters : List ℕ) (patterns : List (List ℕ)) → AllTold letters patterns → (place k : ℕ) → place < length patterns
    → k < length (word_at patterns place) → (byte : ℕ) → byte < 256
    → slice_index letters (slice_index (word_at patterns place) k) ≡ slice_index letters byte
    → bit_and (slice_index (word_at patterns place) k) 223 ≡ bit_and byte 223
letter-same letters patterns told place k h j byte small e =
    let own = slice_index (word_at patterns place) k in
    let is = (told.each place [] h).each k 0 j in
    let tells = is.apart byte small in
    same-lower own byte is.short small (eqb-true (lower own) (lower byte) (sym tells ∙ eq-eqb (slice_index letters own) (slice_index letters byte) e))

letter-short : (letters : List ℕ) (patterns : List (List ℕ)) → AllTold letters patterns → (place k : ℕ) → slice_index (word_at patterns place) k < 256
letter-short letters patterns told place k = ⊎_elim
    (λ h. ⊎_elim
    (λ j. ((told.each place [] h).each k 0 j).short)
    (λ past. omega (arith, get_or_past (word_at patterns place) k 0 past))
    (cases_lt k (length (word_at patterns place))))
    (λ past. omega (arith, ap (λ xs. slice_index xs k) (get_or_past patterns place [] past)))
    (cases_lt place (length patterns))

pub skips-none : (sieve : Sieve) (bytes : List ℕ) (from : ℕ) → Skips sieve bytes from from
skips-none sieve bytes from = record { none = λ letters patterns apart sifts short place end h holds low. low }

-- a window whose slot isn't set
pub skips-more : (sieve : Sieve) (bytes : List ℕ) (from to : ℕ) → 0 < sieve.stride → window_bit sieve bytes (to + sieve.stride - 1) ≡ 0
    → Skips sieve bytes from to → Skips sieve bytes from (to + sieve.stride)
unfolding window_bit
skips-more sieve bytes from to step empty were = record {
  none = λ letters patterns apart sifts short place end h holds low.
      let stride = sieve.stride in
      let mask = sieve.mask in
      let pattern = word_at patterns place in
      ⊎_elim
      (λ before. were.none letters patterns apart sifts short place end h holds before)
      (λ after.
      let start = end - length pattern in
      let at = to + stride - 1 in
      let offset = to + stride - 1 - (end - length pattern) in
      let whole = sifts.whole place h holds.some in
      let has = (sifts.windows.each place h).has offset (omega (arith, after, step)) (omega (arith, after, step, whole, sifts.some)) in
      let small = letter-short letters patterns apart place in
      let same : slot_of (window_at pattern offset) mask ≡ slot_of (window_at bytes at) mask =
      ap (slot_of (window_at pattern offset)) sifts.masked
      ∙ same-slot sifts.letters offset at pattern bytes small short (λ m j.
      let q : start + (offset + m) ≡ at + m = omega (arith, after, low) in
      let inside : offset + m < length pattern = omega (arith, whole, after, step) in
      let hold = letters-hold letters pattern bytes end (offset + m) holds.within holds.is inside in
      letter-same letters patterns apart place (offset + m) h inside (slice_index bytes (at + m)) (short (at + m)) (hold ∙ ap (λ n. slice_index letters (slice_index bytes n)) q))
      ∙ sym (ap (slot_of (window_at bytes at)) sifts.masked) in
      absurd (omega (arith, has, ap (slot_bit sieve.table.items) same, empty)))
      (cases_lt end (to + length pattern));
}

pub skips-trans : (sieve : Sieve) (bytes : List ℕ) (from near to : ℕ) → Skips sieve bytes from near → Skips sieve bytes near to → Skips sieve bytes from to
skips-trans sieve bytes from near to one two = record {
  none = λ letters patterns apart sifts short place end h holds low. one.none letters patterns apart sifts short place end h holds
      (two.none letters patterns apart sifts short place end h holds low);
}

-- a rest that is too short for a pattern
pub skips-end : (sieve : Sieve) (bytes : List ℕ) (from to : ℕ) → to ≤ length bytes → length bytes < to + sieve.shortest
    → Skips sieve bytes from to → Skips sieve bytes from (length bytes)
skips-end sieve bytes from to within few were = record {
  none = λ letters patterns apart sifts short place end h holds low. were.none letters patterns apart sifts short place end h holds
      (omega (arith, sifts.long place h holds.some, holds.within));
}

pub sifts-made : (sieve : Sieve) (letters : ℕ) (patterns : List (List ℕ)) → 0 < sieve.shortest → sieve.stride ≤ sieve.shortest
    → letters ≡ min (sieve.shortest - sieve.stride + 1) 8 → sieve.mask ≡ folding_mask letters
    → ((place : ℕ) → place < length patterns → 0 < length (word_at patterns place) → sieve.shortest ≤ length (word_at patterns place))
    → HaveWindows sieve.table.items sieve.mask sieve.stride patterns → Sifts sieve patterns
sifts-made sieve letters patterns some few letters_is mask_is short has = record {
  letters = letters;
  some = omega (arith, letters_is, few);
  masked = mask_is;
  whole = λ place h k. omega (arith, letters_is, few, short place h k);
  long = short;
  windows = has;
}
