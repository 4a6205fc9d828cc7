-- Windows with the same letters have the same slot; slots that are set.
use Rattle.std.proofs.Common.{◌≡◌, ℕ, zero, suc, ◌+◌, ◌-◌, ◌*◌, ◌/◌, ◌%◌, ◌^◌, ◌<◌, ◌≤◌, min, Bool, true, ◌&&◌, ◌==◌, List, []}
use Rattle.std.proofs.Common.{◌∷◌, length, drop, slice_index, slice_set, sym, refl, ap, ◌∙◌, arith, ⊎_elim}
use Rattle.std.specs.Int.{bit_at}
use Rattle.std.specs.Int.{w32}
use Rattle.std.specs.Int.Bits.{bit_and, bit_or, and_zero_r}
use Rattle.std.proofs.lemmas.Nat.{and_le_r}
use Rattle.std.proofs.lemmas.Nat.Bits.{bit_at_and, bit_at_cat_low, bit_at_cat_high, bit_at_set_same, bit_at_set_other, same_from_bits}
use Rattle.std.proofs.lemmas.Bool.{cases_lt, cases_eq, and_parts, eqb-true}
use Rattle.std.proofs.lemmas.List.{get_or-drop, length-set, get_or-set_same, get_or-set_other}
use Rattle.byteorder.specs.Endian.{little_from}
use Rattle.pattern_search.specs.Letters.{lower}
use Rattle.pattern_search.specs.Slots.{slot_bit, KeepsSlots, AddsBit, SetsSlot}
use Rattle.pattern_search.specs.Windows.{window_at, folding_mask, slot_of, HasWindows}

-- the masks as numbers
pub masks : (wide : ℕ) → wide ≤ 8 → slice_index (0 ∷ 223 ∷ 57311 ∷ 14671839 ∷ 3755991007 ∷ 961533698015 ∷ 246152626692063 ∷ 63015072433168351 ∷ 16131858542891098079 ∷ []) wide ≡ folding_mask wide
unfolding folding_mask
masks zero h = refl
masks (suc zero) h = refl
masks (suc (suc zero)) h = refl
masks (suc (suc (suc zero))) h = refl
masks (suc (suc (suc (suc zero)))) h = refl
masks (suc (suc (suc (suc (suc zero))))) h = refl
masks (suc (suc (suc (suc (suc (suc zero)))))) h = refl
masks (suc (suc (suc (suc (suc (suc (suc zero))))))) h = refl
masks (suc (suc (suc (suc (suc (suc (suc (suc zero)))))))) h = refl
masks (suc (suc (suc (suc (suc (suc (suc (suc (suc n))))))))) h = absurd (omega arith)

-- a byte at a time
digits : (a b c d : ℕ) → b < 256 → d < 256 → bit_and (b + 256 * a) (d + 256 * c) ≡ bit_and b d + 256 * bit_and a c
digits a b c d h k = same_from_bits (bit_and (b + 256 * a) (d + 256 * c)) (bit_and b d + 256 * bit_and a c) (λ i.
    let one : b + 256 * a ≡ a * 2 ^ 8 + b = omega arith in
    let two : d + 256 * c ≡ c * 2 ^ 8 + d = omega arith in
    let both : bit_and b d + 256 * bit_and a c ≡ bit_and a c * 2 ^ 8 + bit_and b d = omega arith in
    let left = bit_at_and (b + 256 * a) (d + 256 * c) i in
    ⊎_elim
    (λ low.
    left
    ∙ ap (λ x. min x (bit_at (d + 256 * c) i)) (ap (λ x. bit_at x i) one ∙ bit_at_cat_low a 8 b i low)
    ∙ ap (min (bit_at b i)) (ap (λ x. bit_at x i) two ∙ bit_at_cat_low c 8 d i low)
    ∙ sym (bit_at_and b d i)
    ∙ sym (ap (λ x. bit_at x i) both ∙ bit_at_cat_low (bit_and a c) 8 (bit_and b d) i low))
    (λ high.
    left
    ∙ ap (λ x. min x (bit_at (d + 256 * c) i)) (ap (λ x. bit_at x i) one ∙ bit_at_cat_high a 8 b i (omega arith) high)
    ∙ ap (min (bit_at a (i - 8))) (ap (λ x. bit_at x i) two ∙ bit_at_cat_high c 8 d i (omega arith) high)
    ∙ sym (bit_at_and a c (i - 8))
    ∙ sym (ap (λ x. bit_at x i) both ∙ bit_at_cat_high (bit_and a c) 8 (bit_and b d) i (omega (arith, and_le_r b d)) high))
    (cases_lt i 8))

-- what a mask leaves of two windows
masked : (n wide i j : ℕ) (one other : List ℕ)
    → ((k : ℕ) → slice_index one k < 256)
    → ((k : ℕ) → slice_index other k < 256)
    → ((k : ℕ) → k < wide → bit_and (slice_index one (i + k)) 223 ≡ bit_and (slice_index other (j + k)) 223)
    → bit_and (little_from i n one) (folding_mask wide) ≡ bit_and (little_from j n other) (folding_mask wide)
unfolding folding_mask
masked zero wide i j one other short small same = refl
masked (suc n) zero i j one other short small same = and_zero_r (little_from i (suc n) one) ∙ sym (and_zero_r (little_from j (suc n) other))
masked (suc n) (suc wide) i j one other short small same =
    let a : i + 0 ≡ i = omega arith in
    let b : j + 0 ≡ j = omega arith in
    let first : bit_and (slice_index one i) 223 ≡ bit_and (slice_index other j) 223 =
    ap (λ x. bit_and (slice_index one x) 223) (sym a) ∙ same 0 (omega arith) ∙ ap (λ x. bit_and (slice_index other x) 223) b in
    let rest = masked n wide (suc i) (suc j) one other short small (λ k h.
    let c : suc i + k ≡ i + suc k = omega arith in
    let d : suc j + k ≡ j + suc k = omega arith in
    ap (λ x. bit_and (slice_index one x) 223) c ∙ same (suc k) (omega arith) ∙
    ap (λ x. bit_and (slice_index other x) 223) (sym d)) in
    digits (little_from (suc i) n one) (slice_index one i) (folding_mask wide) 223 (short i) (omega arith)
    ∙ ap (λ x. x + 256 * bit_and (little_from (suc i) n one) (folding_mask wide)) first
    ∙ ap (λ x. bit_and (slice_index other j) 223 + 256 * x) rest
    ∙ sym (digits (little_from (suc j) n other) (slice_index other j) (folding_mask wide) 223 (small j) (omega arith))

-- a byte and its lower case
lowers : ℕ → Bool
lowers zero = true
lowers (suc n) = (bit_and (lower n) 223 == bit_and n 223) && lowers n

lowers-all : lowers 256 ≡ true
unfolding lower lowers
lowers-all = refl

lowers-tell : (n byte : ℕ) → lowers n ≡ true → byte < n → bit_and (lower byte) 223 ≡ bit_and byte 223
unfolding lowers
lowers-tell zero byte all h = absurd (omega arith)
lowers-tell (suc n) byte all h =
    let parts = and_parts (bit_and (lower n) 223 == bit_and n 223) (lowers n) all in
    ⊎_elim
    (λ e. ap (λ x. bit_and (lower x) 223) e ∙ eqb-true (bit_and (lower n) 223) (bit_and n 223) parts.0 ∙ ap (λ x. bit_and x 223) (sym e))
    (λ ne. lowers-tell n byte parts.1 (omega arith))
    (cases_eq byte n)

pub same-lower : (one other : ℕ) → one < 256 → other < 256 → lower one ≡ lower other → bit_and one 223 ≡ bit_and other 223
same-lower one other h k e = sym (lowers-tell 256 one lowers-all h) ∙ ap (λ x. bit_and x 223) e ∙ lowers-tell 256 other lowers-all k

-- windows whose letters are the same, whatever their case, have the same slot
pub same-slot : (wide i j : ℕ) (one other : List ℕ)
    → ((k : ℕ) → slice_index one k < 256)
    → ((k : ℕ) → slice_index other k < 256)
    → ((k : ℕ) → k < wide → bit_and (slice_index one (i + k)) 223 ≡ bit_and (slice_index other (j + k)) 223)
    → slot_of (window_at one i) (folding_mask wide) ≡ slot_of (window_at other j) (folding_mask wide)
unfolding slot_of window_at
same-slot wide i j one other short small same =
    ap (λ x. x * 11400714819323198485 % 2 ^ 64 / 2 ^ 44) (masked 8 wide 0 0 (drop i one) (drop j other)
    (λ k. omega (arith, short (i + k), get_or-drop i one k 0)) (λ k. omega (arith, small (j + k), get_or-drop j other k 0))
    (λ k h. ap (λ x. bit_and x 223) (plus (drop i one) k ∙ get_or-drop i one k 0) ∙ same k h ∙ ap (λ x. bit_and x 223) (sym (plus (drop j other) k ∙ get_or-drop j other k 0))))
  where
    plus : (xs : List ℕ) (k : ℕ) → slice_index xs (0 + k) ≡ slice_index xs k
    plus xs k = let e : 0 + k ≡ k = omega arith in ap (slice_index xs) e

-- slots that are set
pub keeps-none : (table : List ℕ) → KeepsSlots table table
keeps-none table = record { sized = refl; kept = λ slot h. h }

pub adds-bit : (number at new : ℕ) → at < 32 → new ≡ bit_or number (1 * 2 ^ at % 2 ^ 32) → AddsBit number at new
adds-bit number at new h is = record {
  own = ap (λ x. bit_at x at) is ∙ bit_at_set_same w32 number at h;
  kept = λ i some. ⊎_elim
      (λ e. omega (arith, ap (λ x. bit_at x i) is, ap (bit_at (bit_or number (1 * 2 ^ at % 2 ^ 32))) e, bit_at_set_same w32 number at h))
      (λ ne. omega (arith, some, ap (λ x. bit_at x i) is, bit_at_set_other w32 number at h i ne))
      (cases_eq i at);
}

pub sets-slot : (table : List ℕ) (slot word : ℕ) → slot / 32 < length table → AddsBit (slice_index table (slot / 32)) (slot % 32) word → SetsSlot table slot (slice_set table (slot / 32) word)
unfolding slot_bit
sets-slot table slot word h adds =
    let here : slice_index (slice_set table (slot / 32) word) (slot / 32) ≡ word = get_or-set_same table (slot / 32) word 0 h in
    record {
      keeps = record {
        sized = length-set table (slot / 32) word;
        kept = λ other some. ⊎_elim
            (λ e.
            let there : slice_index (slice_set table (slot / 32) word) (other / 32) ≡ word = ap (slice_index (slice_set table (slot / 32) word)) e ∙ here in
            let was = adds.kept (other % 32) (omega (arith, some, ap (λ n. bit_at (slice_index table n) (other % 32)) e)) in
            omega (arith, was, ap (λ x. bit_at x (other % 32)) there))
            (λ ne. omega (arith, some, ap (λ x. bit_at x (other % 32)) (get_or-set_other table (slot / 32) (other / 32) word 0 ne)))
            (cases_eq (other / 32) (slot / 32));
      };
      own = omega (arith, adds.own, ap (λ x. bit_at x (slot % 32)) here);
    }

pub keeps-trans : (one two three : List ℕ) → KeepsSlots one two → KeepsSlots two three → KeepsSlots one three
keeps-trans one two three a b = record { sized = b.sized ∙ a.sized; kept = λ slot h. b.kept slot (a.kept slot h) }

-- the windows of one more pattern
pub windows-kept : (old new : List ℕ) (mask stride : ℕ) (pattern : List ℕ) → KeepsSlots old new → HasWindows old mask stride pattern → HasWindows new mask stride pattern
windows-kept old new mask stride pattern keeps is = record { has = λ offset h k. keeps.kept (slot_of (window_at pattern offset) mask) (is.has offset h k) }
