-- What the set that some words hold has, and what a change of one bit makes of it.
use Rattle.std.proofs.Common.{◌≡◌, ◌≢◌, ℕ, zero, suc, ◌+◌, ◌-◌, ◌*◌, ◌/◌, ◌%◌, ◌^◌, ◌<◌, ◌≤◌, Bool, true, false, List, length, refl, ap, sym, ◌∙◌, arith, min, max, bit_and, bit_or}
use Rattle.std.specs.Prelude.{◌==◌, ◌&&◌, ◌||◌, nat_lt, not, slice_index, slice_set, bit_xor, if◌then◌else◌}
use Rattle.std.specs.Int.{bit_at}
use Rattle.std.specs.Int.{w64}
use Rattle.std.proofs.lemmas.Bool.Decides.{nat_tests, eqb_tells}
use Rattle.std.proofs.lemmas.Nat.Bits.{bit_at-lt, bit_at-zero, bit_at_or, bit_at_xor, bit_at_set_same, bit_at_set_other, bit_at_clear_same, bit_at_clear_other, shr_and_one}
use Rattle.std.specs.List.{list_all}
use Rattle.std.proofs.Common.{[], ◌∷◌}
use Rattle.std.proofs.Common.{inl, inr, get_or-set_same, get_or-set_other}
use Rattle.std.specs.Cmp.{nat_cmp_total, unsigned_tied}
use Rattle.std.specs.Ordering.{nat_cmp, eq_by_cmp}
use Rattle.std.specs.FinSet.{FinSet, empty, insert, remove, contains, contains-empty, contains-insert, contains-remove, same_set, nat_cmp-IsAntisymmetric}
use Rattle.rule_types.specs.declared.option.BitChange.{BitChange}
use Rattle.rule_types.specs.declared.option.BitChange.TheVariants.{Set, Unset, Toggle}
use Rattle.flowbit_state.specs.Changes.{changed, bit_after}
use Rattle.flowbit_state.specs.Words.{is_bit, is_set, set_below, set_in}

-- one number more or less in a set
has-insert : (bits : FinSet nat_cmp) (bit other : ℕ) → contains (insert bits bit) other ≡ (other == bit || contains bits other)
has-insert bits bit other = contains-insert nat_cmp_total bits bit other ∙ ap (λ b. b || contains bits other) (unsigned_tied other bit)

has-remove : (bits : FinSet nat_cmp) (bit other : ℕ) → contains (remove bits bit) other ≡ (not (other == bit) && contains bits other)
has-remove bits bit other = contains-remove nat_cmp_total bits bit other ∙ ap (λ b. not b && contains bits other) (unsigned_tied other bit)

-- which of the numbers below a count pass a test, with one number more
below_none : (bit : ℕ) (b : Bool) → false ≡ (nat_lt bit 0 && b)
below_none bit b = grind (arith, nat_tests)

one_more : (test : ℕ → Bool) (count bit : ℕ) → test count ≡ true → (bit == count || (nat_lt bit count && test bit)) ≡ (nat_lt bit (suc count) && test bit)
one_more test count bit is = grind (arith, nat_tests)

one_less : (test : ℕ → Bool) (count bit : ℕ) → test count ≡ false → (nat_lt bit count && test bit) ≡ (nat_lt bit (suc count) && test bit)
one_less test count bit is = grind (arith, nat_tests)

-- the sets of words
with_next : (words : List ℕ) (count bit : ℕ) (is : Bool) → is_set words count ≡ is
    → contains (set_below words count) bit ≡ (nat_lt bit count && is_set words bit)
    → contains (if is then insert (set_below words count) count else set_below words count) bit ≡ (nat_lt bit (suc count) && is_set words bit)
with_next words count bit true is before = has-insert (set_below words count) count bit ∙ ap (λ b. bit == count || b) before ∙ one_more (is_set words) count bit is
with_next words count bit false is before = before ∙ one_less (is_set words) count bit is

pub contains-set_below : (words : List ℕ) (count bit : ℕ) → contains (set_below words count) bit ≡ (nat_lt bit count && is_set words bit)
unfolding set_below
contains-set_below words zero bit = contains-empty nat_cmp bit ∙ below_none bit (is_set words bit)
contains-set_below words (suc count) bit = with_next words count bit (is_set words count) refl (contains-set_below words count bit)

pub contains-set_in : (words : List ℕ) (bit : ℕ) → contains (set_in words) bit ≡ (nat_lt bit 1024 && is_set words bit)
unfolding set_in
contains-set_in words bit = contains-set_below words 1024 bit

-- what a changed set has
inserted : (was other_was : Bool) (other bit : ℕ) → (other == bit || other_was) ≡ (if other == bit then true else other_was)
inserted was other_was other bit = grind (arith, nat_tests)

removed : (other_was : Bool) (other bit : ℕ) → (not (other == bit) && other_was) ≡ (if other == bit then false else other_was)
removed other_was other bit = grind (arith, nat_tests)

toggled : (was : Bool) (bits : FinSet nat_cmp) (bit other : ℕ)
    → contains (if was then remove bits bit else insert bits bit) other ≡ (if other == bit then not was else contains bits other)
toggled true bits bit other = has-remove bits bit other ∙ removed (contains bits other) other bit
toggled false bits bit other = has-insert bits bit other ∙ inserted true (contains bits other) other bit

pub contains-changed : (change : BitChange) (bit : ℕ) (bits : FinSet nat_cmp) (other : ℕ)
    → contains (changed change bit bits) other ≡ (if other == bit then bit_after change (contains bits bit) else contains bits other)
contains-changed Set bit bits other = has-insert bits bit other ∙ inserted true (contains bits other) other bit
contains-changed Unset bit bits other = has-remove bits bit other ∙ removed (contains bits other) other bit
contains-changed Toggle bit bits other = toggled (contains bits bit) bits bit other

-- one bit of the changed set, where each of the 1024 bits is as the change makes it
both_below : (other bit : ℕ) (new was other_was : Bool) → bit < 1024
    → (other < 1024 → new ≡ (if other == bit then was else other_was))
    → (nat_lt other 1024 && new) ≡ (if other == bit then was else (nat_lt other 1024 && other_was))
both_below other bit new was other_was low each = grind (arith, nat_tests)

set_bit : (words : List ℕ) (bit : ℕ) → bit < 1024 → is_set words bit ≡ contains (set_in words) bit
set_bit words bit low = sym (contains-set_in words bit ∙ within bit (is_set words bit) low)
  where
    within : (bit : ℕ) (b : Bool) → bit < 1024 → (nat_lt bit 1024 && b) ≡ b
    within bit b low = grind (arith, nat_tests)

pub set_in-changed : (old new : List ℕ) (change : BitChange) (bit : ℕ) → bit < 1024
    → ((other : ℕ) → other < 1024 → is_set new other ≡ (if other == bit then bit_after change (is_set old bit) else is_set old other))
    → set_in new ≡ changed change bit (set_in old)
set_in-changed old new change bit low each = same_set nat_cmp_total nat_cmp-IsAntisymmetric _ _ (λ other.
    contains-set_in new other
    ∙ both_below other bit (is_set new other) _ _ low (each other)
    ∙ ap (λ b. if other == bit then bit_after change b else (nat_lt other 1024 && is_set old other)) (set_bit old bit low)
    ∙ ap (λ b. if other == bit then bit_after change (contains (set_in old) bit) else b) (sym (contains-set_in old other))
    ∙ sym (contains-changed change bit (set_in old) other))

-- a test that is as it was at all other numbers
at_other : (new old : ℕ → Bool) (bit other : ℕ) (value : Bool) → new bit ≡ value → (other ≢ bit → new other ≡ old other)
    → new other ≡ (if other == bit then value else old other)
at_other new old bit other value same others = grind (arith, nat_tests)

-- a number below 1024 by its word and its place in the word
same_number : (other bit : ℕ) → other / 64 ≡ bit / 64 → (other % 64 == bit % 64) ≡ (other == bit)
same_number other bit e = grind (arith, nat_tests)

kept : (other bit : ℕ) (was value : Bool) → other ≢ bit → was ≡ (if other == bit then value else was)
kept other bit was value apart = grind (arith, nat_tests)

-- the words with one of them changed
pub is_set-slice_set : (words : List ℕ) (word : ℕ) (change : BitChange) (bit other : ℕ) → bit / 64 < length words
    → ((place : ℕ) → place < 64 → is_bit word place ≡ (if place == bit % 64 then bit_after change (is_set words bit) else is_bit (slice_index words (bit / 64)) place))
    → is_set (slice_set words (bit / 64) word) other ≡ (if other == bit then bit_after change (is_set words bit) else is_set words other)
is_set-slice_set words word change bit other within each =
    elim (eqb_tells (other / 64) (bit / 64)) [ inl is ↦ here is.1 | inr apart ↦ elsewhere apart.1 ]
  where
    here : other / 64 ≡ bit / 64 → is_set (slice_set words (bit / 64) word) other ≡ (if other == bit then bit_after change (is_set words bit) else is_set words other)
    here e =
        ap (λ at. is_bit (slice_index (slice_set words (bit / 64) word) at) (other % 64)) e
        ∙ ap (λ w. is_bit w (other % 64)) (get_or-set_same words (bit / 64) word 0 within)
        ∙ each (other % 64) (omega arith)
        ∙ ap (λ is. if is then bit_after change (is_set words bit) else is_bit (slice_index words (bit / 64)) (other % 64)) (same_number other bit e)
        ∙ ap (λ at. if other == bit then bit_after change (is_set words bit) else is_bit (slice_index words at) (other % 64)) (sym e)

    elsewhere : other / 64 ≢ bit / 64 → is_set (slice_set words (bit / 64) word) other ≡ (if other == bit then bit_after change (is_set words bit) else is_set words other)
    elsewhere apart =
        ap (λ w. is_bit w (other % 64)) (get_or-set_other words (bit / 64) (other / 64) word 0 apart)
        ∙ kept other bit (is_set words other) (bit_after change (is_set words bit)) (λ e. apart (ap (λ n. n / 64) e))

-- the bits of a mask, and of a word under it
abbrev pub mask : ℕ → ℕ
mask bit = 1 * 2 ^ bit % 2 ^ 64

mask_same : (bit : ℕ) → bit < 64 → bit_at (mask bit) bit ≡ 1
mask_same bit low = omega (arith, bit_at_set_same w64 0 bit low, bit_at_or 0 (mask bit) bit, bit_at-zero bit)

mask_other : (bit other : ℕ) → bit < 64 → other ≢ bit → bit_at (mask bit) other ≡ 0
mask_other bit other low apart = omega (arith, bit_at_set_other w64 0 bit low other apart, bit_at_or 0 (mask bit) other, bit_at-zero other)

pub is_bit-or : (word bit other : ℕ) → bit < 64 → is_bit (bit_or word (mask bit)) other ≡ (if other == bit then true else is_bit word other)
is_bit-or word bit other low = at_other (is_bit (bit_or word (mask bit))) (is_bit word) bit other true
    (ap (λ b. b == 1) (bit_at_set_same w64 word bit low)) (λ apart. ap (λ b. b == 1) (bit_at_set_other w64 word bit low other apart))

pub is_bit-and : (word bit other : ℕ) → bit < 64 → other < 64 → is_bit (bit_and word (2 ^ 64 - 1 - mask bit)) other ≡ (if other == bit then false else is_bit word other)
is_bit-and word bit other low within = at_other (is_bit (bit_and word (2 ^ 64 - 1 - mask bit))) (is_bit word) bit other false
    (ap (λ b. b == 1) (bit_at_clear_same w64 word bit low)) (λ apart. ap (λ b. b == 1) (bit_at_clear_other w64 word bit low other within apart))

flipped : (was now : ℕ) → was < 2 → now ≡ (was + 1) % 2 → (now == 1) ≡ not (was == 1)
flipped was now small e = grind (arith, nat_tests)

pub is_bit-xor : (word bit other : ℕ) → bit < 64 → is_bit (bit_xor word (mask bit)) other ≡ (if other == bit then not (is_bit word bit) else is_bit word other)
is_bit-xor word bit other low = at_other (is_bit (bit_xor word (mask bit))) (is_bit word) bit other (not (is_bit word bit))
    (flipped (bit_at word bit) _ (bit_at-lt word bit) (bit_at_xor word (mask bit) bit ∙ ap (λ b. (bit_at word bit + b) % 2) (mask_same bit low)))
    (λ apart. ap (λ b. b == 1) (unflipped (bit_at word other) (bit_at-lt word other) (bit_at_xor word (mask bit) other ∙ ap (λ b. (bit_at word other + b) % 2) (mask_other bit other low apart))))
  where
    unflipped : {now : ℕ} (was : ℕ) → was < 2 → now ≡ (was + 0) % 2 → now ≡ was
    unflipped was small e = omega arith

-- words without a bit hold no number
zero_at : (words : List ℕ) (place : ℕ) → list_all (λ word. word == 0) words ≡ true → slice_index words place ≡ 0
zero_at [] place is = grind arith
zero_at (word ∷ words) zero is = grind (arith, nat_tests)
zero_at (word ∷ words) (suc place) is = zero_at words place (rest word words is)
  where
    rest : (word : ℕ) (words : List ℕ) → list_all (λ word. word == 0) (word ∷ words) ≡ true → list_all (λ word. word == 0) words ≡ true
    rest word words is = grind (arith, nat_tests)

pub set_in-zeros : (words : List ℕ) → list_all (λ word. word == 0) words ≡ true → set_in words ≡ empty
set_in-zeros words is = same_set nat_cmp_total nat_cmp-IsAntisymmetric _ _ (λ bit.
    contains-set_in words bit
    ∙ ap (λ word. nat_lt bit 1024 && is_bit word (bit % 64)) (zero_at words (bit / 64) is)
    ∙ none bit (is_bit 0 (bit % 64)) (ap (λ b. b == 1) (bit_at-zero (bit % 64)))
    ∙ sym (contains-empty nat_cmp bit))
  where
    none : (bit : ℕ) (b : Bool) → b ≡ false → (nat_lt bit 1024 && b) ≡ false
    none bit b is = grind (arith, nat_tests)

-- what a test of the words answers
pub test_past : (words : List ℕ) (bits : FinSet nat_cmp) (bit : ℕ) → set_in words ≡ bits → length words ≡ 16 → length words ≤ bit / 64 → false ≡ contains bits bit
test_past words bits bit e all past = past_all bit (is_set words bit) (omega arith) ∙ sym (contains-set_in words bit) ∙ ap (λ s. contains s bit) e
  where
    past_all : (bit : ℕ) (b : Bool) → 1024 ≤ bit → false ≡ (nat_lt bit 1024 && b)
    past_all bit b past = grind (arith, nat_tests)

pub test_at : (words : List ℕ) (bits : FinSet nat_cmp) (bit word : ℕ) → set_in words ≡ bits → length words ≡ 16 → bit / 64 < length words → word ≡ slice_index words (bit / 64)
    → (bit_and (word / 2 ^ (bit % 64)) 1 == 1) ≡ contains bits bit
test_at words bits bit word e all within is =
    ap (λ b. b == 1) (shr_and_one word (bit % 64))
    ∙ ap (λ w. is_bit w (bit % 64)) is
    ∙ set_bit words bit (omega arith)
    ∙ ap (λ s. contains s bit) e
