-- A number that is held at a cap past its bound is refused as the number itself is.
use Rattle.std.proofs.Common.{◌≡◌, ℕ, ◌+◌, ◌<◌, ◌≤◌, Bool, true, false, ◌&&◌, cond, leb, min, List, Option, Some, None, sym, ap, ◌∙◌, arith}
use Rattle.std.proofs.lemmas.Bool.Decides.{nat_tests}
use Rattle.net_lists.specs.Numbers.{decimal_value, are_digits, digits_upto}

decided : ℕ → ℕ → Bool → Option ℕ
decided most value digits = cond (digits && leb value most) (Some value) None

past : (value most capped : ℕ) → capped ≡ min value (most + 1) → most < capped → None ≡ cond (leb value most) (Some value) None
past value most capped e h = grind (arith, nat_tests)

within : (value most capped : ℕ) → capped ≡ min value (most + 1) → capped ≤ most → Some capped ≡ cond (leb value most) (Some value) None
within value most capped e h = grind (arith, nat_tests)

-- a number past its bound gives none
pub digits_upto-past : (most capped : ℕ) (text : List ℕ) → are_digits text ≡ true → capped ≡ min (decimal_value text) (most + 1) → most < capped → None ≡ digits_upto most text
unfolding digits_upto decided
digits_upto-past most capped text digits e h = past (decimal_value text) most capped e h ∙ ap (decided most (decimal_value text)) (sym digits)

-- a number within its bound gives itself
pub digits_upto-within : (most capped : ℕ) (text : List ℕ) → are_digits text ≡ true → capped ≡ min (decimal_value text) (most + 1) → capped ≤ most → Some capped ≡ digits_upto most text
unfolding digits_upto decided
digits_upto-within most capped text digits e h = within (decimal_value text) most capped e h ∙ ap (decided most (decimal_value text)) (sym digits)

-- what is not digits gives none
pub digits_upto-none : (most : ℕ) (text : List ℕ) → are_digits text ≡ false → None ≡ digits_upto most text
unfolding digits_upto decided
digits_upto-none most text e = ap (decided most (decimal_value text)) (sym e)

pub ruleset capped = (digits_upto-past, digits_upto-within, digits_upto-none)
