-- What the test of two numbers answers.
use Rattle.std.proofs.Common.{◌≡◌, ℕ, ◌<◌, eqb, false, arith}
use Rattle.std.proofs.lemmas.Bool.Decides.{nat_tests}

-- it doesn't matter which number comes first
pub eqb_flips : (m n : ℕ) → eqb m n ≡ eqb n m
eqb_flips m n = grind (arith, nat_tests)

-- a number and a greater one differ
pub apart_above : (lower higher : ℕ) → lower < higher → eqb lower higher ≡ false
apart_above lower higher below = grind (arith, nat_tests)

pub apart_below : (higher lower : ℕ) → lower < higher → eqb higher lower ≡ false
apart_below higher lower below = grind (arith, nat_tests)
