-- The flag for more fragments, as a mask and as a remainder.
use Rattle.std.proofs.Common.{◌≡◌, ℕ, ◌%◌, bit_and, not, nat_eq, arith}
use Rattle.std.proofs.lemmas.Nat.{and_mask}
use Rattle.std.proofs.lemmas.Bool.Decides.{nat_tests}

pub more : (word : ℕ) → not (nat_eq (bit_and word 1) 0) ≡ nat_eq (word % 2) 1
more word = let masked : bit_and word 1 ≡ word % 2 = and_mask word 1 in grind (arith, nat_tests)

pub ruleset flag = (more)
