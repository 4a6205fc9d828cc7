-- The flags and the offset of the fragmentation word, as masks and as quotients.
use Rattle.std.proofs.Common.{◌≡◌, ℕ, ◌*◌, ◌/◌, ◌%◌, bit_and, not, nat_eq, arith}
use Rattle.std.proofs.lemmas.Nat.{and_mask}
use Rattle.std.proofs.lemmas.Nat.Bits.{and_high}
use Rattle.std.proofs.lemmas.Bool.Decides.{nat_tests}

pub reserved : (word : ℕ) → not (nat_eq (bit_and word 0x8000) 0) ≡ nat_eq (word / 0x8000 % 2) 1
reserved word = let masked : bit_and word 0x8000 ≡ (word / 0x8000 % 2) * 0x8000 = and_high word 1 15 in grind (arith, nat_tests)

pub dont : (word : ℕ) → not (nat_eq (bit_and word 0x4000) 0) ≡ nat_eq (word / 0x4000 % 2) 1
dont word = let masked : bit_and word 0x4000 ≡ (word / 0x4000 % 2) * 0x4000 = and_high word 1 14 in grind (arith, nat_tests)

pub more : (word : ℕ) → not (nat_eq (bit_and word 0x2000) 0) ≡ nat_eq (word / 0x2000 % 2) 1
more word = let masked : bit_and word 0x2000 ≡ (word / 0x2000 % 2) * 0x2000 = and_high word 1 13 in grind (arith, nat_tests)

pub offset : (word : ℕ) → bit_and word 0x1fff ≡ word % 0x2000
offset word = and_mask word 13

pub ruleset flags = (reserved, dont, more, offset)
