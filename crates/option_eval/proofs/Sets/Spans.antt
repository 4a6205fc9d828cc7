-- The ends of a window, over whole numbers.
use Rattle.std.proofs.Common.{◌≡◌, ℕ, ◌+◌, ◌<◌, ◌≤◌, ⊎_elim, ℤ, pos, ◌+ℤ◌, ◌-ℤ◌, ◌≤ℤ◌, ◌<ℤ◌, arith}
use Rattle.std.proofs.lemmas.Bool.{cases_lt}
use Rattle.std.proofs.lemmas.Int.{ints, by_lt_z}

pub past_the_room : (start room past : ℤ) (size i result : ℕ) → past ≡ (((start +ℤ room) -ℤ pos size) +ℤ pos 1) → (past ≤ℤ pos i → result ≤ i) → (result ≤ i → past ≤ℤ pos i)
    → (pos (i + size) ≤ℤ (start +ℤ room) → i < result) × (i < result → pos (i + size) ≤ℤ (start +ℤ room))
past_the_room start room past size i result is down up = (
  λ within. ⊎_elim (λ (under : i < result). under) (λ (over : result ≤ i). let h = up over in absurd (omega (arith, ints))) (cases_lt i result),
  λ under. by_lt_z (start +ℤ room) (pos (i + size))
      (λ (past_it : (start +ℤ room) <ℤ pos (i + size)). let reached : past ≤ℤ pos i = omega (arith, ints) in let h = down reached in absurd (omega arith))
      (λ (within : pos (i + size) ≤ℤ (start +ℤ room)). within),
)
