-- The last address of a prefix is an address.
use Rattle.std.proofs.Common.{◌≡◌, ℕ, ◌+◌, ◌-◌, ◌*◌, ◌/◌, ◌%◌, ◌^◌, ◌<◌, ◌≤◌, sym, ap, ◌∙◌, arith, ⊎_elim}
use Rattle.std.proofs.Math.Nat.{mul-le-mul_left, mul_comm}
use Rattle.std.proofs.lemmas.Bool.{cases_lt}
use Rattle.std.proofs.lemmas.Nat.{pow_pos, pow-add, shr_split}
use Rattle.net_lists.specs.Addresses.{cleared}

row_below : (a size rows : ℕ) → a < size * rows → a / size * size + a % size ≡ a → a / size < rows
row_below a size rows below split = ⊎_elim (λ h. h) (λ h. absurd (omega (arith, mul-le-mul_left size h, mul_comm size (a / size)))) (cases_lt (a / size) rows)

end_below : (row size rows : ℕ) → row < rows → 0 < size → row * size + (size - 1) < size * rows
end_below row size rows below some = let h : row + 1 ≤ rows = omega arith in omega (arith, mul-le-mul_left size h, mul_comm size row)

-- the prefix with k of `bits` bits after it
pub last_fits : (bits address k : ℕ) → address < 2 ^ bits → k ≤ bits → cleared address k + (2 ^ k - 1) < 2 ^ bits
last_fits bits address k fits h =
    let size = 2 ^ k in
    let rows = 2 ^ (bits - k) in
    let all : k + (bits - k) ≡ bits = omega arith in
    let whole : size * rows ≡ 2 ^ bits = sym (pow-add 2 k (bits - k)) ∙ ap (λ n. 2 ^ n) all in
    let split : address / size * size + address % size ≡ address = shr_split address k in
    let some : 0 < size = pow_pos k in
    omega (arith, end_below (address / size) size rows (row_below address size rows (omega (arith, whole)) split) some, whole, split)
