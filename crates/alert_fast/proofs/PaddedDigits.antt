-- The digits of a number below 100, 1000 or 1,000,000, with zeros in front.
use Rattle.std.proofs.Common.{◌≡◌, ℕ, ◌+◌, ◌/◌, ◌%◌, ◌<◌, [], ◌∷◌, ◌++◌, arith}
use Rattle.alert_fast.specs.Pieces.{digits}

pub digits-2 : (number : ℕ) → number < 100 → digits 2 number ≡ (48 + number / 10) ∷ (48 + number % 10) ∷ []
unfolding digits
digits-2 number small =
    let tens : number / 10 % 10 ≡ number / 10 = omega arith in
    rw tens

pub digits-3 : (number : ℕ) → number < 1000 → digits 3 number ≡ (48 + number / 100) ∷ (48 + number % 100 / 10) ∷ (48 + number % 100 % 10) ∷ []
unfolding digits
digits-3 number small =
    let hundreds : number / 10 / 10 % 10 ≡ number / 100 = omega arith in
    let tens : number / 10 % 10 ≡ number % 100 / 10 = omega arith in
    let ones : number % 10 ≡ number % 100 % 10 = omega arith in
    rw (hundreds, tens, ones)

-- six digits are three and three
pub digits-6 : (number : ℕ) → number < 1_000_000 → digits 6 number ≡ digits 3 (number / 1000) ++ digits 3 (number % 1000)
unfolding digits
digits-6 number small =
    let first : number / 10 / 10 / 10 / 10 / 10 % 10 ≡ number / 1000 / 10 / 10 % 10 = omega arith in
    let second : number / 10 / 10 / 10 / 10 % 10 ≡ number / 1000 / 10 % 10 = omega arith in
    let third : number / 10 / 10 / 10 % 10 ≡ number / 1000 % 10 = omega arith in
    let fourth : number / 10 / 10 % 10 ≡ number % 1000 / 10 / 10 % 10 = omega arith in
    let fifth : number / 10 % 10 ≡ number % 1000 / 10 % 10 = omega arith in
    let sixth : number % 10 ≡ number % 1000 % 10 = omega arith in
    rw (first, second, third, fourth, fifth, sixth)
