-- How large the numbers of few digits and bytes are.
use Rattle.std.proofs.Common.{◌≡◌, ℕ, ◌+◌, ◌*◌, ◌^◌, ◌<◌, ◌≤◌, arith, List, slice_index, add-one, ap, ◌∙◌}
use Rattle.byteorder.specs.Endian.{big_from, little_from}
use Rattle.byteorder.specs.Numbers.{big_from-lt, little_from-lt}
use Rattle.std.proofs.Math.Nat.{mul-le-mul_left, pow-suc, pow-le-pow_right}

-- one digit more
pub digits_below : (sum radix digit i : ℕ) → radix ≤ 16 → digit ≤ 16 → sum < 17 ^ i → sum * radix + digit < 17 ^ (i + 1)
digits_below sum radix digit i base small below =
    let grown : 17 ^ (i + 1) ≡ 17 ^ i * 17 = ap (λ (k : ℕ). 17 ^ k) (add-one i) ∙ pow-suc 17 i in
    let raised : sum * radix ≤ sum * 16 = mul-le-mul_left sum base in
    omega arith

-- ten digits at most
pub digits_small : (sum i : ℕ) → sum < 17 ^ i → i ≤ 10 → sum < 2 ^ 41
digits_small sum i below short =
    let most : 17 ^ i ≤ 17 ^ 10 = pow-le-pow_right (omega arith) short in
    omega arith

pub ruleset digits = (digits_below, digits_small)

-- one digit more still fits
pub digits_fit : (sum radix i : ℕ) → sum < 17 ^ i → i ≤ 10 → radix ≤ 16 → sum * radix ≤ 2 ^ 45
digits_fit sum radix i below short base =
    let small = digits_small sum i below short in
    let raised : sum * radix ≤ sum * 16 = mul-le-mul_left sum base in
    omega arith

-- four bytes at most, in either order
pub little_small : (bytes : List ℕ) (n number : ℕ) → n ≤ 4 → ((k : ℕ) → slice_index bytes k < 256) → number ≡ little_from 0 n bytes → number < 2 ^ 41
little_small bytes n number short are is =
    let below = little_from-lt 0 n bytes are in
    let most : 256 ^ n ≤ 256 ^ 4 = pow-le-pow_right (omega arith) short in
    omega arith

pub big_small : (bytes : List ℕ) (n number : ℕ) → n ≤ 4 → ((k : ℕ) → slice_index bytes k < 256) → number ≡ big_from 0 n bytes → number < 2 ^ 41
big_small bytes n number short are is =
    let below = big_from-lt 0 n bytes are in
    let most : 256 ^ n ≤ 256 ^ 4 = pow-le-pow_right (omega arith) short in
    omega arith
