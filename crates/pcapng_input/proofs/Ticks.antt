-- A second has a tick at least, and a tick of less than 2 ^ -128 seconds no nanosecond.
use Rattle.std.proofs.Common.{◌≡◌, ℕ, zero, suc, ◌*◌, ◌/◌, ◌<◌, ◌^◌, arith}
use Rattle.std.proofs.Math.Nat.{div-eq_of_lt, pow-suc, pow-zero}
use Rattle.std.proofs.lemmas.Nat.{pow_pos}
use Rattle.pcapng_input.specs.declared.resolution.Resolution.{Resolution}
use Rattle.pcapng_input.specs.declared.resolution.Resolution.TheVariants.{TenToMinus, TwoToMinus}
use Rattle.pcapng_input.specs.Moments.{ticks_a_second}

ten_pow : (n : ℕ) → 0 < 10 ^ n
ten_pow zero = omega (arith, pow-zero 10)
ten_pow (suc n) = omega (arith, pow-suc 10 n, ten_pow n)

pub ticks_positive : (resolution : Resolution) → 0 < ticks_a_second resolution
ticks_positive (TenToMinus digits) = ten_pow digits
ticks_positive (TwoToMinus bits) = pow_pos bits

pub ticks_many : (resolution : Resolution) (ticks : ℕ) → (ticks_a_second resolution < 2 ^ 128 → ⊥) → ticks < 2 ^ 64
    → ticks * 1000000000 / ticks_a_second resolution ≡ 0
ticks_many resolution ticks many few = div-eq_of_lt (omega arith)

pub ruleset ticks = (ticks_positive, ticks_many)
