-- A walk over extension headers, step by step.
use Rattle.std.proofs.Common.{◌≡◌, ◌≢◌, ℕ, zero, suc, ◌-◌, List, true, false, Ok, Err, refl, ap, ◌∙◌, arith}
use Rattle.packet_decode.specs.declared.skip.Skip.{Skip}
use Rattle.packet_decode.specs.declared.skip.Skip.TheVariants.{Malformed}
use Rattle.ipv6_decode.specs.declared.walk.HeaderWalk.{HeaderWalk}
use Rattle.ipv6_decode.specs.Headers.{is_at_header, after_header, walk_end}

-- where there is no header, the walk ends
pub ended : (left : ℕ) (walk : HeaderWalk) (bytes : List ℕ) → is_at_header walk ≡ false → walk_end left walk bytes ≡ Ok walk
unfolding walk_end
ended zero walk bytes none = rw none refl
ended (suc left) walk bytes none = rw none refl

-- where there is a header that is one too many
pub too_many : (walk : HeaderWalk) (bytes : List ℕ) → is_at_header walk ≡ true → walk_end 0 walk bytes ≡ Err Malformed
unfolding walk_end
too_many walk bytes there = rw there refl

-- where there is a header, the walk goes on after it
pub over : (left : ℕ) (walk next : HeaderWalk) (bytes : List ℕ) → is_at_header walk ≡ true → after_header walk bytes ≡ Ok next → walk_end (suc left) walk bytes ≡ walk_end left next bytes
unfolding walk_end
over left walk next bytes there step = rw (there, step) refl

pub went_on : (left : ℕ) (walk next : HeaderWalk) (bytes : List ℕ) → is_at_header walk ≡ true → left ≢ 0 → after_header walk bytes ≡ Ok next → walk_end left walk bytes ≡ walk_end (left - 1) next bytes
went_on zero walk next bytes there some step = absurd (some refl)
went_on (suc left) walk next bytes there some step =
    over left walk next bytes there step ∙ ap (λ (n : ℕ). walk_end n next bytes) (omega arith)

-- where a header doesn't fit, the walk fails
pub failed : (left : ℕ) (walk : HeaderWalk) (skip : Skip) (bytes : List ℕ) → is_at_header walk ≡ true → left ≢ 0 → after_header walk bytes ≡ Err skip → walk_end left walk bytes ≡ Err skip
unfolding walk_end
failed zero walk skip bytes there some step = absurd (some refl)
failed (suc left) walk skip bytes there some step = rw (there, step) refl

pub ruleset walks = (ended, too_many, went_on, failed)
