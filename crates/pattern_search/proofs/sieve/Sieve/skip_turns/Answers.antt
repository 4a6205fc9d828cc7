-- Four bits whose sum is 0 are 0 each, so a turn is four skips of one window (`skips-more`).
use Rattle.std.proofs.Common.{◌≡◌, ℕ, ◌+◌, ◌-◌, ◌*◌, ap, subst, ◌∙◌, arith}
use Rattle.pattern_search.specs.Sieving.{window_bit, Skips}
use Rattle.pattern_search.proofs.Sieving.{skips-none, skips-more}
use Rattle.pattern_search.proofs.sieve.Sieve.skip_turns.Goals as goal

pub loop-to-init : goal.loop-to-init
loop-to-init c = (omega arith, omega (arith, c.requires.within), skips-none c.args.self.now c.args.bytes.now c.args.from)

pub loop-to-preserved : goal.loop-to-preserved
loop-to-preserved c =
    let sieve = c.args.self.now in
    let bytes = c.args.bytes.now in
    let from = c.args.from in
    let to = c.loop-to.to in
    let s = sieve.stride in
    let some = c.requires.some in
    let bit : ℕ → ℕ = window_bit sieve bytes in
    let p1 : to + s + s - 1 ≡ to + s - 1 + s = omega (arith, some) in
    let p2 : to + s + s + s - 1 ≡ to + s - 1 + 2 * s = omega (arith, some) in
    let p3 : to + s + s + s + s - 1 ≡ to + s - 1 + 3 * s = omega (arith, some) in
    let sum = c.if-one-two-ne0.false in
    let z0 : bit (to + s - 1) ≡ 0 = omega (arith, sum, c.window_bit-one.ensures.is) in
    let z1 : bit (to + s + s - 1) ≡ 0 = ap bit p1 ∙ omega (arith, sum, c.window_bit-two.ensures.is) in
    let z2 : bit (to + s + s + s - 1) ≡ 0 = ap bit p2 ∙ omega (arith, sum, c.window_bit-three.ensures.is) in
    let z3 : bit (to + s + s + s + s - 1) ≡ 0 = ap bit p3 ∙ omega (arith, sum, c.window_bit-four.ensures.is) in
    let more = skips-more sieve bytes from in
    let all = more (to + s + s + s) some z3 (more (to + s + s) some z2 (more (to + s) some z1 (more to some z0 c.loop-to.invariant.2))) in
    let four : to + s + s + s + s ≡ to + 4 * s = omega arith in
    let P : ℕ → Type 0 = λ n. Skips sieve bytes from n in
    (omega (arith, c.loop-to.invariant.0), omega (arith, c.loop-to-test.true), subst P four all)
