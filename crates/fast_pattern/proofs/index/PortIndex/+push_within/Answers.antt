-- A port lies in the block itself and in blocks of the half that has it, so the entries at the one number and those of that
-- half are all (`within-part`).
use Rattle.std.proofs.Common.{◌≡◌, ℕ, ◌+◌, ◌-◌, ◌*◌, ◌^◌, ◌<◌, ◌≤◌, ◌==◌, suc, sym, ap, subst, ◌∙◌, arith, ⊎_elim}
use Rattle.std.proofs.lemmas.Bool.{cases_lt}
use Rattle.fast_pattern.specs.Blocks.{number, lies_in, AddFiled}
use Rattle.fast_pattern.proofs.Ports.Blocking.{doubled, half-low, half-high}
use Rattle.fast_pattern.proofs.Ports.Filing.{within-one, within-part}
use Rattle.fast_pattern.proofs.index.PortIndex.+push_within.Goals as goal

halved : (bits : ℕ) → 0 < bits → 2 ^ bits ≡ 2 * 2 ^ (bits - 1)
halved bits some = let e : bits ≡ suc (bits - 1) = omega arith in ap (λ (b : ℕ). 2 ^ b) e ∙ doubled (bits - 1)

pub returns-then-bits-eq0 : goal.returns-then-bits-eq0
returns-then-bits-eq0 t c =
    let a = c.args in
    let P : ℕ → Type 0 = λ n. AddFiled a.self.now (λ other. other == n) a.places.now.items c.push_block.new.places.items in
    let Q : ℕ → Type 0 = λ b. AddFiled a.self.now (lies_in b a.low a.port) a.places.now.items c.push_block.new.places.items in
    let e : a.bits ≡ 0 = c.if-bits-eq0.true in
    let own = subst P (c.number.ensures ∙ ap (λ (b : ℕ). number b a.low) e) c.in_ok-push_block.ensures in
    subst Q (sym e) (within-one a.self.now a.low a.port a.places.now.items c.push_block.new.places.items own)

pub half_with-half-requires-clause-within : goal.half_with-half-requires-clause-within
half_with-half-requires-clause-within t c = omega (arith, halved c.args.bits (omega arith), c.requires.within)

pub push_within-requires : goal.push_within-requires
push_within-requires t c =
    let a = c.args in
    let whole = halved a.bits (omega arith) in
    let short : c.half_with-half.result + 2 ^ (a.bits - 1) ≤ 65536 =
    ⊎_elim (λ h. omega (arith, c.half_with-half.ensures, half-low (a.bits - 1) a.low a.port h, whole, c.requires.within))
    (λ h. omega (arith, c.half_with-half.ensures, half-high (a.bits - 1) a.low a.port h, whole, c.requires.within))
    (cases_lt a.port (a.low + 2 ^ (a.bits - 1))) in
    (omega arith, (omega arith, short))

pub returns : goal.returns
returns t c =
    let a = c.args in
    let P : ℕ → Type 0 = λ n. AddFiled a.self.now (λ other. other == n) a.places.now.items c.push_block.new.places.items in
    within-part a.self.now a.bits a.low a.port c.half_with-half.result a.places.now.items c.push_block.new.places.items
    c.push_within.new.places.items (omega arith) c.half_with-half.ensures (subst P c.number.ensures c.in_ok-push_block.ensures)
    c.in_ok-push_within.ensures
