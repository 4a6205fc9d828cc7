-- A block is added where all its ports are listed, and nothing where none is, a single port being one or the other; else its
-- halves' blocks have the listed ones (`add-parts`).
use Rattle.std.proofs.Common.{◌≡◌, ℕ, ◌+◌, ◌-◌, ◌^◌, List, [], ◌∷◌, ◌++◌, sym, ap, subst, ◌∙◌, arith}
use Rattle.std.proofs.lemmas.Bool.{not-true}
use Rattle.std.proofs.lemmas.Nat.{pow_pos}
use Rattle.fast_pattern.specs.Blocks.{AddBlocks}
use Rattle.fast_pattern.proofs.Ports.Blocking.{add-whole, add-nothing, add-not-one, add-parts}
use Rattle.fast_pattern.proofs.blocks.+push_blocks.Goals as goal
use Rattle.fast_pattern.proofs.blocks.+push_blocks.Goals.{then-not-share-via-then-not-share, then-not-share-via-else-not-share+then-bits-eq0}

pub returns-then-share : goal.returns-then-share
returns-then-share t c =
    let a = c.args in
    let high = a.low + c.size.result - 1 in
    let P : List ℕ → Type 0 = λ new. AddBlocks a.parts.now a.bits a.low a.blocks.now.items new in
    let pushed = c.in_ok-push.ensures.items ∙ ap (λ (n : ℕ). a.blocks.now.items ++ n ∷ []) c.number.ensures in
    subst P (sym pushed) (add-whole a.parts.now a.bits a.low high a.blocks.now.items (omega (arith, c.size.ensures, pow_pos a.bits)) (sym c.share_of-share.ensures.all ∙ c.if-share.true))

pub returns-then-not-share : goal.returns-then-not-share
returns-then-not-share t c =
    let a = c.args in
    let high = a.low + c.size.result - 1 in
    let end : high + 1 ≡ a.low + 2 ^ a.bits = omega (arith, c.size.ensures, pow_pos a.bits) in
    elim c.then-not-share.branch [
      | then-not-share-via-then-not-share w ↦
          add-nothing a.parts.now a.bits a.low high a.blocks.now.items end
          (sym c.share_of-share.ensures.some ∙ not-true c.share_of-share.result.some w.if-not-share.true)
      | then-not-share-via-else-not-share+then-bits-eq0 w ↦
          add-not-one a.parts.now a.bits a.low high a.blocks.now.items w.if-bits-eq0.true end
          (sym c.share_of-share.ensures.all ∙ c.if-share.false)
    ]

pub returns : goal.returns
returns t c =
    let a = c.args in
    let P : ℕ → Type 0 =
    λ size. AddBlocks a.parts.now (a.bits - 1) (a.low + size) c.push_blocks.new.blocks.items c.push_blocks-2.new.blocks.items in
    add-parts a.parts.now a.bits a.low a.blocks.now.items c.push_blocks.new.blocks.items c.push_blocks-2.new.blocks.items
    (omega arith) c.in_ok-push_blocks.ensures (subst P c.size-2.ensures c.in_ok-push_blocks-2.ensures)
