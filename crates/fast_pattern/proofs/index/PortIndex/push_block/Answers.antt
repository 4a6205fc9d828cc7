-- From the block's head each entry leads to the one before it of the same block, so where the chain ends all of them were
-- added (`followed-all`).
use Rattle.std.proofs.Common.{◌≡◌, ℕ, ◌-◌, List, [], ◌∷◌, ◌++◌, min, slice_index, ap, subst, ◌∙◌, arith}
use Rattle.fast_pattern.specs.declared.index.IndexEntry.{IndexEntry}
use Rattle.fast_pattern.specs.Blocks.{entry_at, IsFollowed}
use Rattle.fast_pattern.proofs.Ports.Filing.{followed-none, followed-more, followed-all}
use Rattle.fast_pattern.proofs.index.PortIndex.push_block.Goals as goal

pub loop-at-init : goal.loop-at-init
loop-at-init c =
    followed-none c.args.self.now c.args.block c.requires.some c.requires.short c.args.places.now.items c.read-at.result
    (c.read-at.ensures ∙ ap (λ (xs : List ℕ). slice_index xs c.args.block) c.deref.ensures.value)

pub loop-at-preserved : goal.loop-at-preserved
loop-at-preserved c =
    let at = c.loop-at.at in
    let place = c.place_at.ensures ∙ ap (λ (es : List IndexEntry). (entry_at es (at - 1)).place) c.deref-in-loop-at.ensures.value in
    let next : c.min-at.result ≡ min (slice_index c.args.self.now.nexts.items (at - 1)) (at - 1) = omega (
      arith,
      c.min-at.ensures,
      c.read.ensures,
      ap (λ (xs : List ℕ). slice_index xs (at - 1)) c.deref-in-loop-at-2.ensures.value,
    ) in
    followed-more c.args.self.now c.args.block c.requires.some c.requires.short c.args.places.now.items at c.min-at.result
    c.loop-at.places.items c.push.new.self.items (omega arith) c.loop-at.invariant
    (c.in_ok-push.ensures.items ∙ ap (λ (n : ℕ). c.loop-at.places.items ++ n ∷ []) place) next

pub returns : goal.returns
returns c =
    let P : ℕ → Type 0 = λ at. IsFollowed c.args.self.now c.args.block c.args.places.now.items at c.loop-at.places.items in
    followed-all c.args.self.now c.args.block c.requires.some c.requires.short c.args.places.now.items c.loop-at.places.items (subst P c.loop-at-test.false c.loop-at.invariant)
