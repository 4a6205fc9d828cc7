-- A rule that isn't in the side's index is sought at no port (`holds-not`); another is sought at the ports of the
-- list that tells (`holds-so`).
use Rattle.std.proofs.Common.{ℕ, List, [], length, refl, sym, subst, ◌∙◌}
use Rattle.std.proofs.lemmas.Option.{slice_get_read}
use Rattle.net_lists.specs.declared.part.ValueBounds.{ValueBounds}
use Rattle.net_lists.specs.declared.part.Part.{Part}
use Rattle.fast_pattern.specs.Blocks.{AddBlocks}
use Rattle.fast_pattern.specs.Sides.{AreSoughtAt}
use Rattle.fast_pattern.proofs.Ports.Siding.{holds-not, holds-so}
use Rattle.fast_pattern.proofs.sides.blocks_at.Goals as goal

pub returns-then-not-belongs_at : goal.returns-then-not-belongs_at
returns-then-not-belongs_at c =
    let a = c.args in
    let P : List ℕ → Type 0 = λ blocks. AreSoughtAt a.rules.now a.patterns.now a.kind a.side a.place blocks in
    subst P (sym c.new-blocks.ensures.items) (holds-not a.rules.now a.patterns.now a.kind a.side a.place (sym c.belongs_at.ensures ∙ c.if-not-belongs_at.true))

pub returns : goal.returns
returns c =
    let a = c.args in
    let rule = c.index-rules-place.result in
    let blocks = c.push_blocks.new.blocks.items in
    let is = slice_get_read a.rules.now (length a.rules.now) a.place rule refl c.requires.within c.index-rules-place.is in
    let P : List ℕ → Type 0 = λ old. AddBlocks c.key_of.result.now 16 0 old blocks in
    let Q : List (Part (ValueBounds ℕ)) → Type 0 = λ parts. AddBlocks parts 16 0 [] blocks in
    holds-so a.rules.now a.patterns.now a.kind a.side a.place rule blocks is (sym c.belongs_at.ensures ∙ c.if-not-belongs_at.false)
    (subst Q c.key_of.ensures (subst P c.new-blocks.ensures.items c.in_ok-push_blocks.ensures))
