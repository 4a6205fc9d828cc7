-- A falling list whose numbers differ ascends when reversed (`Ascends-reversed`), and there is only one ascending order of
-- given numbers (`ascending_unique`).
use Rattle.std.proofs.Common.{sym, subst}
use Rattle.std.proofs.lemmas.List.Sorted.{IsPermutation-trans, IsPermutation-map}
use Rattle.ordered_merge.specs.Merging.{Ascends, joined, numbers}
use Rattle.ordered_merge.proofs.Falling.{Ascends-reversed, IsDistinct-moved}
use Rattle.ordered_merge.proofs.Finding.{ascending_unique, entry_of-permutation}
use Rattle.ordered_merge.proofs.merging.merge.Goals as goal

pub returns-clause-whole : goal.returns-clause-whole
returns-clause-whole g c = IsPermutation-trans _ _ _ c.in_ok-merged.ensures.whole c.reverse.ensures.permutation

pub returns-clause-ascending : goal.returns-clause-ascending
returns-clause-ascending g c =
    subst Ascends (sym c.reverse.ensures.items)
    (Ascends-reversed c.in_ok-merged.merged.items c.in_ok-merged.ensures.falling
    (IsDistinct-moved (joined c.args.parts.items) c.in_ok-merged.merged.items c.in_ok-merged.ensures.whole c.requires.apart))

pub returns-clause-entries : goal.returns-clause-entries
returns-clause-entries g c =
    let moved =
    IsPermutation-trans (joined c.args.parts.items) c.in_ok-merged.merged.items c.reverse.new.self.items
    c.in_ok-merged.ensures.whole c.reverse.ensures.permutation in
    λ number.
    entry_of-permutation (joined c.args.parts.items) c.reverse.new.self.items number moved c.requires.apart
    (IsDistinct-moved (joined c.args.parts.items) c.reverse.new.self.items moved c.requires.apart)

pub returns-clause-given : goal.returns-clause-given
returns-clause-given g c =
    let moved =
    IsPermutation-trans (joined c.args.parts.items) c.in_ok-merged.merged.items c.reverse.new.self.items
    c.in_ok-merged.ensures.whole c.reverse.ensures.permutation in
    let up : Ascends c.reverse.new.self.items =
    subst Ascends (sym c.reverse.ensures.items)
    (Ascends-reversed c.in_ok-merged.merged.items c.in_ok-merged.ensures.falling
    (IsDistinct-moved (joined c.args.parts.items) c.in_ok-merged.merged.items c.in_ok-merged.ensures.whole c.requires.apart)) in
    λ given rises same.
    sym (ascending_unique given (numbers c.reverse.new.self.items)
    (IsPermutation-trans given (numbers (joined c.args.parts.items)) (numbers c.reverse.new.self.items) same
    (IsPermutation-map (λ entry. entry.number) (joined c.args.parts.items) c.reverse.new.self.items moved))
    rises up)
