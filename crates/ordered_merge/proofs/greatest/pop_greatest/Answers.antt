-- In ascending parts the last entry of the one with the greatest end is above all entries (`popped_greatest`), and without
-- it that part still ascends (`popped_ascends`).
use Rattle.std.proofs.Common.{◌≡◌, []}
use Rattle.std.proofs.lemmas.List.Elements.{All-from_all_within, All-set}
use Rattle.ordered_merge.specs.Merging.{Ascends}
use Rattle.ordered_merge.proofs.Ends.{IfNone-always, popped, popped_ascends, popped_greatest}
use Rattle.ordered_merge.proofs.Parts.{joined_empty}
use Rattle.ordered_merge.proofs.greatest.pop_greatest.Goals as goal

pub returns-in_err-end-clause-empty : goal.returns-in_err-end-clause-empty
returns-in_err-end-clause-empty g c =
    IfNone-always _ (joined_empty c.args.parts.now.items (All-from_all_within (λ part. part.items ≡ []) c.args.parts.now.items (rw c.deref.ensures.value at c.in_err-end.ensures)))

pub returns-clause-ascending : goal.returns-clause-ascending
returns-clause-ascending g c =
    let at = c.in_ok-end.end.at in
    let found = rw c.deref.ensures.value at c.in_ok-end.ensures in
    All-set (λ part. Ascends part.items) c.args.parts.now.items at c.pop.new.self
    (popped_ascends c.args.parts.now.items at c.index_mut.result.now c.pop.new.self c.pop.result found.within
    c.index_mut.ensures.value c.pop.ensures.items c.requires)
    c.requires

pub returns-clause-taken : goal.returns-clause-taken
returns-clause-taken g c =
    let found = rw c.deref.ensures.value at c.in_ok-end.ensures in
    popped c.args.parts.now.items c.in_ok-end.end.at c.index_mut.result.now c.pop.new.self c.pop.result found.within c.index_mut.ensures.value c.pop.ensures.items

pub returns-clause-greatest : goal.returns-clause-greatest
returns-clause-greatest g c =
    let found = rw c.deref.ensures.value at c.in_ok-end.ensures in
    popped_greatest c.args.parts.now.items c.in_ok-end.end c.index_mut.result.now c.pop.new.self c.pop.result found c.index_mut.ensures.value c.pop.ensures.items
