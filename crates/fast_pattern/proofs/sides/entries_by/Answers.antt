-- A rule with an entry at each of its blocks is filed at the ports that lie in these, and at no others (`filed-more`).
use Rattle.std.proofs.Common.{ℕ, ◌++◌, ap, ◌∙◌, List}
use Rattle.fast_pattern.specs.Blocks.{entries_of}
use Rattle.fast_pattern.proofs.Ports.Siding.{filed-none, filed-more}
use Rattle.fast_pattern.proofs.sides.entries_by.Goals as goal

pub loop-place-init : goal.loop-place-init
loop-place-init c = filed-none c.args.rules.now c.args.patterns.now c.args.kind c.args.side c.new-entries.result.items c.new-entries.ensures.items

pub loop-place-preserved : goal.loop-place-preserved
loop-place-preserved c =
    let a = c.args in
    let old = c.loop-place.entries.items in
    let place = c.loop-place.place in
    filed-more a.rules.now a.patterns.now a.kind a.side place old c.push_entries.new.entries.items c.in_ok-blocks.blocks.items c.loop-place.invariant c.in_ok-blocks.ensures
    (c.in_ok-push_entries.ensures ∙ ap (λ (blocks : List ℕ). old ++ entries_of place blocks) c.deref.ensures.value)
