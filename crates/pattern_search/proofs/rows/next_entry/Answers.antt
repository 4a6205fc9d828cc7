-- The move goes to the state that is longer by the letter (`entry-child`), from the root else to the root (`entry-root`),
-- and from any other is the one in the fail's row (`entry-back`).
use Rattle.std.proofs.Common.{ℕ, ◌+◌, ◌*◌, slice_index, ap, ◌∙◌, arith}
use Rattle.pattern_search.proofs.States.Rowing.{entry-child, entry-root, entry-back}
use Rattle.pattern_search.proofs.rows.next_entry.Goals as goal

pub returns-then-child-ne0 : goal.returns-then-child-ne0
returns-then-child-ne0 c =
    entry-child c.args.trie.now c.args.fails.now c.args.entries.now c.args.table.now c.args.state c.args.letter c.args.child
    c.read.result c.requires c.if-child-ne0.true c.read.ensures

pub returns-then-state-eq0 : goal.returns-then-state-eq0
returns-then-state-eq0 c =
    entry-root c.args.trie.now c.args.fails.now c.args.entries.now c.args.table.now c.args.state c.args.letter c.args.child
    c.read-then-state-eq0.result c.requires (omega arith) c.if-state-eq0.true c.read-then-state-eq0.ensures

pub returns : goal.returns
returns c =
    entry-back c.args.trie.now c.args.fails.now c.args.entries.now c.args.table.now c.args.state c.args.letter c.args.child
    c.read-3.result c.requires (omega arith) c.if-state-eq0.false
    (c.read-3.ensures ∙
    ap (slice_index c.args.table.now)
    (c.place.ensures ∙ ap (λ (f : ℕ). f * c.args.trie.now.width + c.args.letter) c.read-2.ensures))
