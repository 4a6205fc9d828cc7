-- Where three steps up from a state lead to the root, its word has at most three letters, as each step up leaves one out
-- (`shallow-more`).
use Rattle.std.proofs.Common.{◌+◌, arith}
use Rattle.pattern_search.proofs.States.Shallow.{shallow-none, shallow-more, shallow-less}
use Rattle.pattern_search.proofs.rows.shallow_count.Goals as goal

pub loop-count-init : goal.loop-count-init
loop-count-init c = shallow-none c.args.trie.now

pub loop-count-preserved : goal.loop-count-preserved
loop-count-preserved c =
    shallow-more c.args.trie.now c.loop-count.count c.parent-one.result c.parent-two.result c.parent.result c.loop-count.invariant
    c.parent-one.ensures c.parent-two.ensures c.parent.ensures (omega (arith, c.if-parent-ne0.false))

pub returns : goal.returns
returns c = shallow-less c.args.trie.now (c.loop-count.count + 1) c.saturating_add.result c.loop-count.invariant (omega (arith, c.saturating_add.ensures))
