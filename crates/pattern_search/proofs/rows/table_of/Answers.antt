-- The loop ends at `dense`, so the rows that it made are those of all states that have one.
use Rattle.std.proofs.Common.{◌≡◌, ℕ, subst, arith}
use Rattle.pattern_search.specs.Rows.{HasRows}
use Rattle.pattern_search.proofs.rows.table_of.Goals as goal

pub returns : goal.returns
returns c =
    let all : c.loop-state.state ≡ c.args.dense = omega arith in
    let P : ℕ → Type 0 = λ s. HasRows c.args.trie.now c.args.fails.now c.args.entries.now s 0 c.loop-state.table.items in
    subst P all c.loop-state.invariant
