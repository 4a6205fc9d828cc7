-- If the table had the rows of the earlier states, it has those and the first `letter` moves of this one.
use Rattle.pattern_search.specs.Rows.{HasRows}
use Rattle.pattern_search.proofs.rows.push_row.Given as goal

abbrev pub invariant-loop-letter : goal.invariant-loop-letter
invariant-loop-letter l = HasRows l.trie l.fails l.entries l.state 0 l.fn.table.items → HasRows l.trie l.fails l.entries l.state l.letter l.table.items
