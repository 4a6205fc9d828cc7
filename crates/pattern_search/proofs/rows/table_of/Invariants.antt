-- The table has the whole rows of the states below `state`.
use Rattle.pattern_search.specs.Rows.{HasRows}
use Rattle.pattern_search.proofs.rows.table_of.Given as goal

abbrev pub invariant-loop-state : goal.invariant-loop-state
invariant-loop-state l = HasRows l.trie l.fails l.entries l.state 0 l.table.items
