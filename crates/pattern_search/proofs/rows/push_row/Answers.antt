-- A move more lengthens the row (`rows-more`), and one for each letter makes it whole (`row-done`).
use Rattle.std.proofs.Common.{ℕ, ◌+◌, List, sym, subst, arith}
use Rattle.pattern_search.specs.Rows.{IsNextEntry, HasRows}
use Rattle.pattern_search.proofs.States.Rowing.{rows-more, row-done}
use Rattle.pattern_search.proofs.rows.push_row.Goals as goal

pub loop-letter-preserved : goal.loop-letter-preserved
loop-letter-preserved c = λ was.
    let trie = c.args.trie.now in
    let fails = c.args.fails.now in
    let entries = c.args.entries.now in
    let state = c.args.state in
    let letter = c.loop-letter.letter in
    let P : List ℕ → Type 0 = λ t. IsNextEntry trie fails entries t state letter c.next_entry-entry.result in
    let Q : List ℕ → Type 0 = λ t. HasRows trie fails entries state (letter + 1) t in
    subst Q (sym c.in_ok-push.ensures.items)
    (rows-more trie fails entries state letter c.loop-letter.table.items c.next_entry-entry.result (c.loop-letter.invariant was)
    c.loop-letter-test.true (subst P c.deref.ensures.value c.next_entry-entry.ensures))

pub returns : goal.returns
returns c = λ was. row-done c.args.trie.now c.args.fails.now c.args.entries.now c.args.state c.loop-letter.letter c.loop-letter.table.items (omega arith) (c.loop-letter.invariant was)
