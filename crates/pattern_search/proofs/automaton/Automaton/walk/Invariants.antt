-- The loop of `walk` is at the state after the bytes from `from` to `done`, and what ended in them is marked and listed; the
-- bytes after `done` grow fewer.
use Rattle.std.proofs.Common.{◌-◌, ◌≤◌, length, take, drop}
use Rattle.pattern_search.specs.Words.{word_of}
use Rattle.pattern_search.specs.Finding.{Walks}
use Rattle.pattern_search.proofs.automaton.Automaton.walk.Given as goal

abbrev pub invariant-loop-done : goal.invariant-loop-done
invariant-loop-done l =
    (l.from ≤ l.done)
    × (l.done ≤ length l.bytes)
    × Walks l.self (word_of l.self.letters (take (l.done - l.from) (drop l.from l.bytes)))
    l.at l.fn.seen l.fn.hits.items l.seen l.hits.items

abbrev pub decreases-loop-done : goal.decreases-loop-done
decreases-loop-done l = length l.bytes - l.done
