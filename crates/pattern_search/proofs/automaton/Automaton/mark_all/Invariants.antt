-- The loop of `mark_all` has marked and listed all patterns that begin before `done`; the bytes after `done` grow fewer.
use Rattle.std.proofs.Common.{◌-◌, ◌≤◌, length}
use Rattle.pattern_search.specs.Finding.{CoversOn, so_far}
use Rattle.pattern_search.proofs.automaton.Automaton.mark_all.Given as goal

abbrev pub invariant-loop-done : goal.invariant-loop-done
invariant-loop-done l = (l.done ≤ length l.bytes) × CoversOn l.self l.bytes 0 (so_far l.fn.seen l.fn.hits.items) l.done (so_far l.seen l.hits.items)

abbrev pub decreases-loop-done : goal.decreases-loop-done
decreases-loop-done l = length l.bytes - l.done
