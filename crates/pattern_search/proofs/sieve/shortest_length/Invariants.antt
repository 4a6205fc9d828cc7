-- `shortest` isn't 0, and no pattern so far but an empty one is shorter.
use Rattle.std.proofs.Common.{ℕ, ◌<◌, ◌≤◌, length}
use Rattle.pattern_search.specs.Words.{word_at}
use Rattle.pattern_search.proofs.sieve.shortest_length.Given as goal

abbrev pub invariant-loop-pattern : goal.invariant-loop-pattern
invariant-loop-pattern l = (0 < l.shortest) × ((k : ℕ) → k < l.pattern-index → 0 < length (word_at l.patterns k) → l.shortest ≤ length (word_at l.patterns k))
