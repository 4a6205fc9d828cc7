-- No pattern so far is longer than `most`.
use Rattle.std.proofs.Common.{◌≤◌, length, take, All}
use Rattle.pattern_search.proofs.ends.longest.Given as goal

abbrev pub invariant-loop-pattern : goal.invariant-loop-pattern
invariant-loop-pattern l = All (λ pattern. length pattern ≤ l.most) (take l.pattern-index l.patterns)
