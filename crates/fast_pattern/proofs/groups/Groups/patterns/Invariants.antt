-- The patterns so far are those of the rules so far, the empty one for a rule that has none.
use Rattle.std.proofs.Common.{◌≡◌, take}
use Rattle.fast_pattern.specs.Grouping.{texts_of}
use Rattle.fast_pattern.proofs.groups.Groups.patterns.Given as goal

abbrev pub invariant-loop-rule : goal.invariant-loop-rule
invariant-loop-rule l = l.patterns.items ≡ texts_of (take l.rule-index l.rules)
