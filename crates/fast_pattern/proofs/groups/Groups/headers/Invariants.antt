-- The headers so far are what is asked of the rules so far, in their order.
use Rattle.std.proofs.Common.{◌≡◌, map, take}
use Rattle.fast_pattern.specs.Grouping.{asked_of}
use Rattle.fast_pattern.proofs.groups.Groups.headers.Given as goal

abbrev pub invariant-loop-rule : goal.invariant-loop-rule
invariant-loop-rule l = l.headers.items ≡ map asked_of (take l.rule-index l.rules)
