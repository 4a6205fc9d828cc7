-- `plain` has the places below `place` that pass `is_plain`, in ascending order.
use Rattle.std.proofs.Common.{◌≡◌}
use Rattle.fast_pattern.specs.Kinds.{is_plain}
use Rattle.pattern_search.specs.Occurring.{numbers}
use Rattle.fast_pattern.proofs.groups.Groups.plain.Given as goal

abbrev pub invariant-loop-place : goal.invariant-loop-place
invariant-loop-place l = l.plain.items ≡ numbers (is_plain l.rules l.patterns l.kind) 0 l.place
