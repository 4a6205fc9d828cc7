-- The sizes of the longest contents of the rules so far.
use Rattle.std.proofs.Common.{◌≡◌, map, take}
use Rattle.event_filters.specs.Queue.{longest_content}
use Rattle.event_filters.proofs.lines.sizes_of.Given as goal

abbrev pub invariant-loop-rule : goal.invariant-loop-rule
invariant-loop-rule l = l.sizes.items ≡ map longest_content (take l.rule-index l.rules)
