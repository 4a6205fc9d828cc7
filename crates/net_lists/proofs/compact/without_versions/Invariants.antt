-- The compact parts so far are the parts before this one.
use Rattle.std.proofs.Common.{◌≡◌, map, take}
use Rattle.net_lists.specs.Compact.{with_version}
use Rattle.net_lists.proofs.compact.without_versions.Given as goal

abbrev pub invariant-loop-part : goal.invariant-loop-part
invariant-loop-part l = map with_version l.compact.items ≡ take l.part-index l.parts
