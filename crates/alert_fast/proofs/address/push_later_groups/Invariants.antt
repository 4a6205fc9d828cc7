-- What was appended so far are the groups before this one.
use Rattle.std.proofs.Common.{◌≡◌, ◌++◌, take}
use Rattle.alert_fast.specs.Pieces.{later_groups_text}
use Rattle.alert_fast.proofs.address.push_later_groups.Given as goal

abbrev pub invariant-loop-group : goal.invariant-loop-group
invariant-loop-group l = l.out.items ≡ l.fn.out.items ++ later_groups_text (take l.group-index l.groups)
