-- The bytes so far are printable, and the rest is as it was.
use Rattle.std.proofs.Common.{◌≡◌, ◌++◌, map, take, drop}
use Rattle.alert_json.specs.Texts.{printable}
use Rattle.alert_json.proofs.texts.print_over.Given as goal

abbrev pub invariant-loop-at : goal.invariant-loop-at
invariant-loop-at l = l.text ≡ map printable (take l.at l.fn.text) ++ drop l.at l.fn.text
