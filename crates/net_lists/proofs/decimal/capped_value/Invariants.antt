-- `value` is what the digits so far spell, or `cap` if that is more.
use Rattle.std.proofs.Common.{◌≡◌, min, take}
use Rattle.net_lists.specs.Numbers.{decimal_value}
use Rattle.net_lists.proofs.decimal.capped_value.Given as goal

abbrev pub invariant-loop-digit : goal.invariant-loop-digit
invariant-loop-digit l = l.value ≡ min (decimal_value (take l.digit-index l.digits)) l.cap
