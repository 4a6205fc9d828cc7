-- `value` is what the digits so far spell in hexadecimal, or 65535 if that is more.
use Rattle.std.proofs.Common.{◌≡◌, min, take}
use Rattle.net_lists.specs.Addresses.{hex_value}
use Rattle.net_lists.proofs.address6.capped_hex_value.Given as goal

abbrev pub invariant-loop-digit : goal.invariant-loop-digit
invariant-loop-digit l = l.value ≡ min (hex_value (take l.digit-index l.digits)) 65535
