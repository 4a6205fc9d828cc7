-- The sum is the number of the digits so far; after i of them it is below 17 ^ i.
use Rattle.std.proofs.Common.{◌≡◌, ◌^◌, ◌<◌, take}
use Rattle.option_eval.specs.Numbers.{digits_number}
use Rattle.option_eval.proofs.fetch.digits_number.Given as goal

abbrev pub invariant-loop-byte : goal.invariant-loop-byte
invariant-loop-byte l = record {
  sum : l.sum ≡ digits_number l.radix (take l.byte-index l.digits);
  below : l.sum < 17 ^ l.byte-index;
}
