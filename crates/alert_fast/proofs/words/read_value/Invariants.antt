-- The loop of `read_value` has the fold over the bytes so far, and it is below 2^32.
use Rattle.std.proofs.Common.{◌≡◌, ℕ, ◌+◌, ◌-◌, ◌*◌, ◌%◌, ◌^◌, ◌<◌, fold, take}
use Rattle.alert_fast.proofs.words.read_value.Given as goal

abbrev pub invariant-loop-byte : goal.invariant-loop-byte
invariant-loop-byte l = (l.value ≡ fold (λ value digit. (10 * value + (digit - 48)) % 2 ^ 32) 0 (take l.byte-index l.word)) × (l.value < 2 ^ 32)
