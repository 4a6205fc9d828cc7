-- The runs so far count from the base, those after them are as they were, and none of these begins before the base.
use Rattle.std.proofs.Common.{◌≡◌, ◌++◌, length, map, take, drop}
use Rattle.std.specs.List.{AllWithin}
use Rattle.stream5_reassembly.specs.Counted.{counted_from, IsFrom}
use Rattle.stream5_reassembly.proofs.counted.count_all_from.Given as goal

abbrev pub invariant-loop-run : goal.invariant-loop-run
invariant-loop-run l = record {
  same : l.runs ≡ map (counted_from l.base) (take l.run-index l.fn.runs) ++ drop l.run-index l.fn.runs;
  from : AllWithin (IsFrom l.base) l.runs l.run-index (length l.runs);
}
