-- The reader stays as it was.
use Rattle.std.proofs.Common.{◌≡◌, vec_len}
use Rattle.snort_engine.proofs.batch.give_back.Given as goal

abbrev pub invariant-batch : goal.invariant-batch
invariant-batch l = l.reader ≡ l.fn.reader

abbrev pub decreases-batch : goal.decreases-batch
decreases-batch l = vec_len l.records
