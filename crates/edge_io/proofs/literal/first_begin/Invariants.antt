-- From no place so far do the bytes begin with the text.
use Rattle.std.proofs.Common.{◌≡◌, ℕ, ◌<◌, false, drop}
use Rattle.edge_io.specs.Matching.{begins}
use Rattle.edge_io.proofs.literal.first_begin.Given as goal

abbrev pub invariant-loop-start : goal.invariant-loop-start
invariant-loop-start l = (k : ℕ) → k < l.start → begins l.nocase l.text (drop k l.bytes) ≡ false
