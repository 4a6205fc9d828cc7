-- The rules below `place` that are sought at a port are filed at its blocks, and no others are.
use Rattle.fast_pattern.specs.Sides.{AreFiled}
use Rattle.fast_pattern.proofs.sides.entries_by.Given as goal

abbrev pub invariant-loop-place : goal.invariant-loop-place
invariant-loop-place l = AreFiled l.rules l.patterns l.kind l.side l.entries.items l.place
