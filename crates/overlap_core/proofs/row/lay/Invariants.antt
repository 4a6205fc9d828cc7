-- Some pieces are laid, and the buffers and nodes for the others are there.
use Rattle.std.proofs.Common.{◌-◌, List, ◌++◌, length}
use Rattle.overlap_core.specs.Pieces.{Piece}
use Rattle.overlap_core.specs.Rows.{laid, Between}
use Rattle.overlap_core.proofs.Rows.Laying.{IsLaying}
use Rattle.overlap_core.proofs.row.lay.Given as goal

abbrev pub invariant-loop-next : goal.invariant-loop-next
invariant-loop-next l = (front rest : List Piece) → Between l.fn.pieces front rest → IsLaying l.pieces l.buffers.items l.preference l.new l.low (front ++ laid l.preference l.new l.fn.low rest)

abbrev pub decreases-loop-next : goal.decreases-loop-next
decreases-loop-next l = length l.pieces.list - l.pieces.place
