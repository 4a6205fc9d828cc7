-- What was appended so far are the pieces before this one.
use Rattle.std.proofs.Common.{◌≡◌, ◌++◌, take}
use Rattle.alert_fast.specs.Pieces.{pieces_text}
use Rattle.alert_fast.proofs.pieces.push_pieces.Given as goal

abbrev pub invariant-loop-piece : goal.invariant-loop-piece
invariant-loop-piece l = l.out.items ≡ l.fn.out.items ++ pieces_text (take l.piece-index l.pieces)
