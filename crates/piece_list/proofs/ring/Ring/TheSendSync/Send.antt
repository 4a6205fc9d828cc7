-- Beside its values a ring owns pointers and rights to free blocks, which are bound to no thread, so it may be sent where
-- its values may (`Ring-send`).
use denote.RattleType.{RattleType}
use denote.Param.Send.{IsSend}
use Rattle.piece_list.proofs.Crosses.{Ring-send}
use Rattle.piece_list.specs.contracts.ring.Ring.{the_row}

pub send : (V : RattleType) → IsSend V → IsSend (the_row V)
send = Ring-send
