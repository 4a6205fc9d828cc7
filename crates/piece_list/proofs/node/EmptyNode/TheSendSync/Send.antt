-- What a room owns, empty memory and the right to free it, is bound to no thread, so it may be sent whatever the type of the
-- value (`EmptyNode-send`).
use denote.RattleType.{RattleType}
use denote.Param.Send.{IsSend}
use Rattle.piece_list.proofs.Crosses.{EmptyNode-send}
use Rattle.piece_list.specs.contracts.node.EmptyNode.{the_row}

pub send : (V : RattleType) → IsSend (the_row V)
send = EmptyNode-send
