-- Of a ring that is shared, links and values alone are seen, so it may be shared where its values may (`Ring-sync`).
use denote.RattleType.{RattleType}
use denote.Param.Send.{IsSync}
use Rattle.piece_list.proofs.Crosses.{Ring-sync}
use Rattle.piece_list.specs.contracts.ring.Ring.{the_row}

pub sync : (V : RattleType) → IsSync V → IsSync (the_row V)
sync = Ring-sync
