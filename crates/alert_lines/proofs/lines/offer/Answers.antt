-- A sink that stopped has taken the first `done` bytes of what waited, and its count of faults rose: a part was
-- written (`offered_part`).
use Rattle.alert_lines.proofs.Emitting.{offered_part}
use Rattle.alert_lines.proofs.lines.offer.Goals as goal

pub returns-in-Err-clause-emits : goal.returns-in-Err-clause-emits
returns-in-Err-clause-emits g c =
    let stopped = rw c.deref.ensures.value at c.in-Err.ensures.stopped in
    offered_part _ _ c.in-Err._stop.done stopped c.in-Err.ensures.failed c.in-Err.ensures.later
