-- The session of `take_all` is of the protocol it was made for, whatever packets it has taken.
use Rattle.std.proofs.Common.{◌≡◌}
use Rattle.layer_rows.proofs.sessions.take_all.Given as goal

abbrev pub invariant-loop-step : goal.invariant-loop-step
invariant-loop-step l = l.session.tcp ≡ l.tcp
