-- A side that is off and whose direction isn't started has an idle direction, and so nothing left: the lemma `none-left`.
use Rattle.flow_lanes.proofs.Sessions.Sides.{none-left}
use Rattle.flow_lanes.proofs.side.SessionSide.has_left.Goals as goal

pub returns-then-not-self : goal.returns-then-not-self
returns-then-not-self c = λ unstarted. none-left c.args.self.now (c.started.ensures.nothing unstarted)
