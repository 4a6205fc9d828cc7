-- Where neither side has anything left, that no stretches were taken tells all of it: the lemma `none-told`.
use Rattle.std.proofs.Common.{Option, sym, subst}
use Rattle.flow_lanes.specs.declared.session.Stretches.{Stretches}
use Rattle.flow_lanes.specs.Working.{TellsLeft}
use Rattle.flow_lanes.proofs.Sessions.ItemsOn.{none-told}
use Rattle.flow_lanes.proofs.session.FlowSession.take_left.Goals as goal

pub returns-then-not-has_left-clause-left : goal.returns-then-not-has_left-clause-left
returns-then-not-has_left-clause-left c =
    let session = c.args.self.now in
    subst (λ (left : Option Stretches). TellsLeft session left) (sym c.none.ensures)
    (none-told session (c.has_left.ensures.client c.if-not-has_left.true) (c.has_left.ensures.server c.if-not-has_left.true))
