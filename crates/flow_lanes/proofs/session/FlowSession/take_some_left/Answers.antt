-- The stretches of both sides tell all that is left, even where that is nothing: the lemma `all-told`.
use Rattle.std.proofs.Common.{Option, sym, subst}
use Rattle.flow_lanes.specs.declared.session.Stretches.{Stretches}
use Rattle.flow_lanes.specs.Working.{TellsLeft}
use Rattle.flow_lanes.proofs.Sessions.ItemsOn.{all-told}
use Rattle.flow_lanes.proofs.session.FlowSession.take_some_left.Goals as goal

pub returns-clause-left : goal.returns-clause-left
returns-clause-left c =
    let session = c.args.self.now in
    subst (λ (left : Option Stretches). TellsLeft session left) (sym c.in_ok-left.ensures)
    (all-told session c.in_ok-both.both c.in_ok-both.ensures.stretches)
