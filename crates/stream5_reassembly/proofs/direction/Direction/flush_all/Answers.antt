-- Where nothing is held the top is the base, and a flush up to there changes nothing (`Stays-nothing`); a direction that
-- isn't started holds nothing (`idle-top`).
use Rattle.std.proofs.Common.{ap, ◌∙◌}
use Rattle.stream5_reassembly.specs.Inside.{IsKept}
use Rattle.stream5_reassembly.specs.Segments.{DirectionState, top}
use Rattle.stream5_reassembly.proofs.Steps.{idle-top, Stays-nothing}
use Rattle.stream5_reassembly.proofs.direction.Direction.flush_all.Goals as goal

pub returns-clause-nothing : goal.returns-clause-nothing
returns-clause-nothing c is =
    let kept : IsKept c.args.self.now = rw (← c.self.view_is) c.self.invariant.kept in
    let at = c.covered_end-top.ensures.value ∙ ap (λ (d : DirectionState). top d) c.self.view_is in
    Stays-nothing c.args.self.now c.flush_to.new.self c.covered_end-top.result c.args.out.now.items c.flush_to.new.out.items c.flush_to.result
    kept is at c.flush_to.ensures.ok c.flush_to.ensures.err

pub returns-clause-unstarted : goal.returns-clause-unstarted
returns-clause-unstarted c not =
    let kept : IsKept c.args.self.now = rw (← c.self.view_is) c.self.invariant.kept in
    let at = c.covered_end-top.ensures.value ∙ ap (λ (d : DirectionState). top d) c.self.view_is in
    Stays-nothing c.args.self.now c.flush_to.new.self c.covered_end-top.result c.args.out.now.items c.flush_to.new.out.items c.flush_to.result
    kept (idle-top c.args.self.now (kept.nothing not)) at c.flush_to.ensures.ok c.flush_to.ensures.err
