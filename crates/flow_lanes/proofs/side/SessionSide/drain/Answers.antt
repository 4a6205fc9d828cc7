-- A started direction gives the runs of all its places up to the top, which, cut, are what it holds; a direction that isn't
-- started is idle, and holds nothing.
use Rattle.std.proofs.Common.{List, ap, subst, sym, ◌∙◌}
use Rattle.overlap_core.specs.declared.segment.Run.{Run}
use Rattle.stream5_reassembly.specs.Segments.{AppendsFlushed, top}
use Rattle.flow_lanes.specs.Sides.{held_payloads}
use Rattle.flow_lanes.specs.Streams.{payloads_of}
use Rattle.flow_lanes.proofs.Sessions.Sides.{cut-flushed, held-idle}
use Rattle.flow_lanes.proofs.side.SessionSide.drain.Goals as goal

pub returns-clause-payloads : goal.returns-clause-payloads
unfolding held_payloads
returns-clause-payloads c =
    let old = c.args.self.now.direction in
    let runs = c.stop.new.out.items in
    cut-flushed old (top old) runs (subst (λ (before : List Run). AppendsFlushed old (top old) before runs) c.new-runs.ensures.items c.in_ok-stop.ensures.runs)

pub returns-then-not-started-clause-payloads : goal.returns-then-not-started-clause-payloads
returns-then-not-started-clause-payloads c = ap payloads_of c.new-runs.ensures.items ∙ sym (held-idle c.args.self.now (c.started.ensures.nothing c.if-not-started.true))
