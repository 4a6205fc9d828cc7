-- No run begins before the floor that it was taken from (`AppendsRuns-from`), so its start counts from there; and a base no
-- later than the top keeps the direction within its limits (`flushed_to-kept`).
use Rattle.overlap_core.specs.Overlap.{chosen_byte}
use Rattle.stream5_reassembly.proofs.Shifted.{AppendsRuns-from}
use Rattle.std.proofs.Common.{◌≡◌, length, ap, arith}
use Rattle.stream5_reassembly.specs.Inside.{IsKept, state_of}
use Rattle.stream5_reassembly.specs.Segments.{DirectionState, flushed_to, top}
use Rattle.stream5_reassembly.proofs.Steps.{flushed_to-kept, Flushes-from}
use Rattle.stream5_reassembly.proofs.direction.Direction.flush_to.Goals as goal

kept : (c : goal.After-self-2-1) → IsKept (flushed_to (state_of c.self.inside) c.args.to)
kept c =
    let place = ap (λ (d : DirectionState). d.place) c.self.view_is in
    let most = ap (λ (d : DirectionState). top d) c.self.view_is in
    flushed_to-kept (state_of c.self.inside) c.args.to c.self.invariant.kept (omega (arith, place, c.requires.from)) (omega (arith, most, c.requires.to))

pub count_from-requires-clause-from : goal.count_from-requires-clause-from
count_from-requires-clause-from c =
    let before : c.len-before.result ≡ length c.args.out.now.items = omega (arith, c.len-before.ensures, c.args.out.now.ok.0) in
    rw c.floor-base.ensures
    (AppendsRuns-from (chosen_byte c.self.inside.queue.preference c.self.inside.queue.segments) c.self.inside.queue.floor c.args.to c.len-before.result
    c.args.out.now.items c.take_runs.new.out.items before c.in_ok-take_runs.ensures.runs)

pub invariant_of-self-2 : goal.invariant_of-self-2
invariant_of-self-2 c = rw (c.in_ok-take_runs.ensures.floor, c.floor-base.ensures) (record { preference = c.self.invariant.preference; kept = kept c })

pub returns-clause-ok : goal.returns-clause-ok
returns-clause-ok c =
    let place = ap (λ (d : DirectionState). d.place) c.self.view_is in
    let before : c.len-before.result ≡ length c.args.out.now.items = omega (arith, c.len-before.ensures, c.args.out.now.ok.0) in
    rw (← c.self.view_is, c.in_ok-take_runs.ensures.floor, c.floor-base.ensures)
    (Flushes-from (state_of c.self.inside) c.args.to c.self.inside.queue.preference c.args.out.now.items c.take_runs.new.out.items c.count_from.new.runs.items
    c.self.invariant.preference (omega (arith, place, c.requires.from)) c.in_ok-take_runs.ensures.runs
    (rw (before, c.floor-base.ensures) at c.count_from.ensures))

pub returns-clause-bounds : goal.returns-clause-bounds
returns-clause-bounds c = rw (c.in_ok-take_runs.ensures.floor, c.floor-base.ensures) (kept c).within
