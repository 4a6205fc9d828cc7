-- What `do_work` does to the flows is what the definition does to those of the lane's view, whose settings stay: so the job
-- is searched (`searches-job`), its visits are few (`counts-visits`), and the lane has learnt of it.
use Rattle.std.proofs.Common.{ℕ, length, refl, subst, sym}
use Rattle.flow_lanes.specs.Batching.{SearchesJob}
use Rattle.flow_lanes.specs.Given.{inspection_of}
use Rattle.flow_lanes.specs.Sound.{IsSoundFor}
use Rattle.flow_lanes.specs.LanesAfter.{LaneState, LearnsJob, known_of}
use Rattle.flow_lanes.specs.Tried.{so_far}
use Rattle.flow_lanes.specs.Work.{CountsVisits}
use Rattle.flow_lanes.proofs.Jobs.IsDone.{counts-visits, learns-job, searches-job}
use Rattle.flow_lanes.proofs.lane.Lane.search_counted.Goals as goal

pub returns-clause-finds : goal.returns-clause-finds
returns-clause-finds g c =
    let by = inspection_of g.P.Pattern.finds c.args.inspector.now in
    let job = c.args.job.now in
    let old : LaneState = record { flush = c.self.inside.flush; inserts = c.self.inside.inserts; flows = c.self.inside.flows.entries } in
    let new : LaneState = record { flush = c.self.inside.flush; inserts = c.self.inside.inserts; flows = c.do_work.new.flows.entries } in
    let engines = length c.args.inspector.now.stream.now.engines in
    let sound = subst (λ (lane : LaneState). IsSoundFor engines (known_of lane job) job) (sym c.self.view_is) c.requires.sound in
    subst (λ (lane : LaneState). SearchesJob by lane job c.job_found.result.found new) c.self.view_is
    (searches-job by old new job (so_far c.in_ok-tally.tally) c.in_ok-tally.ensures engines (known_of old job) c.job_found.result.found sound refl refl
    c.job_found.ensures.number c.job_found.ensures.told c.job_found.ensures.items c.job_found.ensures.tries)

pub returns-clause-learns : goal.returns-clause-learns
returns-clause-learns g c =
    let old : LaneState = record { flush = c.self.inside.flush; inserts = c.self.inside.inserts; flows = c.self.inside.flows.entries } in
    let new : LaneState = record { flush = c.self.inside.flush; inserts = c.self.inside.inserts; flows = c.do_work.new.flows.entries } in
    subst (λ (lane : LaneState). LearnsJob lane c.args.job.now new) c.self.view_is
    (learns-job (inspection_of g.P.Pattern.finds c.args.inspector.now) old new c.args.job.now (so_far c.in_ok-tally.tally) c.in_ok-tally.ensures)

pub returns-clause-visits : goal.returns-clause-visits
returns-clause-visits g c =
    let by = inspection_of g.P.Pattern.finds c.args.inspector.now in
    let job = c.args.job.now in
    let old : LaneState = record { flush = c.self.inside.flush; inserts = c.self.inside.inserts; flows = c.self.inside.flows.entries } in
    let new : LaneState = record { flush = c.self.inside.flush; inserts = c.self.inside.inserts; flows = c.do_work.new.flows.entries } in
    subst (λ (lane : LaneState). CountsVisits by.finds by.stream by.set lane job c.job_found.result.visits) c.self.view_is
    (subst (λ (n : ℕ). CountsVisits by.finds by.stream by.set old job n) (sym c.job_found.ensures.visits)
    (counts-visits by old new job (so_far c.in_ok-tally.tally) c.in_ok-tally.ensures))
