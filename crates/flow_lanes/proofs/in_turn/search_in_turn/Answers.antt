-- A job that is searched by its own lane is added to what all lanes have searched and learnt, and by what they have learnt
-- the next job is sound; in the end all jobs are taken.
use Rattle.std.proofs.Common.{◌≡◌, ℕ, suc, [], List, length, set, take, drop, ap, sym, subst, ◌∙◌, arith, rules}
use Rattle.std.proofs.lemmas.List.{take_all}
use Rattle.ordered_merge.specs.declared.numbered.Numbered.{Numbered}
use Rattle.flow_lanes.specs.Given.{inspection_of}
use Rattle.flow_lanes.specs.declared.answer.JobFound.{JobFound}
use Rattle.flow_lanes.specs.declared.job.Job.{Job}
use Rattle.flow_lanes.specs.Flows.{flow_of}
use Rattle.flow_lanes.specs.LanesAfter.{lane_of}
use Rattle.flow_lanes.specs.Batching.{HaveLearnt, HaveSearched, lanes_of}
use Rattle.flow_lanes.proofs.Jobs.OwnJobs.{split_at_read, take_read}
use Rattle.flow_lanes.proofs.Jobs.AddsFound.{learnt-none, searched-none, turn_learnt, turn_searched, turn_sound}
use Rattle.flow_lanes.proofs.in_turn.search_in_turn.Goals as goal

pub loop-job-init : goal.loop-job-init
loop-job-init g c = record {
  searched =
      subst (λ (found : List (Numbered JobFound)). HaveSearched (inspection_of g.P.Pattern.finds c.args.inspector.now) (lanes_of c.args.workers.now) [] found (lanes_of c.args.workers.now))
      (sym c.in_ok-found.ensures.items)
      (searched-none (inspection_of g.P.Pattern.finds c.args.inspector.now) (lanes_of c.args.workers.now));
  learnt = learnt-none (lanes_of c.args.workers.now);
}

pub answer_next-requires : goal.answer_next-requires
answer_next-requires g c = (
  search rules,
  (
    search rules,
    turn_sound (length c.args.inspector.now.stream.now.engines) c.args.workers.now c.loop-job.workers c.place_of-place.result c.index-workers-place.result c.args.jobs.now
        (take c.loop-job.job-index c.args.jobs.now) c.job-item.result
        (drop (suc c.loop-job.job-index) c.args.jobs.now) c.place_of-place.ensures.within c.loop-job.auto.workers c.place_of-place.ensures.value c.requires.sound
        (split_at_read c.args.jobs.now c.loop-job.job-index c.job-item.result c.loop-job-test.true c.job-item.is) c.loop-job.invariant.learnt,
  ),
)

pub loop-job-preserved : goal.loop-job-preserved
loop-job-preserved g c =
    let size : length c.loop-job.workers ≡ length c.args.workers.now = c.loop-job.auto.workers in
    let here : c.place_of-place.result ≡ lane_of (length c.loop-job.workers) (flow_of c.job-item.result) =
    c.place_of-place.ensures.value ∙ ap (λ (count : ℕ). lane_of count (flow_of c.job-item.result)) (sym size) in
    let more = sym (take_read c.args.jobs.now c.loop-job.job-index c.job-item.result c.loop-job-test.true c.job-item.is) in
    record {
      searched =
          subst (λ (jobs : List Job). HaveSearched (inspection_of g.P.Pattern.finds c.args.inspector.now) (lanes_of c.args.workers.now) jobs c.answer_next.new.found.items
          (lanes_of (set c.loop-job.workers c.place_of-place.result c.answer_next.new.self))) more
          (turn_searched (inspection_of g.P.Pattern.finds c.args.inspector.now) c.args.workers.now c.loop-job.workers c.place_of-place.result c.index-workers-place.result c.answer_next.new.self
          (take c.loop-job.job-index c.args.jobs.now) c.job-item.result
          c.loop-job.found.items c.answer_next.new.found.items (omega (arith, c.place_of-place.ensures.within)) here c.loop-job.invariant.searched c.in_ok-answer_next.ensures);
      learnt =
          subst (λ (jobs : List Job). HaveLearnt (lanes_of c.args.workers.now) jobs (lanes_of (set c.loop-job.workers c.place_of-place.result c.answer_next.new.self))) more
          (turn_learnt c.args.workers.now c.loop-job.workers c.place_of-place.result c.index-workers-place.result c.answer_next.new.self (take c.loop-job.job-index c.args.jobs.now) c.job-item.result
          (omega (arith, c.place_of-place.ensures.within)) here c.loop-job.invariant.learnt c.in_ok-answer_next.ensures.learns);
    }

pub returns-clause-finds : goal.returns-clause-finds
returns-clause-finds g c =
    subst (λ (jobs : List Job). HaveSearched (inspection_of g.P.Pattern.finds c.args.inspector.now) (lanes_of c.args.workers.now) jobs c.loop-job.found.items (lanes_of c.loop-job.workers))
    (take_all c.loop-job.job-index c.args.jobs.now c.loop-job-test.false) c.loop-job.invariant.searched

pub returns-clause-learns : goal.returns-clause-learns
returns-clause-learns g c =
    subst (λ (jobs : List Job). HaveLearnt (lanes_of c.args.workers.now) jobs (lanes_of c.loop-job.workers)) (take_all c.loop-job.job-index c.args.jobs.now c.loop-job-test.false)
    c.loop-job.invariant.learnt
