-- Jobs are taken in their order, each with the record of its place: the items of one job more are shown after those of the
-- jobs before it (`jobs_step`).
use Rattle.std.proofs.Common.{◌≡◌, refl, take, arith}
use Rattle.std.proofs.lemmas.List.{take_all}
use Rattle.std.proofs.lemmas.Result.{err_from_is_err_and}
use Rattle.alert_lines.specs.Sourcing.{source_by}
use Rattle.alert_lines.proofs.Showing.{shows_none, jobs_step, jobs_part}
use Rattle.alert_lines.proofs.writer.AlertWriter.show_hits.Goals as goal

pub loop-job-init : goal.loop-job-init
loop-job-init g c = record { shown = shows_none c.args.by.now.form c.args.by.now.config.now c.args.by.now.rules.now _; at = refl }

pub returns-in_err-show_items : goal.returns-in_err-show_items
returns-in_err-show_items g c =
    let p = err_from_is_err_and c.from_residual.result c.from_residual.ensures.1 in
    let stopped = rw (c.as_slice-items.ensures, c.of-origin.ensures, c.loop-job.invariant.at) at c.in_err-show_items.ensures in
    rw (p.1, p.2)
    (jobs_part c.args.by.now.form c.args.by.now.config.now c.args.by.now.rules.now (source_by c.args.sources) c.args.jobs.now
    c.loop-job.job-index c.job-item.result _ _ _ _ _ c.loop-job-test.true c.job-item.is c.loop-job.invariant.shown stopped)

pub loop-job-preserved : goal.loop-job-preserved
loop-job-preserved g c =
    let shown = rw (c.as_slice-items.ensures, c.of-origin.ensures, c.loop-job.invariant.at) at c.in_ok-show_items.ensures in
    record {
      shown =
          jobs_step c.args.by.now.form c.args.by.now.config.now c.args.by.now.rules.now (source_by c.args.sources) c.args.jobs.now
          c.loop-job.job-index c.job-item.result _ _ _ _ _ c.loop-job-test.true c.job-item.is c.loop-job.invariant.shown shown;
      at = omega (arith, c.loop-job.invariant.at);
    }

pub returns : goal.returns
returns g c =
    let all : take c.loop-job.job-index c.args.jobs.now ≡ c.args.jobs.now = take_all c.loop-job.job-index c.args.jobs.now (omega arith) in
    rw all at c.loop-job.invariant.shown
