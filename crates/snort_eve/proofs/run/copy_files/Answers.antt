-- The files so far are done, and one more that is done adds its lines after theirs (`done-more`); the first that isn't ends
-- the run, with what it wrote after the others' lines (`run-stops`).
use Rattle.std.proofs.Common.{◌≡◌, ◌∙◌, refl, arith}
use Rattle.snort_eve.proofs.Running.{done-none, done-more, other-end, run-stops, run-done, unless-done}
use Rattle.snort_eve.proofs.run.copy_files.Goals as goal

pub loop-name-init : goal.loop-name-init
loop-name-init g c = record {
  done = done-none (g.F.InputForm.means c.args.form.now) (g.H.Host.agrees c.args.host.now) (g.A.Sink.written c.args.alerts.now);
  earlier = λ files a. a;
  same_contents = refl;
  quiet = refl;
  quiet_alerts = refl;
}

pub returns-then-not-is_done-clause-runs : goal.returns-then-not-is_done-clause-runs
returns-then-not-is_done-clause-runs g c =
    run-stops (g.F.InputForm.means c.args.form.now) (g.H.Host.agrees c.loop-name.host) (g.H.Host.agrees c.copy_file-outcome.new.host) c.args.names.now c.loop-name.name-index _ _
    (g.A.Sink.written c.args.alerts.now) (g.A.Sink.written c.loop-name.alerts) (g.A.Sink.written c.copy_file-outcome.new.alerts) c.copy_file-outcome.result
    c.loop-name-test.true refl c.loop-name.invariant.done c.copy_file-outcome.ensures.earlier (c.if-not-is_done.ensures.other refl) c.copy_file-outcome.ensures.runs

pub returns-clause-runs : goal.returns-clause-runs
returns-clause-runs g c =
    run-done (g.F.InputForm.means c.args.form.now) (g.H.Host.agrees c.loop-name.host) c.args.names.now c.loop-name.name-index (g.A.Sink.written c.args.alerts.now) (g.A.Sink.written c.loop-name.alerts)
    (omega (arith, c.loop-name-test.false)) c.loop-name.invariant.done

pub loop-name-preserved : goal.loop-name-preserved
loop-name-preserved g c =
    let so_far = c.loop-name.invariant in
    let is_all = c.if-not-is_done.ensures.done refl in
    record {
      done = done-more (g.F.InputForm.means c.args.form.now) (g.H.Host.agrees c.loop-name.host) (g.H.Host.agrees c.copy_file-outcome.new.host) c.args.names.now c.loop-name.name-index _ _
          (g.A.Sink.written c.args.alerts.now) (g.A.Sink.written c.loop-name.alerts) (g.A.Sink.written c.copy_file-outcome.new.alerts) c.copy_file-outcome.result
          c.loop-name-test.true refl so_far.done c.copy_file-outcome.ensures.earlier is_all c.copy_file-outcome.ensures.runs;
      earlier = λ files a. so_far.earlier files (c.copy_file-outcome.ensures.earlier files a);
      same_contents = c.copy_file-outcome.ensures.same_contents ∙ so_far.same_contents;
      quiet = unless-done (g.H.Host.faults c.copy_file-outcome.new.host ≡ g.H.Host.faults c.loop-name.host) c.copy_file-outcome.result is_all c.copy_file-outcome.ensures.quiet ∙ so_far.quiet;
      quiet_alerts = c.copy_file-outcome.ensures.quiet_alerts (λ same. other-end c.copy_file-outcome.result is_all same) ∙ so_far.quiet_alerts;
    }
