-- A run is prepared by its setup and then by what is left to do: where the setup stops, it stops the run; else the plan
-- keeps it, with all that is known of it.
use Rattle.std.proofs.lemmas.Result.{err_from_is_err_and}
use Rattle.command_words.specs.Told.{run_of}
use Rattle.snort_setup.specs.declared.setup.Setup.{Setup}
use Rattle.snort_setup.specs.Whole.{ready_of}
use Rattle.snort_engine.specs.Steps.Preparing.{way_for}
use Rattle.snort_engine.proofs.Preparing.Prepared.{setup_stopped, setup_ready, setup_cause, kept_early, kept_ready, stopped_early}
use Rattle.snort_engine.proofs.Headline.Quiet.{setup_uncut}
use Rattle.snort_engine.proofs.prepare.prepare_run.Goals as goal

pub returns-in_err-setup-clause-prepared : goal.returns-in_err-setup-clause-prepared
returns-in_err-setup-clause-prepared g c = λ files agree.
    let p = err_from_is_err_and c.from_residual.result c.from_residual.ensures.1 in
    rw (p.1, p.2) (setup_stopped ready_of way_for (run_of c.args.wanted.now) files _ _ c.in_err-setup.field-0.0 _ (c.in_err-setup.ensures.set_up files agree))

pub returns-clause-prepared : goal.returns-clause-prepared
returns-clause-prepared g c = λ files agree.
    setup_ready (run_of c.args.wanted.now) files _ _ c.in_ok-setup.setup c.ready.result _ (c.in_ok-setup.ensures.set_up files agree) c.ready.ensures.way c.ready.ensures.kept

pub returns-clause-ready : goal.returns-clause-ready
returns-clause-ready g c =
    kept_ready _ _ c.in_ok-setup.setup c.ready.result c.args.wanted.now.lanes c.args.wanted.now.flush_point c.ready.ensures.kept c.ready.ensures.ranges c.requires.ranged c.in_ok-setup.ensures.ready

pub returns-in_err-setup-clause-causes : goal.returns-in_err-setup-clause-causes
returns-in_err-setup-clause-causes g c =
    let p = err_from_is_err_and c.from_residual.result c.from_residual.ensures.1 in
    rw (p.1, p.2) (stopped_early _ _ _ _ (setup_cause _ _ c.in_err-setup.field-0.0 c.in_err-setup.ensures.cause)
    (setup_uncut (Setup g.row.M-Made.Denot) _ c.in_err-setup.field-0.0 c.in_err-setup.ensures.quiet))

pub returns-clause-causes : goal.returns-clause-causes
returns-clause-causes g c = kept_early _ _ _ c.in_ok-setup.setup c.ready.result c.ready.ensures.kept c.in_ok-setup.ensures.quiet
