-- Each command goes its way: help, version and faulty words stop without a file, a Unified2 file is listed, and a run is
-- prepared, whose words are in form (`command_named`, `command_ranged`).
use Rattle.std.specs.Prelude.{map, string_bytes}
use Rattle.std.proofs.Common.{refl}
use Rattle.std.proofs.lemmas.Result.{err_from_is_err_and}
use Rattle.edge_io.specs.Told.{Rose}
use Rattle.command_words.specs.CommandLine.{command_line}
use Rattle.command_words.specs.Told.{run_of}
use Rattle.snort_engine.specs.Steps.Preparing.{task_way, way_for}
use Rattle.snort_engine.proofs.Preparing.Named.{command_named, command_ranged}
use Rattle.snort_engine.proofs.Preparing.Prepared.{prepared_faulty, prepared_listed, prepared_unlisted, prepared_help}
use Rattle.snort_engine.proofs.Preparing.Prepared.{prepared_version, prepared_lacking, task_ready, task_stopped, fileless_faulty}
use Rattle.snort_engine.proofs.Preparing.Prepared.{fileless_help, fileless_lacking, fileless_version, not_fileless_file}
use Rattle.snort_engine.proofs.Preparing.Prepared.{not_fileless_run, ready_early, stopped_early}
use Rattle.snort_engine.proofs.prepare.prepare.Goals as goal

pub prepare_run-requires-clause-named : goal.prepare_run-requires-clause-named
prepare_run-requires-clause-named g c κs within = command_named _ (run_of c.in-Ok-Run.wanted) (rw c.in-Ok-Run.field-0-is at c.in-Ok-Run.ensures)

pub prepare_run-requires-clause-ranged : goal.prepare_run-requires-clause-ranged
prepare_run-requires-clause-ranged g c κs within = command_ranged _ (run_of c.in-Ok-Run.wanted) (rw c.in-Ok-Run.field-0-is at c.in-Ok-Run.ensures)

pub returns-in-Ok-Help-clause-fileless : goal.returns-in-Ok-Help-clause-fileless
returns-in-Ok-Help-clause-fileless g c = λ so.
    fileless_help _ (Rose (g.H.Host.faults c.args.host.now) (g.H.Host.faults c.args.host.now)) _
    (rw c.in-Ok-Help.field-0-is at c.in-Ok-Help.ensures)
    c.requires

pub returns-in-Ok-Version-clause-fileless : goal.returns-in-Ok-Version-clause-fileless
returns-in-Ok-Version-clause-fileless g c = λ so.
    fileless_version _ (Rose (g.H.Host.faults c.args.host.now) (g.H.Host.faults c.args.host.now)) _
    (rw c.in-Ok-Version.field-0-is at c.in-Ok-Version.ensures)
    c.requires

pub returns-in-Err-CommandLine-clause-fileless : goal.returns-in-Err-CommandLine-clause-fileless
returns-in-Err-CommandLine-clause-fileless g c = λ so.
    fileless_faulty _ (Rose (g.H.Host.faults c.args.host.now) (g.H.Host.faults c.args.host.now)) _
    (rw c.in-Err-CommandLine.field-0-is at c.in-Err-CommandLine.ensures)
    c.requires

pub returns-in-Err-NoMemory-clause-fileless : goal.returns-in-Err-NoMemory-clause-fileless
returns-in-Err-NoMemory-clause-fileless g c = λ so.
    fileless_lacking (command_line (map string_bytes c.args.words.now))
    (Rose (g.H.Host.faults c.args.host.now) (g.H.Host.faults c.args.host.now)) _
    c.requires

pub returns-in_ok-list_records-in-Ok-ReadUnified2-clause-fileless : goal.returns-in_ok-list_records-in-Ok-ReadUnified2-clause-fileless
returns-in_ok-list_records-in-Ok-ReadUnified2-clause-fileless g c = λ so.
    absurd (not_fileless_file _ c.in-Ok-ReadUnified2.file.now (rw c.in-Ok-ReadUnified2.field-0-is at c.in-Ok-ReadUnified2.ensures) so)

pub returns-in_err-list_records-in-Ok-ReadUnified2-clause-fileless : goal.returns-in_err-list_records-in-Ok-ReadUnified2-clause-fileless
returns-in_err-list_records-in-Ok-ReadUnified2-clause-fileless g c = λ so.
    absurd (not_fileless_file _ c.in-Ok-ReadUnified2.file.now (rw c.in-Ok-ReadUnified2.field-0-is at c.in-Ok-ReadUnified2.ensures) so)

pub returns-in_ok-prepare_run-in-Ok-Run-clause-fileless : goal.returns-in_ok-prepare_run-in-Ok-Run-clause-fileless
returns-in_ok-prepare_run-in-Ok-Run-clause-fileless g c = λ so.
    absurd (not_fileless_run _ (run_of c.in-Ok-Run.wanted) (rw c.in-Ok-Run.field-0-is at c.in-Ok-Run.ensures) so)

pub returns-in_err-prepare_run-in-Ok-Run-clause-fileless : goal.returns-in_err-prepare_run-in-Ok-Run-clause-fileless
returns-in_err-prepare_run-in-Ok-Run-clause-fileless g c = λ so.
    absurd (not_fileless_run _ (run_of c.in-Ok-Run.wanted) (rw c.in-Ok-Run.field-0-is at c.in-Ok-Run.ensures) so)

pub returns-in-Ok-Help-clause-prepared : goal.returns-in-Ok-Help-clause-prepared
returns-in-Ok-Help-clause-prepared g c = λ files agree. prepared_help task_way _ files _ _ _ (rw c.in-Ok-Help.field-0-is at c.in-Ok-Help.ensures) c.requires

pub returns-in-Ok-Version-clause-prepared : goal.returns-in-Ok-Version-clause-prepared
returns-in-Ok-Version-clause-prepared g c = λ files agree. prepared_version task_way _ files _ _ _ (rw c.in-Ok-Version.field-0-is at c.in-Ok-Version.ensures) c.requires

pub returns-in-Err-CommandLine-clause-prepared : goal.returns-in-Err-CommandLine-clause-prepared
returns-in-Err-CommandLine-clause-prepared g c = λ files agree. prepared_faulty task_way _ files _ _ _ (rw c.in-Err-CommandLine.field-0-is at c.in-Err-CommandLine.ensures) c.requires

pub returns-in-Err-NoMemory-clause-prepared : goal.returns-in-Err-NoMemory-clause-prepared
returns-in-Err-NoMemory-clause-prepared g c = λ files agree. prepared_lacking task_way _ files _ _ _ c.requires

pub returns-in_ok-list_records-in-Ok-ReadUnified2-clause-prepared : goal.returns-in_ok-list_records-in-Ok-ReadUnified2-clause-prepared
returns-in_ok-list_records-in-Ok-ReadUnified2-clause-prepared g c = λ files agree.
    prepared_listed {P = g.row.M-Made.Denot} _ c.in-Ok-ReadUnified2.file.now files _ _ c.in_ok-list_records-in-Ok-ReadUnified2.field-0 _
    (rw c.in-Ok-ReadUnified2.field-0-is at c.in-Ok-ReadUnified2.ensures) c.requires
    (c.in_ok-list_records-in-Ok-ReadUnified2.ensures.lists files agree)

pub returns-in_err-list_records-in-Ok-ReadUnified2-clause-prepared : goal.returns-in_err-list_records-in-Ok-ReadUnified2-clause-prepared
returns-in_err-list_records-in-Ok-ReadUnified2-clause-prepared g c = λ files agree.
    let p = err_from_is_err_and c.from_residual.result c.from_residual.ensures.1 in
    rw (p.1, p.2) (prepared_unlisted (task_way {P = g.row.M-Made.Denot}) _ c.in-Ok-ReadUnified2.file.now files _ _ c.in_err-list_records-in-Ok-ReadUnified2.field-0.0 c.args.warnings.now
    (rw c.in-Ok-ReadUnified2.field-0-is at c.in-Ok-ReadUnified2.ensures) c.requires
    (c.in_err-list_records-in-Ok-ReadUnified2.ensures.lists files agree))

pub returns-in_ok-prepare_run-in-Ok-Run-clause-prepared : goal.returns-in_ok-prepare_run-in-Ok-Run-clause-prepared
returns-in_ok-prepare_run-in-Ok-Run-clause-prepared g c = λ files agree.
    let asked = rw c.in-Ok-Run.field-0-is at c.in-Ok-Run.ensures in
    rw asked (task_ready _ files _ _ c.in_ok-prepare_run-in-Ok-Run.field-0 _ (c.in_ok-prepare_run-in-Ok-Run.ensures.prepared files agree))

pub returns-in_err-prepare_run-in-Ok-Run-clause-prepared : goal.returns-in_err-prepare_run-in-Ok-Run-clause-prepared
returns-in_err-prepare_run-in-Ok-Run-clause-prepared g c = λ files agree.
    let asked = rw c.in-Ok-Run.field-0-is at c.in-Ok-Run.ensures in
    let p = err_from_is_err_and c.from_residual-in_err-prepare_run-in-Ok-Run.result c.from_residual-in_err-prepare_run-in-Ok-Run.ensures.1 in
    rw (p.1, p.2, asked) (task_stopped (way_for {P = g.row.M-Made.Denot}) (task_way {P = g.row.M-Made.Denot}) _ files _ _ c.in_err-prepare_run-in-Ok-Run.field-0.0 _
    (c.in_err-prepare_run-in-Ok-Run.ensures.prepared files agree))

-- the host didn't fail at a file, or that stopped it
pub returns-in_ok-list_records-in-Ok-ReadUnified2-clause-causes : goal.returns-in_ok-list_records-in-Ok-ReadUnified2-clause-causes
returns-in_ok-list_records-in-Ok-ReadUnified2-clause-causes g c = ready_early _ _ _ _ (c.in_ok-list_records-in-Ok-ReadUnified2.ensures.quiet refl)

pub returns-in_err-list_records-in-Ok-ReadUnified2-clause-causes : goal.returns-in_err-list_records-in-Ok-ReadUnified2-clause-causes
returns-in_err-list_records-in-Ok-ReadUnified2-clause-causes g c =
    let p = err_from_is_err_and c.from_residual.result c.from_residual.ensures.1 in
    let listed = c.in_err-list_records-in-Ok-ReadUnified2.ensures in
    rw (p.1, p.2) (stopped_early _ _ _ c.in_err-list_records-in-Ok-ReadUnified2.field-0.0 listed.cause listed.quiet)

pub returns-in_ok-prepare_run-in-Ok-Run-clause-causes : goal.returns-in_ok-prepare_run-in-Ok-Run-clause-causes
returns-in_ok-prepare_run-in-Ok-Run-clause-causes g c = ready_early _ _ _ _ (c.in_ok-prepare_run-in-Ok-Run.ensures.causes.quiet refl)

pub returns-in_err-prepare_run-in-Ok-Run-clause-causes : goal.returns-in_err-prepare_run-in-Ok-Run-clause-causes
returns-in_err-prepare_run-in-Ok-Run-clause-causes g c =
    let p = err_from_is_err_and c.from_residual-in_err-prepare_run-in-Ok-Run.result c.from_residual-in_err-prepare_run-in-Ok-Run.ensures.1 in
    let causes = c.in_err-prepare_run-in-Ok-Run.ensures.causes in
    rw (p.1, p.2) (stopped_early _ _ _ c.in_err-prepare_run-in-Ok-Run.field-0.0 causes.cause causes.quiet)
