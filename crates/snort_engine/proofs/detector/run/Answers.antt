-- The headline is put together in each way that a run goes: a capture is shown, a file's lines are told, or it stops before
-- either. What is told of a host may be seen of it, so `told` follows.
use Rattle.std.proofs.Common.{refl, ◌∙◌, arith}
use Rattle.edge_io.specs.Files.{left_by}
use Rattle.edge_io.specs.Told.{Rose}
use Rattle.edge_io.proofs.Hosts.Seeing.{seen_left}
use Rattle.snort_engine.specs.Steps.Preparing.{task_way}
use Rattle.snort_engine.specs.Steps.Showing.{plan_of}
use Rattle.snort_engine.specs.declared.prepare.Task.TheVariants.{Show, Tell}
use Rattle.snort_engine.proofs.Courses.FileWays.{listed_ends, no_host_stop, write_risen}
use Rattle.snort_engine.proofs.Headline.Quiet.{written_quiet}
use Rattle.snort_engine.proofs.Headline.Runs.{headline, stopped_run, shown_run, opens_made}
use Rattle.snort_engine.proofs.Headline.Seeing.{seen_agree, seen_ends, capture_cause_by, stop_cause_by, told_headline}
use Rattle.snort_engine.proofs.detector.run.Goals as goal

pub show_capture-outcome-requires-clause-plan : goal.show_capture-outcome-requires-clause-plan
show_capture-outcome-requires-clause-plan g c κs within =
    let ready = rw c.in-Ok-Show.field-0-is at c.in-Ok-Show.ensures.ready in
    ready.sound

pub returns-in-Ok-Show-clause-headline : goal.returns-in-Ok-Show-clause-headline
returns-in-Ok-Show-clause-headline g c = λ seen may.
    let first = c.prepare-prepared.new.host in
    let last = c.show_capture-outcome.new.host in
    let law = g.met.H.Host.as_told last in
    let before = c.show_capture-outcome.ensures.host.earlier seen may in
    let ready = rw c.in-Ok-Show.field-0-is at c.in-Ok-Show.ensures.ready in
    let causes = c.show_capture-outcome.ensures.causes in
    let still =
    seen_left (g.H.Host.left_of c.args.host.now) (g.H.Host.left_of first) seen c.prepare-prepared.ensures.host.left_of in
    headline _ _ _ _ _
    (shown_run (task_way {P = g.row.M-Made.Denot}) _ _ _ _ (Show c.in-Ok-Show.plan) _ c.show_capture-outcome.result
    c.prepare-prepared.new.warnings _ (c.matching_is_decided.ensures _)
    (record {
      middle = record {
        left = left_by (g.H.Host.left_of first) seen;
        opens = g.H.Host.opens c.prepare-prepared.new.host;
        host_faults = g.H.Host.faults c.prepare-prepared.new.host;
        alerts = g.A.Sink.written c.args.alerts.now;
      };
      prepared = λ files is.
          (rw c.in-Ok-Show.field-0-is at c.in-Ok-Show.ensures.prepared) files (seen_agree g.H.Host first seen files before is);
      faulty_words = λ none. c.in-Ok-Show.ensures.faulty_words none;
      fileless = c.in-Ok-Show.ensures.fileless;
      since = record {
        left = still;
        opens = c.prepare-prepared.ensures.host.opens;
        alerts = refl;
        later = c.prepare-prepared.ensures.host.later;
      };
      ends = λ matches tells files course is goes.
          seen_ends g.H.Host g.A.Sink first last c.args.alerts.now c.show_capture-outcome.new.alerts files course _ _ seen is
          (c.show_capture-outcome.ensures.ends matches
          (record { means = g.M.PatternMaker.means c.args.maker.now; find = ready.meant; tells = tells })
          files course (seen_agree g.H.Host last seen files may is) goes);
      write_fault = causes.write_fault;
      read_fault = λ matches failed.
          capture_cause_by g.H.Host first last c.in-Ok-Show.plan.source (plan_of matches c.in-Ok-Show.plan)
          (Rose (g.H.Host.faults first) (g.H.Host.faults last)) seen law
          c.show_capture-outcome.ensures.host.files may refl (causes.read_fault failed);
      quiet = λ uncut. causes.quiet uncut ∙ c.in-Ok-Show.ensures.causes.quiet refl;
      quiet_alerts = causes.quiet_alerts;
      opened = λ matches.
          rw c.prepare-prepared.ensures.host.opens at (c.show_capture-outcome.ensures.opened matches seen may);
      made_unopened = λ for_made.
          let made = (rw c.in-Ok-Show.field-0-is at c.in-Ok-Show.ensures.made) for_made in (
            opens_made _ c.in-Ok-Show.plan.source _ _ _ _ made
                (c.show_capture-outcome.ensures.opened (c.matching_is_decided.ensures (g.M.PatternMaker.means c.args.maker.now)).0
                seen may)
                ∙ c.prepare-prepared.ensures.host.opens,
            seen_left (g.H.Host.left_of first) (g.H.Host.left_of last) seen (c.show_capture-outcome.ensures.made_unopened made)
                ∙ still,
          );
      same_files = refl;
      counts = record {
        host = omega (arith, c.prepare-prepared.ensures.host.later, c.show_capture-outcome.ensures.host.later);
        alerts = causes.later_alerts;
        errors = omega (arith, c.tell_all-well.ensures.later, c.report.ensures.later);
      };
    })
    (record {
      middle = g.E.Sink.written c.tell_all-well.new.errors;
      at_middle = g.E.Sink.faults c.tell_all-well.new.errors;
      well = c.tell_all-well.result;
      later = c.tell_all-well.ensures.later;
      on = c.report.ensures.later;
      warned = rw c.as_slice.ensures at c.tell_all-well.ensures.tells;
      reports = rw (c.counts_due-told.ensures, c.name.ensures) at c.report.ensures.reports;
    }))

pub returns-in-Ok-Tell-clause-headline : goal.returns-in-Ok-Tell-clause-headline
returns-in-Ok-Tell-clause-headline g c = λ seen may.
    let first = c.prepare-prepared.new.host in
    let still = seen_left (g.H.Host.left_of c.args.host.now) (g.H.Host.left_of first) seen c.prepare-prepared.ensures.host.left_of in
    headline _ _ _ _ _
    (shown_run (task_way {P = g.row.M-Made.Denot}) _ _ _ _ (Tell c.in-Ok-Tell.lines) _ c.write_lines-outcome.result c.prepare-prepared.new.warnings _ (c.matching_is_decided.ensures _)
    (record {
      middle = record {
        left = left_by (g.H.Host.left_of first) seen;
        opens = g.H.Host.opens c.prepare-prepared.new.host;
        host_faults = g.H.Host.faults c.prepare-prepared.new.host;
        alerts = g.A.Sink.written c.args.alerts.now;
      };
      prepared = λ files is. (rw c.in-Ok-Tell.field-0-is at c.in-Ok-Tell.ensures.prepared) files (seen_agree g.H.Host first seen files may is);
      faulty_words = λ none. c.in-Ok-Tell.ensures.faulty_words none;
      fileless = c.in-Ok-Tell.ensures.fileless;
      since = record { left = still; opens = c.prepare-prepared.ensures.host.opens; alerts = refl; later = c.prepare-prepared.ensures.host.later };
      ends = λ matches tells files course is lists.
          listed_ends files course c.in-Ok-Tell.lines _ _ c.write_lines-outcome.result lists refl refl
          c.write_lines-outcome.ensures.whole c.write_lines-outcome.ensures.part c.write_lines-outcome.ensures.kind;
      write_fault = λ failed. write_risen c.write_lines-outcome.result c.write_lines-outcome.ensures.kind c.write_lines-outcome.ensures.write_fault failed;
      read_fault = λ matches failed. absurd (no_host_stop c.write_lines-outcome.result c.write_lines-outcome.ensures.kind failed);
      quiet = λ uncut. c.in-Ok-Tell.ensures.causes.quiet refl;
      quiet_alerts = written_quiet c.write_lines-outcome.result _ _ c.write_lines-outcome.ensures.kind c.write_lines-outcome.ensures.quiet;
      opened = λ matches. c.prepare-prepared.ensures.host.opens;
      made_unopened = λ for_made. (c.prepare-prepared.ensures.host.opens, still);
      same_files = refl;
      counts = record {
        host = c.prepare-prepared.ensures.host.later;
        alerts = c.write_lines-outcome.ensures.later;
        errors = omega (arith, c.tell_all-well.ensures.later, c.report-in-Ok-Tell.ensures.later);
      };
    })
    (record {
      middle = g.E.Sink.written c.tell_all-well.new.errors;
      at_middle = g.E.Sink.faults c.tell_all-well.new.errors;
      well = c.tell_all-well.result;
      later = c.tell_all-well.ensures.later;
      on = c.report-in-Ok-Tell.ensures.later;
      warned = rw c.as_slice.ensures at c.tell_all-well.ensures.tells;
      reports = c.report-in-Ok-Tell.ensures.reports;
    }))

pub returns-clause-headline : goal.returns-clause-headline
returns-clause-headline g c = λ seen may.
    let first = c.prepare-prepared.new.host in
    let still = seen_left (g.H.Host.left_of c.args.host.now) (g.H.Host.left_of first) seen c.prepare-prepared.ensures.host.left_of in
    headline _ _ _ _ _
    (stopped_run (task_way {P = g.row.M-Made.Denot}) _ _ _ _ c.in-Err.stop c.prepare-prepared.new.warnings _ (c.matching_is_decided.ensures _)
    (record {
      prepared = λ files is. c.in-Err.ensures.prepared files (seen_agree g.H.Host first seen files may is);
      cause = stop_cause_by g.H.Host c.args.host.now first (Rose (g.H.Host.faults c.args.host.now) (g.H.Host.faults first)) c.in-Err.stop seen (g.met.H.Host.as_told first)
          c.prepare-prepared.ensures.host.files may c.in-Err.ensures.causes.cause;
      faulty_words = λ none. c.in-Err.ensures.faulty_words none;
      fileless = c.in-Err.ensures.fileless;
      unopened = record { left = still; opens = c.prepare-prepared.ensures.host.opens; alerts = refl };
      quiet = c.in-Err.ensures.causes.quiet;
      quiet_alerts = refl;
      same_files = refl;
      counts = record { host = c.prepare-prepared.ensures.host.later; alerts = omega arith; errors = omega (arith, c.tell_all-well.ensures.later, c.report-in-Err.ensures.later) };
    })
    (record {
      middle = g.E.Sink.written c.tell_all-well.new.errors;
      at_middle = g.E.Sink.faults c.tell_all-well.new.errors;
      well = c.tell_all-well.result;
      later = c.tell_all-well.ensures.later;
      on = c.report-in-Err.ensures.later;
      warned = rw c.as_slice.ensures at c.tell_all-well.ensures.tells;
      reports = c.report-in-Err.ensures.reports;
    }))

pub returns-in-Ok-Show-clause-told : goal.returns-in-Ok-Show-clause-told
returns-in-Ok-Show-clause-told g c =
    told_headline g.H.Host g.A.Sink g.E.Sink _ _ c.args.host.now c.show_capture-outcome.new.host c.args.alerts.now
    c.show_capture-outcome.new.alerts c.args.errors.now c.report.new.errors _ _ _ g.met.H.Host.as_told
    (c.show_capture-outcome.ensures.host.files ∙ c.prepare-prepared.ensures.host.files) (returns-in-Ok-Show-clause-headline g c)

pub returns-in-Ok-Tell-clause-told : goal.returns-in-Ok-Tell-clause-told
returns-in-Ok-Tell-clause-told g c =
    told_headline g.H.Host g.A.Sink g.E.Sink _ _ c.args.host.now c.prepare-prepared.new.host c.args.alerts.now
    c.write_lines-outcome.new.alerts c.args.errors.now c.report-in-Ok-Tell.new.errors _ _ _ g.met.H.Host.as_told
    c.prepare-prepared.ensures.host.files (returns-in-Ok-Tell-clause-headline g c)

pub returns-clause-told : goal.returns-clause-told
returns-clause-told g c =
    told_headline g.H.Host g.A.Sink g.E.Sink _ _ c.args.host.now c.prepare-prepared.new.host c.args.alerts.now c.args.alerts.now c.args.errors.now c.report-in-Err.new.errors _ _ _ g.met.H.Host.as_told
    c.prepare-prepared.ensures.host.files (returns-clause-headline g c)
