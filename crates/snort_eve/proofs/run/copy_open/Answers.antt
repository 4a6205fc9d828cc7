-- What is left of a file that was just opened is all of it, so that what `copy_records` says of the bytes left holds of the
-- file, by each way that copying ends (`file-copied`).
use Rattle.std.proofs.Common.{◌≡◌, List, ℕ, sym, subst}
use Rattle.snort_eve.specs.declared.outcome.Outcome.{Outcome}
use Rattle.edge_io.specs.Told.{Rose}
use Rattle.snort_eve.specs.Runs.{OnUnread, UnlessUnread}
use Rattle.snort_eve.proofs.Running.{FileRuns, file-copied, on-unread, unless-unread}
use Rattle.snort_eve.proofs.run.copy_open.Goals as goal

pub returns-clause-runs : goal.returns-clause-runs
returns-clause-runs g c opened =
    subst (λ (o : Outcome). FileRuns (g.F.InputForm.means c.args.form.now) (g.H.Host.agrees c.copy_records.new.host)
    c.args.name (g.A.Sink.written c.args.alerts.now)
    (g.A.Sink.written c.copy_records.new.alerts) o)
    (sym c.outcome_of.ensures)
    (file-copied (g.F.InputForm.means c.args.form.now) c.args.name (g.H.Host.agrees c.copy_records.new.host)
    (g.H.Host.left_of c.args.host.now) _ _ c.copy_records.result
    (λ files a. opened files (c.copy_records.ensures.earlier files a))
    c.copy_records.ensures.copies c.copy_records.ensures.stops c.copy_records.ensures.long)

pub returns-clause-unread : goal.returns-clause-unread
returns-clause-unread g c =
    let cause = λ (name : List ℕ). Rose (g.H.Host.faults c.args.host.now) (g.H.Host.faults c.copy_records.new.host) in
    subst (λ (o : Outcome). OnUnread o cause) (sym c.outcome_of.ensures)
    (on-unread cause c.args.name c.copy_records.result c.copy_records.ensures.unread)

pub returns-clause-quiet : goal.returns-clause-quiet
returns-clause-quiet g c =
    let same = g.H.Host.faults c.copy_records.new.host ≡ g.H.Host.faults c.args.host.now in
    subst (λ (o : Outcome). UnlessUnread o same) (sym c.outcome_of.ensures)
    (unless-unread same c.args.name c.copy_records.result c.copy_records.ensures.quiet)
