-- The files that agree in the end agreed when the capture was read, so that its first record is theirs (`run-after`); where
-- it doesn't tell one, nothing is written and the stop tells why (`run-undated`).
use Rattle.std.proofs.Common.{◌≡◌, ◌⊎◌, List, ℕ, Some, sym, subst, ◌∙◌}
use Rattle.edge_io.specs.Files.{Lacks}
use Rattle.edge_io.specs.Told.{Rose}
use Rattle.snort_eve.specs.declared.outcome.Outcome.{Outcome}
use Rattle.snort_eve.specs.Asking.{of_capture, wanted_facts}
use Rattle.snort_eve.specs.Runs.{OnUnread, UnlessUnread}
use Rattle.snort_eve.proofs.Configured.{InputRun, run-undated, undated-cause, undated-quiet, undated-written}
use Rattle.snort_eve.proofs.run.copy_after.Goals as goal

pub returns-in-Err-clause-runs : goal.returns-in-Err-clause-runs
returns-in-Err-clause-runs g c =
    subst (λ (o : Outcome). InputRun (Some (of_capture c.args.capture.now)) (wanted_facts c.args.wanted.now) (g.H.Host.agrees c.first_moment.new.host)
    (g.A.Sink.written c.args.alerts.now) (g.A.Sink.written c.args.alerts.now) o)
    (sym c.undated.ensures)
    (run-undated c.args.capture c.in-Err.stop (wanted_facts c.args.wanted.now) (g.H.Host.agrees c.first_moment.new.host) (g.A.Sink.written c.args.alerts.now) c.in-Err.ensures.gives)

pub returns-in-Err-clause-unread : goal.returns-in-Err-clause-unread
returns-in-Err-clause-unread g c =
    let rose = Rose (g.H.Host.faults c.args.host.now) (g.H.Host.faults c.first_moment.new.host) in
    let contents = g.H.Host.contents c.args.host.now in
    let cause = λ (name : List ℕ). rose ⊎ Lacks contents name in
    subst (λ (o : Outcome). OnUnread o cause) (sym c.undated.ensures) (undated-cause cause c.args.capture c.in-Err.stop c.in-Err.ensures.unread)

pub returns-in-Err-clause-quiet : goal.returns-in-Err-clause-quiet
returns-in-Err-clause-quiet g c =
    let same = g.H.Host.faults c.first_moment.new.host ≡ g.H.Host.faults c.args.host.now in
    subst (λ (o : Outcome). UnlessUnread o same) (sym c.undated.ensures) (undated-quiet same c.args.capture c.in-Err.stop c.in-Err.ensures.quiet)

pub returns-in-Err-clause-unwritten : goal.returns-in-Err-clause-unwritten
returns-in-Err-clause-unwritten g c is = absurd (undated-written c.args.capture c.in-Err.stop (sym c.undated.ensures ∙ is))
