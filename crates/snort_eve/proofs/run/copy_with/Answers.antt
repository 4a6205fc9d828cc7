-- The files that agree in the end agreed when the configuration was read, so that its texts are theirs (`run-ready`); where
-- it isn't ready, nothing is written and the stop tells why (`run-halted`).
use Rattle.std.proofs.Common.{◌≡◌, ◌⊎◌, List, ℕ, Some, sym, subst, ◌∙◌}
use Rattle.edge_io.specs.Files.{Lacks}
use Rattle.edge_io.specs.Told.{Rose}
use Rattle.snort_eve.specs.declared.outcome.Outcome.{Outcome}
use Rattle.snort_eve.specs.Asking.{conf_facts, wanted_facts}
use Rattle.snort_eve.specs.Runs.{OnUnread, UnlessShort}
use Rattle.snort_eve.proofs.Configured.{LinesRun, halted-cause, halted-quiet, halted-written, run-halted, run-ready, short-weaker}
use Rattle.snort_eve.proofs.run.copy_with.Goals as goal

pub returns-in-Ok-clause-runs : goal.returns-in-Ok-clause-runs
returns-in-Ok-clause-runs g c =
    run-ready c.in-Ok.texts (conf_facts c.args.conf.now) (wanted_facts c.args.wanted.now) (g.H.Host.agrees c.read_texts.new.host) (g.H.Host.agrees c.copy_by.new.host)
    (g.A.Sink.written c.args.alerts.now) (g.A.Sink.written c.copy_by.new.alerts) c.copy_by.result c.in-Ok.ensures.given c.copy_by.ensures.earlier c.copy_by.ensures.runs

pub returns-in-Ok-clause-quiet : goal.returns-in-Ok-clause-quiet
returns-in-Ok-clause-quiet g c =
    short-weaker (g.H.Host.faults c.copy_by.new.host ≡ g.H.Host.faults c.read_texts.new.host) (g.H.Host.faults c.copy_by.new.host ≡ g.H.Host.faults c.args.host.now)
    c.copy_by.result (λ same. same ∙ c.in-Ok.ensures.quiet) c.copy_by.ensures.quiet

pub returns-in-Err-clause-runs : goal.returns-in-Err-clause-runs
returns-in-Err-clause-runs g c =
    subst (λ (o : Outcome). LinesRun (Some (conf_facts c.args.conf.now)) (wanted_facts c.args.wanted.now)
    (g.H.Host.agrees c.read_texts.new.host) (g.A.Sink.written c.args.alerts.now) (g.A.Sink.written c.args.alerts.now) o)
    (sym c.halted.ensures)
    (run-halted c.in-Err.stop (conf_facts c.args.conf.now) (wanted_facts c.args.wanted.now)
    (g.H.Host.agrees c.read_texts.new.host) (g.A.Sink.written c.args.alerts.now) c.in-Err.ensures.given)

pub returns-in-Err-clause-unread : goal.returns-in-Err-clause-unread
returns-in-Err-clause-unread g c =
    let rose = Rose (g.H.Host.faults c.args.host.now) (g.H.Host.faults c.read_texts.new.host) in
    let contents = g.H.Host.contents c.args.host.now in
    subst (λ (o : Outcome). OnUnread o (λ (name : List ℕ). rose ⊎ Lacks contents name)) (sym c.halted.ensures) (halted-cause rose contents c.in-Err.stop c.in-Err.ensures.cause)

pub returns-in-Err-clause-quiet : goal.returns-in-Err-clause-quiet
returns-in-Err-clause-quiet g c =
    let same = g.H.Host.faults c.read_texts.new.host ≡ g.H.Host.faults c.args.host.now in
    subst (λ (o : Outcome). UnlessShort o same) (sym c.halted.ensures) (halted-quiet same c.in-Err.stop c.in-Err.ensures.quiet)

pub returns-in-Err-clause-unwritten : goal.returns-in-Err-clause-unwritten
returns-in-Err-clause-unwritten g c is = absurd (halted-written c.in-Err.stop (sym c.halted.ensures ∙ is))
