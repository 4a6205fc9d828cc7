-- The texts of `Texts::none` are those of no rules and no classes, by which a run without a
-- configuration copies: `run-bare`.
use Rattle.snort_eve.specs.Asking.{wanted_facts}
use Rattle.snort_eve.specs.Texts.{texts_of}
use Rattle.snort_eve.proofs.Configured.{run-bare}
use Rattle.snort_eve.proofs.run.copy_bare.Goals as goal

pub returns-clause-runs : goal.returns-clause-runs
returns-clause-runs g c =
    run-bare (texts_of c.none.result) (wanted_facts c.args.wanted.now) (g.H.Host.agrees c.copy_by.new.host) (g.A.Sink.written c.args.alerts.now) (g.A.Sink.written c.copy_by.new.alerts)
    c.copy_by.result c.none.ensures c.copy_by.ensures.runs
