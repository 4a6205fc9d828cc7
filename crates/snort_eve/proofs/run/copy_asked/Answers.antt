-- Words that are refused, or that ask for the usage, end the run with nothing written: `run-refused` and `run-help`.
use Rattle.snort_eve.proofs.Running.{run-refused, run-help}
use Rattle.snort_eve.proofs.run.copy_asked.Goals as goal

pub returns-in-None-clause-runs : goal.returns-in-None-clause-runs
returns-in-None-clause-runs g c = rw c.in-None.is (run-refused (g.H.Host.agrees c.args.host.now) (g.A.Sink.written c.args.alerts.now))

pub returns-in-Some-Help-clause-runs : goal.returns-in-Some-Help-clause-runs
returns-in-Some-Help-clause-runs g c =
    rw c.in-Some-Help.is (rw c.in-Some-Help.field-0-is (run-help (g.H.Host.agrees c.args.host.now) (g.A.Sink.written c.args.alerts.now)))
