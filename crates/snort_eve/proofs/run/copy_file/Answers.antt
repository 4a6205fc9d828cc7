-- Of a file that can't be opened nothing is written, which is a beginning of whatever lines it has: `file-unopened`.
use Rattle.snort_eve.proofs.Running.{file-unopened}
use Rattle.snort_eve.proofs.run.copy_file.Goals as goal

pub returns-in-Err-clause-runs : goal.returns-in-Err-clause-runs
returns-in-Err-clause-runs g c =
    file-unopened (g.F.InputForm.means c.args.form.now) (g.H.Host.agrees c.open.new.self) c.args.name (g.A.Sink.written c.args.alerts.now)
    (g.met.F.InputForm.nothing c.args.form.now)
