-- No variable that words define lacks a name (`asked_named`), so that `copy_asked` may be called; where memory is lacking
-- before it, nothing is written.
use Rattle.std.proofs.Common.{map, subst, sym}
use Rattle.std.specs.Prelude.{string_bytes}
use Rattle.snort_eve.specs.Asking.{AskNamed, asked_of}
use Rattle.snort_eve.proofs.Running.{run-unbegun}
use Rattle.snort_eve.proofs.Named.{asked_named}
use Rattle.snort_eve.proofs.run.copy_named.Goals as goal

pub copy_asked-requires : goal.copy_asked-requires
copy_asked-requires g c = subst AskNamed (sym c.in-Ok.ensures) (asked_named (map string_bytes c.args.words.now))

pub returns-in-Err-clause-runs : goal.returns-in-Err-clause-runs
returns-in-Err-clause-runs g c = run-unbegun (asked_of (map string_bytes c.args.words.now)) (g.H.Host.agrees c.args.host.now) (g.A.Sink.written c.args.alerts.now)
