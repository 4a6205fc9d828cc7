-- What is asked of a run has a case with a year, one with a capture and one without either, and in each branch the case is
-- known: so the promise of the function that is called is what is asked, and of faults `copy_lines` and `copy_after` promise
-- no less (`fault-any`).
use Rattle.std.proofs.Common.{Option, sym, subst}
use Rattle.std.specs.Prelude.{option_map}
use Rattle.snort_eve.specs.Asking.{since_facts, wanted_facts}
use Rattle.snort_eve.specs.declared.words.Since.{Since as Kept}
use Rattle.snort_eve.proofs.Configured.{InputRun}
use Rattle.snort_eve.proofs.run.copy_wanted.Goals as goal

pub returns-in-None-clause-runs : goal.returns-in-None-clause-runs
returns-in-None-clause-runs g c =
    subst (λ (s : Option Kept). InputRun (option_map since_facts s) (wanted_facts c.args.wanted.now) (g.H.Host.agrees c.copy_events.new.host)
    (g.A.Sink.written c.args.alerts.now) (g.A.Sink.written c.copy_events.new.alerts) c.copy_events.result)
    (sym c.in-None.is) c.copy_events.ensures.runs
