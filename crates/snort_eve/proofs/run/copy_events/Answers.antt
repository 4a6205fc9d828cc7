-- In each branch it is known whether there is a configuration, so that the promise of the function that is called is what is
-- asked, of faults too (`fault-bare`, `fault-conf`).
use Rattle.std.proofs.Common.{◌≡◌, Option, ap, sym, subst}
use Rattle.std.specs.Prelude.{option_map}
use Rattle.snort_eve.specs.declared.words.Conf.{Conf}
use Rattle.snort_eve.specs.Asking.{IsNamed, conf_facts, wanted_facts}
use Rattle.snort_eve.proofs.Configured.{LinesRun, fault-bare, fault-conf}
use Rattle.snort_eve.proofs.run.copy_events.Goals as goal

pub copy_with-requires : goal.copy_with-requires
copy_with-requires g c = subst (λ (o : Option Conf). IsNamed (option_map conf_facts o)) c.in-Some.is c.requires

pub returns-in-None-clause-runs : goal.returns-in-None-clause-runs
returns-in-None-clause-runs g c =
    subst (λ (o : Option Conf). LinesRun (option_map conf_facts o) (wanted_facts c.args.wanted.now) (g.H.Host.agrees c.copy_bare.new.host)
    (g.A.Sink.written c.args.alerts.now) (g.A.Sink.written c.copy_bare.new.alerts) c.copy_bare.result)
    (sym c.in-None.is) c.copy_bare.ensures.runs

pub returns-in-None-clause-quiet : goal.returns-in-None-clause-quiet
returns-in-None-clause-quiet g c =
    fault-bare (g.H.Host.faults c.copy_bare.new.host ≡ g.H.Host.faults c.args.host.now) (wanted_facts c.args.wanted.now) c.copy_bare.result
    (ap (option_map conf_facts) c.in-None.is) c.copy_bare.ensures.quiet

pub returns-in-Some-clause-runs : goal.returns-in-Some-clause-runs
returns-in-Some-clause-runs g c =
    subst (λ (o : Option Conf). LinesRun (option_map conf_facts o) (wanted_facts c.args.wanted.now) (g.H.Host.agrees c.copy_with.new.host)
    (g.A.Sink.written c.args.alerts.now) (g.A.Sink.written c.copy_with.new.alerts) c.copy_with.result)
    (sym c.in-Some.is) c.copy_with.ensures.runs

pub returns-in-Some-clause-quiet : goal.returns-in-Some-clause-quiet
returns-in-Some-clause-quiet g c =
    fault-conf (g.H.Host.faults c.copy_with.new.host ≡ g.H.Host.faults c.args.host.now) (wanted_facts c.args.wanted.now) (conf_facts c.in-Some.conf) c.copy_with.result
    (ap (option_map conf_facts) c.in-Some.is) c.copy_with.ensures.quiet
