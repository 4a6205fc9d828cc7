-- Where no pattern is made none is refused, so that what `read_setup` gives is the setup without any refusal: `setup-given`.
use Rattle.std.proofs.Common.{Some}
use Rattle.edge_io.specs.Told.{Rose}
use Rattle.snort_setup.specs.Whole.{ready_of}
use Rattle.snort_eve.specs.Asking.{conf_facts}
use Rattle.snort_eve.proofs.Configured.{setup-given}
use Rattle.snort_eve.proofs.conf.read_rules.Goals as goal

pub returns-clause-given : goal.returns-clause-given
returns-clause-given g c files a =
    setup-given ready_of (conf_facts c.args.conf.now) files (Rose (g.H.Host.faults c.args.host.now) (g.H.Host.faults c.read_setup.new.host)) c.read_setup.result c.read_setup.new.warnings
    (rw c.setup_words.ensures at (c.read_setup.ensures.agreed files a))

pub returns-clause-earlier : goal.returns-clause-earlier
returns-clause-earlier g c files a = c.read_setup.ensures.only_loaded.earlier (Some files) a
