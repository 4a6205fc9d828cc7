-- Texts that are made are those of the setup that was read, and only want of memory may come between; a stop of `read_rules`
-- is handed on, with what is known of it.
use Rattle.edge_io.specs.Told.{Rose}
use Rattle.std.proofs.Common.{◌≡◌}
use Rattle.snort_setup.specs.Whole.{ready_of}
use Rattle.snort_eve.specs.Asking.{conf_facts}
use Rattle.snort_eve.proofs.Configured.{given-as, quiet-as, texts-given, texts-cause, texts-quiet}
use Rattle.snort_eve.proofs.conf.read_texts.Goals as goal

pub returns-in-Ok-clause-given : goal.returns-in-Ok-clause-given
returns-in-Ok-clause-given g c files a =
    texts-given (conf_facts c.args.conf.now) files (ready_of c.in-Ok.setup) c.texts_of.result (c.in-Ok.ensures.given files a) c.texts_of.ensures

pub returns-in-Ok-clause-cause : goal.returns-in-Ok-clause-cause
returns-in-Ok-clause-cause g c =
    texts-cause (Rose (g.H.Host.faults c.args.host.now) (g.H.Host.faults c.read_rules.new.host)) (g.H.Host.contents c.args.host.now) (ready_of c.in-Ok.setup) c.texts_of.result c.texts_of.ensures

pub returns-in-Ok-clause-quiet : goal.returns-in-Ok-clause-quiet
returns-in-Ok-clause-quiet g c =
    texts-quiet (g.H.Host.faults c.read_rules.new.host ≡ g.H.Host.faults c.args.host.now) (ready_of c.in-Ok.setup) c.texts_of.result c.in-Ok.ensures.quiet c.texts_of.ensures

pub returns-in-Err-clause-given : goal.returns-in-Err-clause-given
returns-in-Err-clause-given g c files a = given-as (conf_facts c.args.conf.now) files c.in-Err.stop (c.in-Err.ensures.given files a)

pub returns-in-Err-clause-quiet : goal.returns-in-Err-clause-quiet
returns-in-Err-clause-quiet g c = quiet-as (g.H.Host.faults c.read_rules.new.host ≡ g.H.Host.faults c.args.host.now) c.in-Err.stop c.in-Err.ensures.quiet
