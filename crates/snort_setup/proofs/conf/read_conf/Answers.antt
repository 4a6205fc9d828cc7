-- A loading that stopped is a reading that stops, over files that agree
-- with the host: at a refused line, or at a file that is asked for.
use Rattle.std.proofs.Common.{Some, refl}
use Rattle.edge_io.specs.Told.{Rose}
use Rattle.snort_setup.specs.Words.{words_of}
use Rattle.snort_setup.proofs.Configuring.{conf-stopped-from}
use Rattle.snort_setup.proofs.conf.read_conf.Goals as goal

pub returns-in-Err-clause-ends : goal.returns-in-Err-clause-ends
returns-in-Err-clause-ends g c = λ files agree.
    conf-stopped-from {A = Unit {0}} (words_of c.args.words.now) files (Some files) c.in_ok-vars.vars refl c.in_ok-vars.ensures
    (Rose (g.H.Host.faults c.args.host.now) (g.H.Host.faults c.load-outcome.new.host)) c.load-outcome.new.vars c.load-outcome.new.out c.in_ok-warnings.field-0
    (rw (c.as_slice.ensures, c.as_slice-2.ensures) at c.in_ok-warnings.ensures) c.in-Err.stop c.conf_stop.result
    (rw c.as_slice-in-Err.ensures at c.conf_stop.ensures) (c.in-Err.ensures.reading_seen (Some files) agree) (c.in-Err.ensures.agreed files agree)
