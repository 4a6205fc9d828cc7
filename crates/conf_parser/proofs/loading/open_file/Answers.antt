-- A file within the limit is opened with its lines; one that is too large is refused
-- at the line that includes it, and one that the host didn't give is asked for.
use Rattle.std.proofs.Common.{ℕ, List, sym, ap, subst, ◌∙◌}
use Rattle.edge_io.specs.Told.{Rose}
use Rattle.conf_parser.specs.declared.reading.Opened.{Opened}
use Rattle.conf_parser.specs.Reading.{file_count, file_read}
use Rattle.conf_parser.specs.Loading.{Goes, LoadsFile, opened_of, opened_count, opened_next}
use Rattle.conf_parser.proofs.Readings.Opening.{goes-opened, unloaded, stops-unloaded}
use Rattle.conf_parser.proofs.Readings.Seeing.{fault_cause}
use Rattle.conf_parser.proofs.loading.open_file.Goals as goal

pub returns-in_ok-opened-in-Ok-clause-goes : goal.returns-in_ok-opened-in-Ok-clause-goes
returns-in_ok-opened-in-Ok-clause-goes g c = λ seen may.
    subst (λ (o : Opened). Goes seen (file_count c.args.read) (opened_count o) (λ contents. file_read contents c.args.left c.args.name c.args.at c.args.read) (opened_next c.args.left o))
    (sym (c.in_ok-opened-in-Ok.ensures ∙ ap (opened_of c.args.left c.args.name c.args.read) c.bytes-in-Ok-2.ensures))
    (goes-opened seen c.args.left c.args.name c.args.at c.args.read c.in-Ok.bytes c.requires.left (rw c.bytes.ensures at (c.in-Ok.ensures.loads seen may)) c.in-Ok.ensures.within)

pub returns-in-Err-clause-goes : goal.returns-in-Err-clause-goes
returns-in-Err-clause-goes g c = λ seen may.
    stops-unloaded seen c.args.left c.args.name c.args.at c.args.read c.in-Err.fault c.load_stop.result c.requires.left
    (subst (λ (n : List ℕ). LoadsFile seen n (unloaded c.in-Err.fault)) c.bytes.ensures (c.in-Err.ensures.loads seen may))
    c.load_stop.ensures

pub returns-in-Err-clause-cause : goal.returns-in-Err-clause-cause
returns-in-Err-clause-cause g c =
    fault_cause (Rose (g.H.Host.faults c.args.host.now) (g.H.Host.faults c.file_bytes.new.host))
    (g.H.Host.contents c.args.host.now) c.args.name c.args.at c.args.read.output c.in-Err.fault c.load_stop.result
    (rw c.bytes.ensures at c.in-Err.ensures.failed) c.load_stop.ensures
