-- Where the reservation fails, memory was wanted.
use Rattle.std.proofs.lemmas.Result.{err_from_is_err_and}
use Rattle.edge_io.specs.Files.{left_by}
use Rattle.pcap_input.proofs.Pieces.Steps.{lacking_less}
use Rattle.pcap_input.proofs.reader.read_bytes.Goals as goal

pub returns-in_err-bytes-clause-partial : goal.returns-in_err-bytes-clause-partial
returns-in_err-bytes-clause-partial g c = λ seen may.
    let p = err_from_is_err_and c.from_residual.result c.from_residual.ensures.1 in
    rw (p.1, p.2) (lacking_less c.args.at c.args.len (left_by (g.H.Host.left_of c.args.host.now) seen) (λ none. let no = c.in_err-bytes.ensures.succeeds none in cc))
