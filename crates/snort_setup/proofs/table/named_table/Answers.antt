-- A table that was not loaded ends the setup as by files that agree with
-- the host: they lack it unless the host failed, or have it too large.
use Rattle.edge_io.specs.Told.{Rose}
use Rattle.snort_setup.proofs.Seeing.{cause_agreed, table_unloaded}
use Rattle.snort_setup.proofs.table.named_table.Goals as goal

pub returns-clause-gives : goal.returns-clause-gives
returns-clause-gives g c = λ files agree.
    let host = c.load.new.self in
    let rose = Rose (g.H.Host.faults c.args.host.now) (g.H.Host.faults host) in
    table_unloaded c.args.name.now files rose c.in-Err.fault c.table_stop.result
    (λ is. cause_agreed rose (g.H.Host.contents c.args.host.now) (g.H.Host.contents host) (g.H.Host.left host) (g.H.Host.agrees host) (g.H.Host.left_of host) c.args.name.now files
    (g.met.H.Host.as_told host) c.load.ensures.same_contents agree (c.in-Err.ensures.failed is))
    (λ is. c.in-Err.ensures.agreed_large is files agree)
    (rw c.as_bytes-in-Err.ensures.value at c.table_stop.ensures)
