-- A file that was loaded has the bytes that the files have by its name, and so their lines; one that wasn't stops the run
-- for the reason that `load` tells. Of the host its count of faults alone may change.
use Rattle.std.proofs.Common.{ℕ, List, Some, Err, sym, ap, subst, ◌∙◌, arith}
use Rattle.edge_io.specs.Told.{Rose}
use Rattle.edge_io.specs.declared.host.LoadFault.{LoadFault}
use Rattle.snort_engine.specs.Steps.Preparing.{StopsAtFile}
use Rattle.snort_engine.proofs.Courses.Loaded.{file_listed, file_unloaded}
use Rattle.snort_engine.proofs.Headline.Quiet.{file_uncut}
use Rattle.snort_engine.proofs.Headline.Seeing.{cause_by, loaded_only}
use Rattle.snort_engine.proofs.listing.list_records.Goals as goal

pub returns-in-Ok-clause-lists : goal.returns-in-Ok-clause-lists
returns-in-Ok-clause-lists g c = λ files agree.
    let whole = rw c.new-bytes.ensures.len at (c.in-Ok.ensures.agreed files agree) in
    file_listed c.args.name.now c.deref.result.now files (Rose (g.H.Host.faults c.args.host.now) (g.H.Host.faults c.load.new.self)) c.lines_of.result
    (whole ∙ ap Some (sym c.deref.ensures.value))
    (omega (arith, c.in-Ok.ensures.within, c.deref.ensures.len, c.new-bytes.ensures.len))
    c.lines_of.ensures

pub returns-clause-lists : goal.returns-clause-lists
returns-clause-lists g c = λ files agree.
    let host = c.load.new.self in
    let failed =
    cause_by g.H.Host c.args.host.now host c.args.name.now (Rose (g.H.Host.faults c.args.host.now) (g.H.Host.faults host))
    (Some files) (g.met.H.Host.as_told host) c.in-Err.ensures.same_contents agree in
    file_unloaded c.args.name.now files (Rose (g.H.Host.faults c.args.host.now) (g.H.Host.faults c.load.new.self))
    c.in-Err.fault c.file_stop.result
    (subst (λ (name : List ℕ). StopsAtFile name c.in-Err.fault c.file_stop.result) c.as_bytes.ensures.value c.file_stop.ensures)
    (λ is. c.in-Err.ensures.agreed_large (ap (λ (why : LoadFault). Err why) is) files agree)
    (λ is. failed (c.in-Err.ensures.failed (ap (λ (why : LoadFault). Err why) is)))

-- the host is as before, but for its count
pub returns-in-Ok-clause-host : goal.returns-in-Ok-clause-host
returns-in-Ok-clause-host g c =
    loaded_only g.H.Host c.args.host.now c.load.new.self c.in-Ok.ensures.same_contents c.in-Ok.ensures.earlier
    c.in-Ok.ensures.same_left c.in-Ok.ensures.same_left_of c.in-Ok.ensures.same_opens c.in-Ok.ensures.later

pub returns-clause-host : goal.returns-clause-host
returns-clause-host g c =
    loaded_only g.H.Host c.args.host.now c.load.new.self c.in-Err.ensures.same_contents c.in-Err.ensures.earlier
    c.in-Err.ensures.same_left c.in-Err.ensures.same_left_of c.in-Err.ensures.same_opens c.in-Err.ensures.later

pub returns-in-Ok-clause-quiet : goal.returns-in-Ok-clause-quiet
returns-in-Ok-clause-quiet g c = λ uncut. c.in-Ok.ensures.unfailed (λ failed. cc)

pub returns-clause-quiet : goal.returns-clause-quiet
returns-clause-quiet g c = λ uncut. c.in-Err.ensures.unfailed (file_uncut _ _ c.in-Err.fault c.file_stop.result c.file_stop.ensures uncut)
