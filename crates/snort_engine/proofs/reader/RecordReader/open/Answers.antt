-- What was opened, by the answers of both readers.
use Rattle.std.proofs.Common.{Some, Err, ap, ◌∙◌, ⊎_elim}
use Rattle.std.proofs.lemmas.Result.{err_from_is_err_and}
use Rattle.edge_io.specs.Files.{left_by}
use Rattle.edge_io.specs.Told.{Rose}
use Rattle.snort_engine.proofs.Records.Opening.{savefile_opens, blocks_open, blocks_refused, savefile_refused, blocks_number, once_opened, once_refused, opened_again}
use Rattle.snort_engine.proofs.Headline.Quiet.{savefile_unfailed, blocks_unfailed, otherwise_unfailed}
use Rattle.snort_engine.proofs.Headline.Seeing.{cause_by}
use Rattle.snort_engine.proofs.reader.RecordReader.open.Goals as goal

pub returns-in-Ok-clause-opens : goal.returns-in-Ok-clause-opens
returns-in-Ok-clause-opens g c = λ files agree.
    let takes = c.in-Ok.ensures.seen_takes (Some files) agree in
    ⊎_elim (λ head. savefile_opens files c.args.name.now c.in-Ok.reader _ head) (λ nothing. let apart = nothing.0 in absurd cc) takes

pub returns-then-not-begins_otherwise-clause-opens : goal.returns-then-not-begins_otherwise-clause-opens
returns-then-not-begins_otherwise-clause-opens g c = λ files agree.
    let gives = c.in-Err.ensures.seen_gives (Some files) agree in
    let takes = c.in-Err.ensures.seen_takes (Some files) agree in
    savefile_refused files c.args.name.now c.in-Err.why c.from.result _ c.from.ensures (c.begins_otherwise.ensures.not_otherwise c.if-not-begins_otherwise.true) gives takes

pub returns-clause-opens : goal.returns-clause-opens
returns-clause-opens g c = λ files agree.
    let takes = c.in_ok-reader.ensures.seen_takes (Some files) agree in
    ⊎_elim (λ head. blocks_open files c.args.name.now c.in_ok-reader.reader _ head) (λ nothing. let apart = nothing.0 in absurd cc) takes

pub returns-clause-fresh : goal.returns-clause-fresh
returns-clause-fresh g c = (
  c.in_ok-reader.ensures.fresh,
  ⊎_elim (λ head. blocks_number c.args.name.now c.in_ok-reader.reader _ head) (λ nothing. let apart = nothing.0 in absurd cc) c.in_ok-reader.ensures.takes,
)

pub returns-in_err-reader-clause-opens : goal.returns-in_err-reader-clause-opens
returns-in_err-reader-clause-opens g c = λ files agree.
    let p = err_from_is_err_and c.from_residual.result c.from_residual.ensures.1 in
    let first = rw (c.begins_otherwise.ensures.otherwise c.if-not-begins_otherwise.false) at (c.in-Err.ensures.seen_gives (Some files) (c.in_err-reader.ensures.earlier (Some files) agree)) in
    let gives = c.in_err-reader.ensures.seen_gives (Some files) agree in
    let takes = c.in_err-reader.ensures.seen_takes (Some files) agree in
    rw p.1 (blocks_refused files c.args.name.now c.in_err-reader.field-0.0 p.0 _ p.2 first gives takes)

-- how often it was opened
pub returns-in-Ok-clause-opened : goal.returns-in-Ok-clause-opened
returns-in-Ok-clause-opened g c = λ seen may. once_opened seen c.args.name.now c.in-Ok.reader _ (g.H.Host.opens c.args.host.now) _ c.in-Ok.ensures.counted (c.in-Ok.ensures.seen_gives seen may)

pub returns-then-not-begins_otherwise-clause-opened : goal.returns-then-not-begins_otherwise-clause-opened
returns-then-not-begins_otherwise-clause-opened g c = λ seen may.
    let host = c.open.new.host in
    let rose = Rose (g.H.Host.faults c.args.host.now) (g.H.Host.faults host) in
    once_refused seen c.args.name.now c.in-Err.why rose (g.H.Host.opens c.args.host.now) _ c.in-Err.ensures.counted (c.begins_otherwise.ensures.not_otherwise c.if-not-begins_otherwise.true)
    (λ is. cause_by g.H.Host c.args.host.now host c.args.name.now rose seen (g.met.H.Host.as_told host) c.in-Err.ensures.same_contents may (c.in-Err.ensures.failed (ap Err is)))
    (c.in-Err.ensures.seen_gives seen may)

pub returns-in_err-reader-clause-opened : goal.returns-in_err-reader-clause-opened
returns-in_err-reader-clause-opened g c = λ seen may.
    let first = c.in_err-reader.ensures.earlier seen may in
    opened_again seen c.args.name.now c.in-Err.why (left_by (g.H.Host.left_of c.open.new.host) seen) _
    (g.H.Host.opens c.args.host.now) (g.H.Host.opens c.open.new.host) _ c.in-Err.ensures.counted c.in_err-reader.ensures.counted
    (c.begins_otherwise.ensures.otherwise c.if-not-begins_otherwise.false)
    (c.in-Err.ensures.seen_gives seen first) (c.in-Err.ensures.seen_takes seen first)

pub returns-clause-opened : goal.returns-clause-opened
returns-clause-opened g c = λ seen may.
    let first = c.in_ok-reader.ensures.earlier seen may in
    opened_again seen c.args.name.now c.in-Err.why (left_by (g.H.Host.left_of c.open.new.host) seen) _
    (g.H.Host.opens c.args.host.now) (g.H.Host.opens c.open.new.host) _ c.in-Err.ensures.counted c.in_ok-reader.ensures.counted
    (c.begins_otherwise.ensures.otherwise c.if-not-begins_otherwise.false)
    (c.in-Err.ensures.seen_gives seen first) (c.in-Err.ensures.seen_takes seen first)

-- where it didn't fail, the host counted nothing
pub returns-then-not-begins_otherwise-clause-quiet : goal.returns-then-not-begins_otherwise-clause-quiet
returns-then-not-begins_otherwise-clause-quiet g c = λ unfailed. c.in-Err.ensures.quiet (savefile_unfailed _ _ c.in-Err.why c.from.result c.from.ensures unfailed)

pub returns-in_err-reader-clause-quiet : goal.returns-in_err-reader-clause-quiet
returns-in_err-reader-clause-quiet g c =
    let p = err_from_is_err_and c.from_residual.result c.from_residual.ensures.1 in
    rw p.1 (λ unfailed.
    c.in_err-reader.ensures.quiet (blocks_unfailed _ _ c.in_err-reader.field-0.0 p.0 p.2 unfailed)
    ∙ c.in-Err.ensures.quiet (otherwise_unfailed _ c.in-Err.why (c.begins_otherwise.ensures.otherwise c.if-not-begins_otherwise.false)))

pub returns-clause-quiet : goal.returns-clause-quiet
returns-clause-quiet g c = λ unfailed.
    c.in_ok-reader.ensures.quiet (λ failed. cc)
    ∙ c.in-Err.ensures.quiet (otherwise_unfailed _ c.in-Err.why (c.begins_otherwise.ensures.otherwise c.if-not-begins_otherwise.false))
