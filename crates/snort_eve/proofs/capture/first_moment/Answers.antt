-- A file whose head was read has its first record (`of-savefile`), and one that begins as no savefile does that of its blocks
-- (`of-blocks`); another one is refused (`of-refused`).
use Rattle.std.proofs.Common.{Some, ⊎_elim}
use Rattle.snort_eve.proofs.FirstRecords.{of-savefile, of-blocks, of-refused}
use Rattle.snort_eve.proofs.capture.first_moment.Goals as goal

pub returns-in-Ok-clause-earlier : goal.returns-in-Ok-clause-earlier
returns-in-Ok-clause-earlier g c = λ files agree. c.in-Ok.ensures.earlier (Some files) (c.first_of_savefile.ensures.earlier files agree)

pub returns-in-Ok-clause-gives : goal.returns-in-Ok-clause-gives
returns-in-Ok-clause-gives g c = λ files agree.
    let first = c.first_of_savefile.ensures.earlier files agree in
    ⊎_elim (λ head. of-savefile files c.args.name.now c.in-Ok.reader _ c.first_of_savefile.result head
    (λ bytes has. c.in-Ok.ensures.seen_gives (Some files) first bytes has) (λ bytes has. c.in-Ok.ensures.seen_rest (Some files) first bytes has)
    (c.first_of_savefile.ensures.gives files agree))
    (λ nothing. let apart = nothing.0 in absurd cc) (c.in-Ok.ensures.seen_takes (Some files) first)

pub returns-then-begins_otherwise-clause-earlier : goal.returns-then-begins_otherwise-clause-earlier
returns-then-begins_otherwise-clause-earlier g c = λ files agree. c.in-Err.ensures.earlier (Some files) (c.first_of_blocks.ensures.earlier files agree)

pub returns-then-begins_otherwise-clause-gives : goal.returns-then-begins_otherwise-clause-gives
returns-then-begins_otherwise-clause-gives g c = λ files agree.
    let first = c.first_of_blocks.ensures.earlier files agree in
    of-blocks files c.args.name.now c.in-Err.why _ c.first_of_blocks.result (c.begins_otherwise.ensures.otherwise c.if-begins_otherwise.true)
    (c.in-Err.ensures.seen_takes (Some files) first) (λ bytes has. c.in-Err.ensures.seen_gives (Some files) first bytes has)
    (c.first_of_blocks.ensures.gives files agree)

pub returns-else-begins_otherwise-clause-earlier : goal.returns-else-begins_otherwise-clause-earlier
returns-else-begins_otherwise-clause-earlier g c = λ files agree. c.in-Err.ensures.earlier (Some files) agree

pub returns-else-begins_otherwise-clause-gives : goal.returns-else-begins_otherwise-clause-gives
returns-else-begins_otherwise-clause-gives g c = λ files agree.
    rw c.from.ensures (of-refused files c.args.name.now c.in-Err.why _ (c.begins_otherwise.ensures.not_otherwise c.if-begins_otherwise.false)
    (c.in-Err.ensures.seen_takes (Some files) agree) (λ bytes has. c.in-Err.ensures.seen_gives (Some files) agree bytes has))
