-- What comes next, by the answer of the reader of blocks.
use Rattle.snort_engine.proofs.Records.Reading.{blocks_give, blocks_ended, blocks_stop}
use Rattle.snort_engine.proofs.Headline.Quiet.{blocks_unfailed}
use Rattle.snort_engine.proofs.Records.Stops.{blocks_keep}
use Rattle.snort_engine.proofs.reader.next_of_blocks.Goals as goal

pub returns-in-Ok-Some-clause-gives : goal.returns-in-Ok-Some-clause-gives
returns-in-Ok-Some-clause-gives g c = λ seen may.
    let takes = rw c.in-Ok-Some.field-0-is at (c.in-Ok-Some.ensures.seen_takes seen may) in
    rw c.new.ensures (blocks_give c.args.reader.now c.next.new.self c.in-Ok-Some.field-0-0 _ _ takes)

pub returns-in-Ok-None-clause-gives : goal.returns-in-Ok-None-clause-gives
returns-in-Ok-None-clause-gives g c = λ seen may.
    let gives = rw c.in-Ok-None.field-0-is at (c.in-Ok-None.ensures.seen_gives seen may c.requires) in
    let ended = rw c.in-Ok-None.field-0-is at (c.in-Ok-None.ensures.seen_ended seen may) in
    blocks_ended c.args.reader.now c.next.new.self _ _ ended gives

pub returns-in-Err-clause-gives : goal.returns-in-Err-clause-gives
returns-in-Err-clause-gives g c = λ seen may.
    blocks_stop c.args.reader.now c.next.new.self c.in-Err.why c.from.result _ _ c.from.ensures (c.in-Err.ensures.seen_partial seen may c.requires) (c.in-Err.ensures.seen_gives seen may c.requires)

pub returns-in-Err-clause-refused : goal.returns-in-Err-clause-refused
returns-in-Err-clause-refused g c = blocks_keep c.next.new.self c.in-Err.why c.from.result c.from.ensures c.in-Err.ensures.refused

pub returns-in-Err-clause-quiet : goal.returns-in-Err-clause-quiet
returns-in-Err-clause-quiet g c = λ unfailed. c.in-Err.ensures.quiet (blocks_unfailed _ _ c.in-Err.why c.from.result c.from.ensures unfailed)
