-- What comes next, by the answer of the savefile's reader.
use Rattle.snort_engine.proofs.Records.Reading.{savefile_gives, savefile_ended, savefile_stops}
use Rattle.snort_engine.proofs.Headline.Quiet.{savefile_unfailed}
use Rattle.snort_engine.proofs.Records.Stops.{savefile_keeps}
use Rattle.snort_engine.proofs.reader.next_of_savefile.Goals as goal

pub returns-in-Ok-Some-clause-gives : goal.returns-in-Ok-Some-clause-gives
returns-in-Ok-Some-clause-gives g c = λ seen may.
    let takes = rw c.in-Ok-Some.field-0-is at (c.in-Ok-Some.ensures.seen_takes seen may) in
    let holds = rw c.in-Ok-Some.field-0-is at c.in-Ok-Some.ensures.holds in
    rw (c.new.ensures, c.head-link.ensures) (savefile_gives c.args.reader.now c.next.new.self c.in-Ok-Some.captured _ _ c.requires takes holds)

pub returns-in-Ok-None-clause-gives : goal.returns-in-Ok-None-clause-gives
returns-in-Ok-None-clause-gives g c = λ seen may.
    let gives = rw c.in-Ok-None.field-0-is at (c.in-Ok-None.ensures.seen_gives seen may c.requires) in
    let ended = rw c.in-Ok-None.field-0-is at (c.in-Ok-None.ensures.seen_ended seen may) in
    savefile_ended c.args.reader.now c.next.new.self _ _ ended gives

pub returns-in-Err-clause-gives : goal.returns-in-Err-clause-gives
returns-in-Err-clause-gives g c = λ seen may.
    savefile_stops c.args.reader.now c.next.new.self c.in-Err.why c.from.result _ _ c.from.ensures (c.in-Err.ensures.seen_partial seen may c.requires) (c.in-Err.ensures.seen_gives seen may c.requires)

pub returns-in-Err-clause-refused : goal.returns-in-Err-clause-refused
returns-in-Err-clause-refused g c = savefile_keeps c.args.reader.now c.next.new.self c.in-Err.why c.from.result c.from.ensures c.in-Err.ensures.refused

pub returns-in-Err-clause-quiet : goal.returns-in-Err-clause-quiet
returns-in-Err-clause-quiet g c = λ unfailed. c.in-Err.ensures.quiet (savefile_unfailed _ _ c.in-Err.why c.from.result c.from.ensures unfailed)
