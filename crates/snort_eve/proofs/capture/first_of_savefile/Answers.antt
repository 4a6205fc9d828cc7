-- The record that stands next after the head is the first one, and what stands there in its place says why there is none.
use Rattle.std.proofs.Common.{Some, ap}
use Rattle.snort_eve.specs.Captures.{first_next}
use Rattle.snort_eve.proofs.FirstRecords.{next-refused}
use Rattle.snort_eve.proofs.capture.first_of_savefile.Goals as goal

pub returns-in-Ok-Some-clause-gives : goal.returns-in-Ok-Some-clause-gives
returns-in-Ok-Some-clause-gives g c = λ files agree rest left.
    let gives = rw c.in-Ok-Some.field-0-is at (c.in-Ok-Some.ensures.seen_gives (Some files) agree c.requires rest left) in
    ap first_next gives.1

pub returns-in-Ok-None-clause-gives : goal.returns-in-Ok-None-clause-gives
returns-in-Ok-None-clause-gives g c = λ files agree rest left.
    let gives = rw c.in-Ok-None.field-0-is at (c.in-Ok-None.ensures.seen_gives (Some files) agree c.requires rest left) in
    ap first_next gives

pub returns-clause-gives : goal.returns-clause-gives
returns-clause-gives g c = λ files agree rest left.
    rw c.from.ensures (next-refused c.in-Err.why _ (c.in-Err.ensures.seen_gives (Some files) agree c.requires rest left))

pub returns-in-Ok-Some-clause-earlier : goal.returns-in-Ok-Some-clause-earlier
returns-in-Ok-Some-clause-earlier g c = λ files agree. c.in-Ok-Some.ensures.earlier (Some files) agree

pub returns-in-Ok-None-clause-earlier : goal.returns-in-Ok-None-clause-earlier
returns-in-Ok-None-clause-earlier g c = λ files agree. c.in-Ok-None.ensures.earlier (Some files) agree

pub returns-clause-earlier : goal.returns-clause-earlier
returns-clause-earlier g c = λ files agree. c.in-Err.ensures.earlier (Some files) agree
