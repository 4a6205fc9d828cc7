-- What is found up to a limit of one record is the first record, and what refuses the blocks says why there is none.
use Rattle.std.proofs.Common.{Some}
use Rattle.snort_eve.proofs.FirstRecords.{found-meets, refused-meets}
use Rattle.snort_eve.proofs.capture.first_of_blocks.Goals as goal

pub returns-in-Ok-clause-gives : goal.returns-in-Ok-clause-gives
returns-in-Ok-clause-gives g c = λ files agree bytes has.
    rw c.first_found.ensures (found-meets c.in-Ok.found bytes (c.in-Ok.ensures.seen_held (Some files) agree bytes has))

pub returns-in-Ok-clause-earlier : goal.returns-in-Ok-clause-earlier
returns-in-Ok-clause-earlier g c = λ files agree. c.in-Ok.ensures.earlier (Some files) agree

pub returns-in-Err-clause-gives : goal.returns-in-Err-clause-gives
returns-in-Err-clause-gives g c = λ files agree bytes has.
    rw c.from.ensures (refused-meets c.in-Err.why bytes (c.in-Err.ensures.seen_held (Some files) agree bytes has))

pub returns-in-Err-clause-earlier : goal.returns-in-Err-clause-earlier
returns-in-Err-clause-earlier g c = λ files agree. c.in-Err.ensures.earlier (Some files) agree
