-- The record that was read is the one that comes next for the reader.
use Rattle.pcap_input.proofs.reader.CaptureReader.next_seen.Goals as goal

pub returns-in-Ok-Some-clause-gives : goal.returns-in-Ok-Some-clause-gives
returns-in-Ok-Some-clause-gives g c = λ seen may. λ fresh rest told.
    rw (← c.self.view_is) (rw c.in-Ok-Some.field-0-is at ((c.in-Ok-Some.ensures.gives seen may) rest told))

pub returns-in-Ok-None-clause-gives : goal.returns-in-Ok-None-clause-gives
returns-in-Ok-None-clause-gives g c = λ seen may. λ fresh rest told.
    rw (← c.self.view_is) (rw c.in-Ok-None.field-0-is at ((c.in-Ok-None.ensures.gives seen may) rest told))

pub returns-in-Err-clause-gives : goal.returns-in-Err-clause-gives
returns-in-Err-clause-gives g c = λ seen may. λ fresh rest told. rw (← c.self.view_is) ((c.in-Err.ensures.gives seen may) rest told)
