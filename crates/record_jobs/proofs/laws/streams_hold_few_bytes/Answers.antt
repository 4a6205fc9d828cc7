-- Only flows of keys of TCP that live hold anything, at most `max_tcp` of them, and neither side of one holds more than the
-- engines' greatest limit, which bounds the sum (`few-bytes`).
use Rattle.record_jobs.proofs.Held.Totals.{few-bytes, few-segments}
use Rattle.record_jobs.proofs.laws.streams_hold_few_bytes.Goals as goal

pub returns-clause-bytes : goal.returns-clause-bytes
returns-clause-bytes c = few-bytes

pub returns-clause-segments : goal.returns-clause-segments
returns-clause-segments c = few-segments
