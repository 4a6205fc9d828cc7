-- The numbers of an alert's two records fit their bytes where the rules' numbers do and the capture holds bytes, so that
-- they can be read back; and no bytes are of two lists of records.
use Rattle.unified2_out.proofs.Laws.{records_of-one}
use Rattle.snort_engine.proofs.Fits.Records.{records_fit}
use Rattle.snort_engine.proofs.Fits.ReadBack.{are_entries, answer_entries, first_entries, tells_entries}
use Rattle.snort_engine.proofs.run_laws.written_records_read_back.Goals as goal

pub returns-clause-written : goal.returns-clause-written
returns-clause-written c = are_entries

pub returns-clause-answer : goal.returns-clause-answer
returns-clause-answer c = answer_entries

pub returns-clause-captured : goal.returns-clause-captured
returns-clause-captured c = records_fit

pub returns-clause-one : goal.returns-clause-one
returns-clause-one c = records_of-one

pub returns-clause-told : goal.returns-clause-told
returns-clause-told c = tells_entries

pub returns-clause-first : goal.returns-clause-first
returns-clause-first c = first_entries
