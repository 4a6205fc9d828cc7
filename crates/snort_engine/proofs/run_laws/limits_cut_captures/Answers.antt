-- Records are read one by one, so that a limit stops where the shortest beginning that holds as many ends
-- (`limited_records`); and an answer goes by the limit only through the records that are read.
use Rattle.snort_engine.proofs.Cuts.Captures.{exists_cut, cut_place}
use Rattle.snort_engine.proofs.Cuts.Answers.{limited_records, limited_clean, limited_answer, unreached_answer}
use Rattle.snort_engine.proofs.run_laws.limits_cut_captures.Goals as goal

pub returns-clause-records : goal.returns-clause-records
returns-clause-records c = limited_records

pub returns-clause-clean : goal.returns-clause-clean
returns-clause-clean c = limited_clean

pub returns-clause-answer : goal.returns-clause-answer
returns-clause-answer c = limited_answer

pub returns-clause-cut : goal.returns-clause-cut
returns-clause-cut c = exists_cut

pub returns-clause-place : goal.returns-clause-place
returns-clause-place c = cut_place

pub returns-clause-fewer : goal.returns-clause-fewer
returns-clause-fewer c = unreached_answer
