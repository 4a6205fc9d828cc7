-- Both laws are lemmas.
use Rattle.pcapng_input.proofs.Calls.{reads_all, reads_first}
use Rattle.pcapng_input.proofs.laws.calls_give_the_records.Goals as goal

pub returns-clause-all : goal.returns-clause-all
returns-clause-all c = reads_all

pub returns-clause-first : goal.returns-clause-first
returns-clause-first c = reads_first
