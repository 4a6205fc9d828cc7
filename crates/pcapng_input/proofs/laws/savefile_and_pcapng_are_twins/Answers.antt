-- The law rests on each of the two files being read as the packets that were written, so that both give the same records.
use Rattle.pcapng_input.proofs.Savefiles.{pcap_text-read}
use Rattle.pcapng_input.proofs.Twins.{ng_text-read, texts-twins}
use Rattle.pcapng_input.proofs.laws.savefile_and_pcapng_are_twins.Goals as goal

pub returns-clause-pcap : goal.returns-clause-pcap
returns-clause-pcap c = pcap_text-read

pub returns-clause-pcapng : goal.returns-clause-pcapng
returns-clause-pcapng c = ng_text-read

pub returns-clause-twins : goal.returns-clause-twins
returns-clause-twins c = texts-twins
