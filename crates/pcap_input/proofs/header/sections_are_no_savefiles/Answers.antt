-- The law rests on the magic numbers of savefiles, none of which is 0a0d0d0a.
use Rattle.pcap_input.proofs.Sections.{section-head}
use Rattle.pcap_input.proofs.header.sections_are_no_savefiles.Goals as goal

pub returns : goal.returns
returns c = section-head
