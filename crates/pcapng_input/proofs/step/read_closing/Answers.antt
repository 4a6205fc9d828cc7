-- Each content is read by its own step.
use Rattle.pcapng_input.proofs.step.read_closing.Goals as goal

pub read_packet-requires-clause-fits : goal.read_packet-requires-clause-fits
read_packet-requires-clause-fits g c = (rw c.in-Packet.is at c.requires.fits).0

pub returns-in-Skipped-clause-shows : goal.returns-in-Skipped-clause-shows
returns-in-Skipped-clause-shows g c = λ seen may. rw c.in-Skipped.is (c.pass_over.ensures.shows seen may)

pub returns-in-Interface-clause-shows : goal.returns-in-Interface-clause-shows
returns-in-Interface-clause-shows g c = λ seen may. rw c.in-Interface.is (c.read_interface.ensures.shows seen may)

pub returns-in-Packet-clause-shows : goal.returns-in-Packet-clause-shows
returns-in-Packet-clause-shows g c = λ seen may. rw c.in-Packet.is (c.read_packet.ensures.shows seen may)
