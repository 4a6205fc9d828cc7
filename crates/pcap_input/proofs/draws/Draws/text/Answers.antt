-- A number below 1000 has three digits at most, so its text is far below 100 bytes.
use Rattle.pcap_input.proofs.Made.Making.{text-short}
use Rattle.pcap_input.proofs.draws.Draws.text.Goals as goal

pub returns-clause-short : goal.returns-clause-short
returns-clause-short c = text-short c.below-number.result _ c.below-number.ensures.below c.in_ok-text.ensures.ok
