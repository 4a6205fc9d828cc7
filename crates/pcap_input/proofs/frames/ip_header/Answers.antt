-- The header's words have a sum above 0, as `checksum` asks: the version of IPv4 is among them.
use Rattle.pcap_input.proofs.Made.Words.{ip_positive}
use Rattle.pcap_input.proofs.frames.ip_header.Goals as goal

pub checksum-requires : goal.checksum-requires
checksum-requires c = rw (c.word_sum-sum.ensures.value, c.ip_fields.ensures) (ip_positive _ _ _ _ _)
