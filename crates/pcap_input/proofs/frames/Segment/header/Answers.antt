-- The sum of the words isn't 0, as `checksum` asks: an address that begins with 10 is among the pseudo header's.
use Rattle.std.proofs.Common.{◌<◌, arith}
use Rattle.pcap_input.proofs.Made.Words.{pseudo_positive}
use Rattle.pcap_input.proofs.frames.Segment.header.Goals as goal

pub checksum-requires : goal.checksum-requires
checksum-requires c =
    let positive : 0 < c.word_sum.result = rw (c.word_sum.ensures.value, c.pseudo_header-pseudo.ensures) (pseudo_positive _ _ _ _) in
    omega arith
