-- An address of version 4 counts as its words by its number, one of version 6 by its two halves of 64 bits.
use Rattle.std.proofs.Common.{arith}
use Rattle.packet_decode.proofs.Sums.{address_4, address_6}
use Rattle.packet_decode.proofs.checksum.address_total.Goals as goal

pub returns-in-V4-clause-same : goal.returns-in-V4-clause-same
returns-in-V4-clause-same c more = let counted = address_4 c.in-V4.number more (omega arith) in cc

pub returns-in-V6-clause-same : goal.returns-in-V6-clause-same
returns-in-V6-clause-same c more = let counted = address_6 c.in-V6.number more (omega arith) in cc
