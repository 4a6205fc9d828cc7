-- A last odd byte counts as a word whose other byte is 0, and with no byte left the sum is what it is.
use Rattle.std.proofs.Common.{arith}
use Rattle.packet_decode.proofs.Sums.{one, none_left}
use Rattle.packet_decode.proofs.checksum.add_last.Goals as goal

pub returns-in-len1-clause-same : goal.returns-in-len1-clause-same
returns-in-len1-clause-same c = let counted = one c.add_two-twos.result.0 c.add_two-twos.result.1.now (omega arith) in cc

pub returns-in_default-clause-same : goal.returns-in_default-clause-same
returns-in_default-clause-same c = let counted = none_left c.add_two-twos.result.0 c.add_two-twos.result.1.now (omega arith) in cc
