-- Four bytes as one number count as its two words, since 65536 counts as 1 modulo 65535.
use Rattle.std.proofs.Common.{arith}
use Rattle.packet_decode.proofs.Sums.{four}
use Rattle.packet_decode.proofs.checksum.add_four.Goals as goal

pub returns-clause-same : goal.returns-clause-same
returns-clause-same c = let counted = four c.args.total c.args.bytes.now (omega arith) in cc
