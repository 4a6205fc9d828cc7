-- Two bytes as one number are the one word that they add.
use Rattle.std.proofs.Common.{arith}
use Rattle.packet_decode.proofs.Sums.{two}
use Rattle.packet_decode.proofs.checksum.add_two.Goals as goal

pub returns-clause-same : goal.returns-clause-same
returns-clause-same c = let counted = two c.args.total c.args.bytes.now (omega arith) in cc
