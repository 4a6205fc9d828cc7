-- Eight bytes as one number count as its four words, as each power of 65536 counts as 1.
use Rattle.std.proofs.Common.{arith}
use Rattle.packet_decode.proofs.Sums.{eight}
use Rattle.packet_decode.proofs.checksum.add_wide.Goals as goal

pub returns-clause-same : goal.returns-clause-same
returns-clause-same c = let counted = eight c.args.total c.args.bytes.now (omega arith) in cc
