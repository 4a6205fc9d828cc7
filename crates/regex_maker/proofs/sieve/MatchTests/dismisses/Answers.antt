-- Fewer bytes than the shortest match has hold no match (`leftmost_short`).
use Rattle.std.proofs.Common.{arith}
use Rattle.regex_meta.proofs.ProgramLemmas.{leftmost_short}
use Rattle.regex_maker.proofs.sieve.MatchTests.dismisses.Goals as goal

pub returns-then-bytes-program : goal.returns-then-bytes-program
returns-then-bytes-program c = λ is. leftmost_short c.args.program.now c.args.bytes.now 0 (omega (arith, c.if-bytes-program.true))
