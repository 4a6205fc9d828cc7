-- Folding case, the answer is that of `first_folded`; else the finder seeks
-- the same bytes, and a place below `end` is one whose bytes end by the stop.
use Rattle.std.proofs.Common.{arith}
use Rattle.option_eval.proofs.Sets.Occurrences.{found_exact}
use Rattle.option_eval.proofs.needle.Needle.first_in.Goals as goal

pub returns-then-self : goal.returns-then-self
returns-then-self c = rw c.if-self.true c.first_folded.ensures

pub returns-else-self : goal.returns-else-self
returns-else-self c =
    rw c.if-self.false (found_exact c.args.payload.now c.args.self.now.bytes.now c.args.self.now.finder.now c.args.low c.args.end _ _ c.requires.same (omega arith) c.first_exact.ensures)
