-- The way back goes on above the root alone, so it ends at a state that is longer by the letter (`moves-child`), or at the
-- root, whose child by it is then the move (`moves-root`).
use Rattle.std.proofs.Common.{arith}
use Rattle.pattern_search.proofs.States.Moving.{moves-child, moves-root}
use Rattle.pattern_search.proofs.moves.move_from.Goals as goal

pub returns-then-reached-ne0 : goal.returns-then-reached-ne0
returns-then-reached-ne0 c = moves-child c.args.trie.now c.args.fails.now c.args.state c.args.letter c.reach-reached.result c.reach-reached.ensures c.if-reached-ne0.true

pub returns : goal.returns
returns c = moves-root c.args.trie.now c.args.fails.now c.args.state c.args.letter c.reach-reached.result c.found.result c.reach-reached.ensures (omega arith) c.found.ensures
