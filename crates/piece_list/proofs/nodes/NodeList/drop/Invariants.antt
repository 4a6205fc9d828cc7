-- Values are taken out at place 0, where the list stays; each turn makes it shorter.
use Rattle.std.proofs.Common.{◌≡◌, length}
use Rattle.piece_list.proofs.nodes.NodeList.drop.Given as goal

abbrev pub invariant-loop-value : goal.invariant-loop-value
invariant-loop-value g l = l.self.place ≡ 0

abbrev pub decreases-loop-value : goal.decreases-loop-value
decreases-loop-value g l = length l.self.list
