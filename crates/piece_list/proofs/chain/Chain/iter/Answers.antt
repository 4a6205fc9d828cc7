-- What comes after the head sentinel is where the nodes begin (`front_placed`), so an iterator from there has all values.
use Rattle.piece_list.proofs.Moving.{front_next, front_placed}
use Rattle.piece_list.proofs.chain.Chain.iter.Goals as goal

pub next-requires : goal.next-requires
next-requires g c = front_next c.self.inside.ring c.self.inside.head.ptr c.self.inside.tail.ptr c.self.inside.here.ptr c.self.inside.len c.self.inside.at c.self.invariant

pub new-requires : goal.new-requires
new-requires g c = (
  c.self.invariant.counts,
  (front_placed c.self.inside.ring c.self.inside.head.ptr c.self.inside.tail.ptr c.self.inside.here.ptr c.self.inside.len
      c.self.inside.at c.self.invariant c.next.result.ptr c.next.ensures).at_node,
)
