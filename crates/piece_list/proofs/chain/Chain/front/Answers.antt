-- From the head sentinel (`front_next`) `next` leads to the first node, or to the tail: that is place 0 (`front_placed`).
use Rattle.piece_list.proofs.Moving.{front_next, front_placed}
use Rattle.piece_list.proofs.chain.Chain.front.Goals as goal

pub next-self-inside-requires : goal.next-self-inside-requires
next-self-inside-requires g c = front_next c.self.inside.ring c.self.inside.head.ptr c.self.inside.tail.ptr c.self.inside.here.ptr c.self.inside.len c.self.inside.at c.self.invariant

pub invariant_of-self : goal.invariant_of-self
invariant_of-self g c =
    front_placed c.self.inside.ring c.self.inside.head.ptr c.self.inside.tail.ptr c.self.inside.here.ptr c.self.inside.len
    c.self.inside.at c.self.invariant c.next-self-inside.result.ptr c.next-self-inside.ensures
