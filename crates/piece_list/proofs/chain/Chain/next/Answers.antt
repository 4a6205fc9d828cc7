-- At a place below the length is a node (`here_next`), and what comes after it is at the next place (`next_placed`).
use Rattle.piece_list.proofs.Moving.{here_next, next_placed}
use Rattle.piece_list.proofs.chain.Chain.next.Goals as goal

pub next-self-inside-requires : goal.next-self-inside-requires
next-self-inside-requires g c =
    here_next c.self.inside.ring c.self.inside.head.ptr c.self.inside.tail.ptr c.self.inside.here.ptr c.self.inside.len
    c.self.inside.at c.self.invariant (rw (← c.self.view_is) at c.requires)

pub invariant_of-self : goal.invariant_of-self
invariant_of-self g c =
    next_placed c.self.inside.ring c.self.inside.head.ptr c.self.inside.tail.ptr c.self.inside.here.ptr c.self.inside.len
    c.self.inside.at c.self.invariant (rw (← c.self.view_is) at c.requires) c.next-self-inside.result.ptr
    c.next-self-inside.ensures
