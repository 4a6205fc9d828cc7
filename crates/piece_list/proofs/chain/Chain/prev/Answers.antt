-- What comes before a place above 0 is a node (`here_prev`), that of the place before (`prev_placed`).
use Rattle.piece_list.proofs.Moving.{here_prev, prev_placed}
use Rattle.piece_list.proofs.chain.Chain.prev.Goals as goal

pub prev-self-inside-requires : goal.prev-self-inside-requires
prev-self-inside-requires g c =
    here_prev c.self.inside.ring c.self.inside.head.ptr c.self.inside.tail.ptr c.self.inside.here.ptr c.self.inside.len
    c.self.inside.at c.self.invariant (rw (← c.self.view_is) at c.requires)

pub invariant_of-self : goal.invariant_of-self
invariant_of-self g c =
    prev_placed c.self.inside.ring c.self.inside.head.ptr c.self.inside.tail.ptr c.self.inside.here.ptr c.self.inside.len
    c.self.inside.at c.self.invariant (rw (← c.self.view_is) at c.requires) c.prev-self-inside.result.ptr
    c.prev-self-inside.ensures
