-- At a place below the length is a node (`here_is`), and its value is the list's at that place (`value_is`).
use Rattle.piece_list.proofs.Moving.{here_is, value_is}
use Rattle.piece_list.proofs.chain.Chain.peek.Goals as goal

pub value-requires : goal.value-requires
value-requires g c =
    here_is c.self.inside.ring c.self.inside.head.ptr c.self.inside.tail.ptr c.self.inside.here.ptr c.self.inside.len
    c.self.inside.at c.self.invariant (rw (← c.self.view_is) at c.requires)

pub returns : goal.returns
returns g c =
    rw (← c.self.view_is)
    (value_is c.self.inside.ring c.self.inside.head.ptr c.self.inside.tail.ptr c.self.inside.here.ptr c.self.inside.len
    c.self.inside.at c.self.invariant (rw (← c.self.view_is) at c.requires) c.value.result.now c.value.ensures)
