-- Once the node at the place is unlinked, the one after it is at the place, and the list lacks its value alone (`removed`).
use Rattle.piece_list.proofs.Moving.{here_is, here_next, removed}
use Rattle.piece_list.proofs.chain.Chain.remove.Goals as goal

pub next-self-inside-requires : goal.next-self-inside-requires
next-self-inside-requires g c =
    here_next c.self.inside.ring c.self.inside.head.ptr c.self.inside.tail.ptr c.self.inside.here.ptr c.self.inside.len
    c.self.inside.at c.self.invariant (rw (← c.self.view_is) at c.requires)

pub unlink-requires : goal.unlink-requires
unlink-requires g c =
    here_is c.self.inside.ring c.self.inside.head.ptr c.self.inside.tail.ptr c.self.inside.here.ptr c.self.inside.len
    c.self.inside.at c.self.invariant (rw (← c.self.view_is) at c.requires)

pub invariant_of-self : goal.invariant_of-self
invariant_of-self g c =
    let new = c.unlink.new.self in
    (removed c.self.inside.ring c.self.inside.head.ptr c.self.inside.tail.ptr c.self.inside.here.ptr c.self.inside.len
    c.self.inside.at c.self.invariant (rw (← c.self.view_is) at c.requires) new c.next-self-inside.result.ptr c.unlink.result.ptr
    c.unlink.result.value c.next-self-inside.ensures c.unlink.ensures.sentinels c.unlink.ensures.nodes).0

pub returns-clause-taken : goal.returns-clause-taken
returns-clause-taken g c =
    let new = c.unlink.new.self in
    rw (← c.self.view_is)
    ((removed c.self.inside.ring c.self.inside.head.ptr c.self.inside.tail.ptr c.self.inside.here.ptr c.self.inside.len
    c.self.inside.at c.self.invariant (rw (← c.self.view_is) at c.requires) new c.next-self-inside.result.ptr c.unlink.result.ptr
    c.unlink.result.value c.next-self-inside.ensures c.unlink.ensures.sentinels c.unlink.ensures.nodes).2)

pub returns-clause-left : goal.returns-clause-left
returns-clause-left g c =
    let new = c.unlink.new.self in
    let done =
    removed c.self.inside.ring c.self.inside.head.ptr c.self.inside.tail.ptr c.self.inside.here.ptr c.self.inside.len
    c.self.inside.at c.self.invariant (rw (← c.self.view_is) at c.requires) new c.next-self-inside.result.ptr c.unlink.result.ptr
    c.unlink.result.value c.next-self-inside.ensures c.unlink.ensures.sentinels c.unlink.ensures.nodes in
    rw (← c.self.view_is) (λ i. (done.1 i, c.self.inside.at))
