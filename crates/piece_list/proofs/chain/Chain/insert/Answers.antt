-- The node is linked between those before the place and those from it on (`here_before`), and so its value comes to be in
-- the list at the place (`inserted`).
use Rattle.std.proofs.Common.{take, drop}
use Rattle.piece_list.proofs.Moving.{here_before, inserted}
use Rattle.piece_list.proofs.chain.Chain.insert.Goals as goal

pub link-self-inside-requires : goal.link-self-inside-requires
link-self-inside-requires g c = (
  take c.self.inside.at c.self.inside.ring.nodes,
  drop c.self.inside.at c.self.inside.ring.nodes,
  here_before c.self.inside.ring c.self.inside.head.ptr c.self.inside.tail.ptr c.self.inside.here.ptr c.self.inside.len
      c.self.inside.at c.self.invariant,
)

pub invariant_of-self : goal.invariant_of-self
invariant_of-self g c =
    let new = c.link-self-inside.new.self in
    (inserted c.self.inside.ring c.self.inside.head.ptr c.self.inside.tail.ptr c.self.inside.here.ptr c.self.inside.len
    c.self.inside.at c.self.invariant new c.link-self-inside.result.ptr c.args.node.value c.link-self-inside.ensures.sentinels
    c.link-self-inside.ensures.nodes).0

pub returns : goal.returns
returns g c =
    let new = c.link-self-inside.new.self in
    let done =
    inserted c.self.inside.ring c.self.inside.head.ptr c.self.inside.tail.ptr c.self.inside.here.ptr c.self.inside.len
    c.self.inside.at c.self.invariant new c.link-self-inside.result.ptr c.args.node.value c.link-self-inside.ensures.sentinels
    c.link-self-inside.ensures.nodes in
    rw (← c.self.view_is) (λ i. (done.1 i, c.self.inside.at))
