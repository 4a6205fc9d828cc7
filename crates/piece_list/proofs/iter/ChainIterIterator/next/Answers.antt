-- As long as values are left the place is at a node, whose value is the first of them, and from the node after it the others
-- are left (`next_gives_rest`).
use Rattle.std.proofs.Common.{◌+◌, ◌∙◌, sym, arith}
use Rattle.piece_list.specs.Linked.{values}
use Rattle.piece_list.proofs.Places.{drop-get, rest_within}
use Rattle.piece_list.proofs.Moving.{here_is, here_next, next_gives_rest, value_is}
use Rattle.piece_list.proofs.iter.ChainIterIterator.next.Goals as goal

pub next-self-inside-requires : goal.next-self-inside-requires
next-self-inside-requires g c =
    let r = c.self.inside.ring.now in
    here_next r r.head r.tail c.self.inside.here.ptr (c.self.inside.from + c.self.inside.left)
    c.self.inside.from c.self.invariant.0
    (rest_within r.nodes c.self.inside.from c.self.inside.left c.self.invariant.0.counts (omega arith))

pub overflow_add-self : goal.overflow_add-self
overflow_add-self g c = omega (arith, c.self.invariant.1)

pub value-requires : goal.value-requires
value-requires g c =
    let r = c.self.inside.ring.now in
    here_is r r.head r.tail c.self.inside.here.ptr (c.self.inside.from + c.self.inside.left)
    c.self.inside.from c.self.invariant.0
    (rest_within r.nodes c.self.inside.from c.self.inside.left c.self.invariant.0.counts (omega arith))

pub invariant_of-self : goal.invariant_of-self
invariant_of-self g c =
    let r = c.self.inside.ring.now in (
      next_gives_rest r r.head r.tail c.self.inside.here.ptr c.self.inside.from c.self.inside.left c.self.invariant.0
          (omega arith) c.next-self-inside.result.ptr c.next-self-inside.ensures,
      omega (arith, c.self.invariant.1),
    )

pub returns-clause-steps : goal.returns-clause-steps
returns-clause-steps g c =
    let r = c.self.inside.ring.now in
    sym c.self.view_is
    ∙ drop-get (values r.nodes) c.self.inside.from c.value.result.now
    (value_is r r.head r.tail c.self.inside.here.ptr (c.self.inside.from + c.self.inside.left)
    c.self.inside.from c.self.invariant.0
    (rest_within r.nodes c.self.inside.from c.self.inside.left c.self.invariant.0.counts (omega arith))
    c.value.result.now c.value.ensures)
