-- A segment that is queued ends within the window and isn't one too many, so the limits are kept (`queued-kept`).
use Rattle.std.proofs.Common.{rules}
use Rattle.stream5_reassembly.specs.Inside.{state_of}
use Rattle.stream5_reassembly.proofs.Steps.{queued-kept}
use Rattle.stream5_reassembly.proofs.direction.Direction.add.Goals as goal

pub invariant_of-self-then-eq : goal.invariant_of-self-then-eq
invariant_of-self-then-eq c = rw c.in_ok-insert.ensures.ok (record {
  preference = c.self.invariant.preference;
  kept =
      queued-kept (state_of c.self.inside) c.args.self.now c.place-start.result c.args.bytes.now c.fate-fate.result
      c.self.invariant.kept c.self.view_is c.requires.started c.fate-fate.ensures (search rules);
})

pub returns-in_ok-insert-clause-bounds : goal.returns-in_ok-insert-clause-bounds
returns-in_ok-insert-clause-bounds c = rw c.in_ok-insert.ensures.ok
    (queued-kept (state_of c.self.inside) c.args.self.now c.place-start.result c.args.bytes.now c.fate-fate.result
    c.self.invariant.kept c.self.view_is c.requires.started c.fate-fate.ensures (search rules)).within
