-- A word with one bit more, written back to its place, sets the slot of that bit and clears none of any word (`sets-slot`).
use Rattle.std.proofs.Common.{arith}
use Rattle.pattern_search.proofs.Windowing.{sets-slot}
use Rattle.pattern_search.proofs.slots.set_slot.Goals as goal

pub returns : goal.returns
returns c = sets-slot c.args.table.now c.args.slot c.with_bit.result (omega (arith, c.requires.slot, c.requires.table)) c.with_bit.ensures
