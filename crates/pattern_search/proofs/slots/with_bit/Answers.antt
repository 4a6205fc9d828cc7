-- The or with a power of two sets the bit of that power, and clears none (`adds-bit`).
use Rattle.std.proofs.Common.{refl}
use Rattle.pattern_search.proofs.Windowing.{adds-bit}
use Rattle.pattern_search.proofs.slots.with_bit.Goals as goal

pub returns : goal.returns
returns c = adds-bit c.args.number c.args.at _ c.requires refl
