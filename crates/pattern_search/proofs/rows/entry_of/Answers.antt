-- Twice a place and one more fits 32 bits, since every place is below 2 to the 31 (`place-fits`).
use Rattle.std.proofs.Common.{arith}
use Rattle.pattern_search.proofs.States.Stepping.{place-fits}
use Rattle.pattern_search.proofs.rows.entry_of.Goals as goal

pub overflow_cast-result : goal.overflow_cast-result
overflow_cast-result c = omega (arith, place-fits c.args.width c.args.dense c.args.state c.requires.fits c.requires.few, c.place_of.ensures.place, c.ended_at-ended.ensures.small)
