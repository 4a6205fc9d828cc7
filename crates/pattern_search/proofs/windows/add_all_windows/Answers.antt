-- Where the loop ends, the patterns so far are all of them, and each has its windows in the table.
use Rattle.std.proofs.Common.{arith}
use Rattle.pattern_search.proofs.windows.add_all_windows.Goals as goal

pub returns-clause-has : goal.returns-clause-has
returns-clause-has c = record { each = λ place h. c.loop-pattern.invariant.1 place (omega (arith, h, c.loop-pattern-test.false)) }
