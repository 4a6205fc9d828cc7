-- Each slot so far is for this automaton.
use Rattle.std.proofs.Common.{◌≡◌}
use Rattle.std.specs.Prelude.{All}
use Rattle.regex_maker.proofs.shelf.Shelf.new.Given as goal

abbrev pub invariant-loop : goal.invariant-loop
invariant-loop l = All (λ kept. kept ≡ l.fn.dfa) l.slots.items
