-- The memory on its way past the slots, handed back by each that isn't free, is still one for this automaton.
use Rattle.regex_maker.specs.Searching.{IsMemoryFor}
use Rattle.regex_maker.proofs.shelf.Shelf.lay.Given as goal

abbrev pub invariant-loop-at : goal.invariant-loop-at
invariant-loop-at l = IsMemoryFor l.kept.memory.value l.fn.dfa
