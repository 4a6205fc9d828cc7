-- The loop of `mark_in_one_walk` is at the state after the bytes so far, and what ended in them is marked and listed.
use Rattle.std.proofs.Common.{take}
use Rattle.pattern_search.specs.Words.{word_of}
use Rattle.pattern_search.specs.Finding.{Walks}
use Rattle.pattern_search.proofs.automaton.Automaton.mark_in_one_walk.Given as goal

abbrev pub invariant-loop-byte : goal.invariant-loop-byte
invariant-loop-byte l = Walks l.self (word_of l.self.letters (take l.byte-index l.bytes)) l.at l.fn.seen l.fn.hits.items l.seen l.hits.items
