-- What was found in any order is, once sorted, the list of the patterns that occur (`sorted-occurring`).
use Rattle.std.proofs.lemmas.List.Sorted.{IsPermutation-trans}
use Rattle.pattern_search.specs.Occurring.{occurring}
use Rattle.pattern_search.proofs.Finding.Telling.{sorted-occurring}
use Rattle.pattern_search.proofs.automaton.Automaton.find.Goals as goal

pub returns : goal.returns
returns c = record {
  told = λ patterns finds.
      let hits = c.in_ok-found.found.items in
      let sorted = c.sort_unstable.new.self.items in
      let text = c.args.text.now in
      let moved = IsPermutation-trans (occurring patterns text) hits sorted (c.in_ok-found.ensures.found patterns finds) c.sort_unstable.ensures.permutation in
      sorted-occurring patterns text sorted moved c.sort_unstable.ensures.sorted;
}
