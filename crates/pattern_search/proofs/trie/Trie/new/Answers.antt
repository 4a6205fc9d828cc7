-- Without a step the only word is the empty one (`words-none`), and it has no child (`empty-trie`).
use Rattle.std.proofs.Common.{List, ℕ, ◌∷◌, [], ◌++◌, sym, ap, subst, ◌∙◌}
use Rattle.pattern_search.specs.declared.trie.Trie.{Trie}
use Rattle.pattern_search.specs.Words.{words_of, IsTrieOf}
use Rattle.pattern_search.proofs.States.Tries.{words-none, empty-trie}
use Rattle.pattern_search.proofs.trie.Trie.new.Goals as goal

pub returns-clause-trie : goal.returns-clause-trie
returns-clause-trie c =
    let trie : Trie = record { steps = c.new.result; firsts = c.push.new.self; width = c.args.width } in
    let P : List (List ℕ) → Type 0 = λ words. IsTrieOf words trie 0 in
    let none = ap words_of c.new.ensures.items ∙ words-none in
    subst P (sym none) (empty-trie trie c.new.ensures.items (c.in_ok-push.ensures.items ∙ ap (λ (xs : List ℕ). xs ++ 0 ∷ []) c.new-firsts.ensures.items))
