-- Moves of an automaton, by the states that are longer by a letter and by the fails (Aho and Corasick,
-- Communications of the ACM 18, 1975, algorithm 1).
--
-- A move goes back along the fails to the first state that is longer by the letter, and on to that one.
-- To try it on: for the patterns he, she and his, the move from `she` by r goes back to `he`, from there to the
-- empty word, and stays there; that from `sh` by i goes back to `h` and on to `hi`.
use Rattle.std.specs.Prelude.{◌≡◌, ℕ, ◌<◌, ◌≤◌, List, ◌∷◌, length}
use Rattle.pattern_search.specs.declared.trie.Trie.{Trie}
use Rattle.pattern_search.specs.declared.moves.Reached.{Reached}
use Rattle.pattern_search.specs.Words.{word_at, IsAt, IsFail, IsTrieOf}
use Rattle.pattern_search.specs.Outputs.{AreFailing}

-- one letter on from a state
pub record IsMove (words : List (List ℕ)) (state letter next : ℕ) : Type 0 where
  pub within : next < length words
  pub at : IsAt words (letter ∷ word_at words state) (word_at words next)

-- back along the fails from a state, where the same words end after the letter
pub record IsBack (words : List (List ℕ)) (state letter at : ℕ) : Type 0 where
  pub within : at ≤ state
  pub same : IsAt words (letter ∷ word_at words state) (letter ∷ word_at words at)

-- back along the fails, to a state that another is longer than by the letter, or that is below the number
pub record IsReached (words : List (List ℕ)) (below state letter : ℕ) (reached : Reached) : Type 0 where
  pub back : IsBack words state letter reached.state
  pub none : 0 < below → reached.child ≡ 0 → reached.state < below
  pub some : 0 < reached.child → (reached.child < length words)
      × (word_at words reached.child ≡ letter ∷ word_at words reached.state)

-- whatever the words are of whose trie these are the fails, the walk back comes to such a state
pub record Reaches (trie : Trie) (fails : List ℕ) (below state letter : ℕ) (reached : Reached) : Type 0 where
  pub comes : (words : List (List ℕ)) (deep done : ℕ) → IsTrieOf words trie deep → AreFailing words fails done
      → done ≤ length words → state < done → IsReached words below state letter reached

-- the walk back along the fails has come so far, whatever the words are of whose trie these are the fails
pub record IsReaching (trie : Trie) (fails : List ℕ) (state letter at : ℕ) : Type 0 where
  pub back : (words : List (List ℕ)) (deep done : ℕ) → IsTrieOf words trie deep → AreFailing words fails done
      → done ≤ length words → state < done → IsBack words state letter at

pub record Moves (trie : Trie) (fails : List ℕ) (state letter next : ℕ) : Type 0 where
  pub moved : (words : List (List ℕ)) (deep done : ℕ) → IsTrieOf words trie deep → AreFailing words fails done
      → done ≤ length words → state < done → IsMove words state letter next

-- where a state fails to, if those before it do
pub record FailsTo (trie : Trie) (fails : List ℕ) (state fail : ℕ) : Type 0 where
  pub root : state ≡ 0 → fail ≡ 0
  pub is : (words : List (List ℕ)) (deep : ℕ) → IsTrieOf words trie deep → AreFailing words fails state → state < length words
      → 0 < state → (fail < state) × IsFail words (word_at words state) (word_at words fail)
