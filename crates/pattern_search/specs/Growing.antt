-- Where the patterns end among the words of a trie that grows letter by letter.
--
-- To try it on: two letters deep, the patterns `cab` and `ca` both end in the word a c.
use Rattle.std.specs.Prelude.{◌≡◌, ℕ, ◌+◌, ◌<◌, ◌≤◌, List, length, take, slice_index}
use Rattle.pattern_search.specs.declared.ends.Grown.{Grown}
use Rattle.pattern_search.specs.declared.trie.Trie.{Trie}
use Rattle.pattern_search.specs.Words.{word_at, word_of, words_of, IsTrie, Extends}

-- the letters of the bytes are the word of this state
pub record EndsAt (words : List (List ℕ)) (letters bytes : List ℕ) (end : ℕ) : Type 0 where
  pub within : end < length words
  pub word : word_at words end ≡ word_of letters bytes

-- all patterns end at their states, as far as they are this deep
pub record AreAt (words : List (List ℕ)) (letters : List ℕ) (patterns : List (List ℕ)) (ends : List ℕ) (depth : ℕ) : Type 0 where
  pub count : length ends ≡ length patterns
  pub each : (place : ℕ) → place < length patterns → EndsAt words letters (take depth (word_at patterns place))
      (slice_index ends place)

-- the first patterns end one letter deeper than the others
pub record AreBetween (words : List (List ℕ)) (letters : List ℕ) (patterns : List (List ℕ)) (ends : List ℕ)
    (depth done : ℕ) : Type 0 where
  pub count : length ends ≡ length patterns
  pub before : (place : ℕ) → place < done → place < length patterns
      → EndsAt words letters (take (depth + 1) (word_at patterns place)) (slice_index ends place)
  pub after : (place : ℕ) → done ≤ place → place < length patterns
      → EndsAt words letters (take depth (word_at patterns place)) (slice_index ends place)

-- a pattern ends one letter deeper
pub record Advances (old : Trie) (letters pattern : List ℕ) (depth next : ℕ) (new : Trie) : Type 0 where
  pub trie : IsTrie new (depth + 1)
  pub width : new.width ≡ old.width
  pub extends : Extends (words_of old.steps.items) (words_of new.steps.items)
  pub ends : EndsAt (words_of new.steps.items) letters (take (depth + 1) pattern) next

-- each pattern is the word of the state in which it ends
pub record AreGrown (letters : List ℕ) (patterns : List (List ℕ)) (grown : Grown) : Type 0 where
  pub deep : ℕ
  pub trie : IsTrie grown.trie deep
  pub count : length grown.ends.items ≡ length patterns
  pub each : (place : ℕ) → place < length patterns → EndsAt (words_of grown.trie.steps.items) letters (word_at patterns place)
      (slice_index grown.ends.items place)
