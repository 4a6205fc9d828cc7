-- Which patterns have ended where, found from the states of an automaton.
--
-- Patterns are given as words, the latest letter first; an empty one is no pattern. Those that end a state's
-- word form a chain, the longest first, of equal ones the last first: each has the next one's place,
-- plus one, and 0 stands for none.
-- To try it on: of the patterns he, she and he again, after `she` the chain is she, the last he, the
-- first he: 2, 3, 1.
use Rattle.std.specs.Prelude.{◌≡◌, ℕ, ◌+◌, ◌-◌, ◌<◌, ◌≤◌, ◌==◌, Bool, false, ◌&&◌, ◌||◌, List, length, nat_lt, slice_index, if◌then◌else◌}
use Rattle.pattern_search.specs.declared.trie.Trie.{Trie}
use Rattle.pattern_search.specs.Owned.{AreOwned}
use Rattle.pattern_search.specs.Words.{begins, word_at, words_of, IsFail, IsTrie}

-- the pattern ends this word
unfoldable pub ends_word : List (List ℕ) → List ℕ → ℕ → Bool
ends_word patterns word place = nat_lt 0 (length (word_at patterns place)) && begins (word_at patterns place) word

-- the pattern is in the chain from this place, plus one, on
unfoldable pub is_left : List (List ℕ) → ℕ → ℕ → Bool
is_left patterns at place =
    nat_lt 0 at && (ends_word patterns (word_at patterns (at - 1)) place
    && (nat_lt (length (word_at patterns place)) (length (word_at patterns (at - 1))) || nat_lt place at))

-- the patterns are words: each at its state
pub record AreWords (words patterns : List (List ℕ)) (ends : List ℕ) : Type 0 where
  pub count : length ends ≡ length patterns
  pub within : (place : ℕ) → place < length patterns → slice_index ends place < length words
  pub word : (place : ℕ) → place < length patterns → word_at words (slice_index ends place) ≡ word_at patterns place

-- the first of the two that isn't 0
abbrev pub either : ℕ → ℕ → ℕ
either one other = if one == 0 then other else one

-- the chain of all patterns that end a word begins here
pub record IsHead (patterns : List (List ℕ)) (word : List ℕ) (head : ℕ) : Type 0 where
  pub within : head ≤ length patterns
  pub some : 0 < head → 0 < length (word_at patterns (head - 1))
  pub left : (place : ℕ) → place < length patterns → is_left patterns head place ≡ ends_word patterns word place

-- after a pattern the chain goes on here
pub record IsNext (patterns : List (List ℕ)) (place next : ℕ) : Type 0 where
  pub within : next ≤ length patterns
  pub some : 0 < next → 0 < length (word_at patterns (next - 1))
  pub left : (other : ℕ) → other < length patterns → is_left patterns (place + 1) other
      ≡ ((other == place) || is_left patterns next other)
  pub past : is_left patterns next place ≡ false

-- the states below one fail to earlier states
pub record AreFailing (words : List (List ℕ)) (fails : List ℕ) (done : ℕ) : Type 0 where
  pub lower : (state : ℕ) → 0 < state → state < done → slice_index fails state < state
  pub failing : (state : ℕ) → 0 < state → state < done
      → IsFail words (word_at words state) (word_at words (slice_index fails state))

-- the states below one have their fails and chains
pub record AreLinked (words patterns : List (List ℕ)) (fails heads : List ℕ) (done : ℕ) : Type 0 where
  pub fail_count : length fails ≡ done
  pub head_count : length heads ≡ done
  pub failing : AreFailing words fails done
  pub chains : (state : ℕ) → state < done → IsHead patterns (word_at words state) (slice_index heads state)

-- whatever the patterns are of whose words this is the trie, the states below one are linked
pub record IsLinking (trie : Trie) (firsts fails heads : List ℕ) (done : ℕ) : Type 0 where
  pub linked : (patterns : List (List ℕ)) (ends sames : List ℕ) (deep : ℕ) → IsTrie trie deep
      → AreWords (words_of trie.steps.items) patterns ends
      → AreOwned ends (length (words_of trie.steps.items)) firsts sames (length patterns)
      → done ≤ length (words_of trie.steps.items) → AreLinked (words_of trie.steps.items) patterns fails heads done

-- after each pattern the chain goes on at the one before it of its state, else with that of the fail
abbrev pub next_of : List ℕ → List ℕ → List ℕ → List ℕ → ℕ → ℕ
next_of ends sames fails heads place =
    either (slice_index sames place) (slice_index heads (slice_index fails (slice_index ends place)))

pub record AreNexts (ends sames fails heads nexts : List ℕ) (done : ℕ) : Type 0 where
  pub count : length nexts ≡ done
  pub next : (place : ℕ) → place < done → slice_index nexts place ≡ next_of ends sames fails heads place
