-- Words, and the states of an automaton that finds many of them at once.
--
-- Aho and Corasick, Efficient String Matching (Communications of the ACM 18, 1975). Words and what was
-- read are written with the latest letter first, so that what ends at a moment is what the list begins with.
-- To try it on: after the letters h, s, h, e the words `he` and `she` have ended, `his` hasn't; as lists
-- they are e h, e h s and s i h, and what was read is e h s h.
use Rattle.std.specs.Prelude.{◌≡◌, ℕ, ◌+◌, ◌-◌, ◌<◌, ◌≤◌, ◌==◌, Bool, true, false, ◌&&◌, ◌||◌, ◌⊎◌, List, [], ◌∷◌, ◌++◌, length, map, reverse, slice_index, slice_index_or}
use Rattle.pattern_search.specs.declared.trie.TrieState.{TrieState}
use Rattle.pattern_search.specs.declared.trie.Trie.{Trie}

-- the list begins with the word
unfoldable pub begins : List ℕ → List ℕ → Bool
begins [] text = true
begins (letter ∷ word) [] = false
begins (letter ∷ word) (other ∷ text) = (letter == other) && begins word text

-- the word has ended at some moment
unfoldable pub has_ended : List ℕ → List ℕ → Bool
has_ended word [] = begins word []
has_ended word (letter ∷ earlier) = begins word (letter ∷ earlier) || has_ended word earlier

-- the letters of these bytes, the latest first
unfoldable pub word_of : List ℕ → List ℕ → List ℕ
word_of letters bytes = reverse (map (slice_index letters) bytes)

-- the word with this number
abbrev pub word_at : List (List ℕ) → ℕ → List ℕ
word_at words number = slice_index_or words number []

-- each word is empty, or all but its last letter is a word too
abbrev pub IsClosed : List (List ℕ) → Type 0
IsClosed words = (state : ℕ) → state < length words → 0 < length (word_at words state)
    → (up : ℕ) × (by : ℕ) × (up < length words) × (word_at words state ≡ by ∷ word_at words up)

-- the same words have ended after what was read as after this word: it is the state there
abbrev pub IsAt : List (List ℕ) → List ℕ → List ℕ → Type 0
IsAt words read word = (state : ℕ) → state < length words → begins (word_at words state) read ≡ begins (word_at words state) word

-- the longest of the words which another word ends in
pub record IsFail (words : List (List ℕ)) (word fail : List ℕ) : Type 0 where
  pub shorter : length fail < length word
  pub same : (state : ℕ) → state < length words → length (word_at words state) < length word
      → begins (word_at words state) word ≡ begins (word_at words state) fail

-- the words of a trie: each is an earlier word with a letter after it, and follows the words that there are
unfoldable pub words_from : List (List ℕ) → List TrieState → List (List ℕ)
words_from words [] = words
words_from words (step ∷ steps) = words_from (words ++ (step.by ∷ word_at words step.up) ∷ []) steps

-- the words of a trie: the empty one first
abbrev pub words_of : List TrieState → List (List ℕ)
words_of steps = words_from ([] ∷ []) steps

-- which word is longer by a letter: none, where the number is 0
pub record IsChild (words : List (List ℕ)) (state letter child : ℕ) : Type 0 where
  pub lacks : child ≡ 0 → (other : ℕ) → other < length words → ¬ (word_at words other ≡ letter ∷ word_at words state)
  pub within : child < length words
  pub grown : 0 < child → word_at words child ≡ letter ∷ word_at words state

-- the step with this number: that of the state with the next one, for the empty word has none
abbrev pub step_at : List TrieState → ℕ → TrieState
step_at steps number = slice_index_or steps number (record { up = 0; by = 0; same = 0 })

-- of the states up to a number the last that is a state's with a letter after it; 0 where there is none
pub record IsLastChild (steps : List TrieState) (upto state child : ℕ) : Type 0 where
  pub within : child ≤ upto
  pub own : 0 < child → (step_at steps (child - 1)).up ≡ state
  pub greatest : (number : ℕ) → number < upto → (step_at steps number).up ≡ state → number < child

-- a trie's numbers are those of these words, which have at most `deep` letters
pub record IsTrieOf (words : List (List ℕ)) (trie : Trie) (deep : ℕ) : Type 0 where
  pub count : length words ≡ length trie.steps.items + 1
  pub first_count : length trie.firsts.items ≡ length words
  pub root : word_at words 0 ≡ []
  pub steps : (state : ℕ) → 0 < state → state < length words
      → (up : ℕ) × (by : ℕ) × (up < state) × (by < trie.width) × (word_at words state ≡ by ∷ word_at words up)
  pub told : (number : ℕ) → number < length trie.steps.items
      → word_at words (number + 1) ≡ (step_at trie.steps.items number).by ∷ word_at words (step_at trie.steps.items number).up
  pub ups : (number : ℕ) → number < length trie.steps.items → (step_at trie.steps.items number).up ≤ number
  pub bys : (number : ℕ) → number < length trie.steps.items → (step_at trie.steps.items number).by < trie.width
  pub first : (state : ℕ) → state < length words → IsLastChild trie.steps.items (length trie.steps.items) state
      (slice_index trie.firsts.items state)
  pub same : (number : ℕ) → number < length trie.steps.items
      → IsLastChild trie.steps.items number (step_at trie.steps.items number).up (step_at trie.steps.items number).same
  pub apart : (one other : ℕ) → one < length words → other < length words → word_at words one ≡ word_at words other → one ≡ other
  pub levels : (one other : ℕ) → one ≤ other → other < length words → length (word_at words one) ≤ length (word_at words other)
  pub deepest : (state : ℕ) → state < length words → length (word_at words state) ≤ deep
  pub few : length trie.steps.items < 1073741824

abbrev pub IsTrie : Trie → ℕ → Type 0
IsTrie trie deep = IsTrieOf (words_of trie.steps.items) trie deep

-- the words that there were have kept their numbers
pub record Extends (old new : List (List ℕ)) : Type 0 where
  pub longer : length old ≤ length new
  pub kept : (state : ℕ) → state < length old → word_at new state ≡ word_at old state

-- the trie has a state whose word is this state's with the letter after it
pub record HasChild (old : Trie) (state letter child : ℕ) (new : Trie) : Type 0 where
  pub trie : IsTrie new (length (word_at (words_of old.steps.items) state) + 1)
  pub width : new.width ≡ old.width
  pub extends : Extends (words_of old.steps.items) (words_of new.steps.items)
  pub within : child < length (words_of new.steps.items)
  pub grown : word_at (words_of new.steps.items) child ≡ letter ∷ word_at (words_of old.steps.items) state

-- which word is a state's with a letter after it, of whatever words this is the trie
pub record FindsChild (trie : Trie) (state letter child : ℕ) : Type 0 where
  pub found : (words : List (List ℕ)) (deep : ℕ) → IsTrieOf words trie deep → state < length words
      → IsChild words state letter child

-- these are a state's children, one for each letter
pub record AreChildren (trie : Trie) (state : ℕ) (children : List ℕ) : Type 0 where
  pub count : length children ≡ trie.width
  pub each : (letter : ℕ) → letter < trie.width → FindsChild trie state letter (slice_index children letter)

-- the state is still sought among those up to a number that are another's with a letter after it
pub record IsSought (steps : List TrieState) (state letter at : ℕ) : Type 0 where
  pub within : at ≤ length steps
  pub own : 0 < at → (step_at steps (at - 1)).up ≡ state
  pub rest : (number : ℕ) → number < length steps → (step_at steps number).up ≡ state → (step_at steps number).by ≡ letter
      → number < at

pub record IsSeeking (trie : Trie) (state letter at : ℕ) : Type 0 where
  pub sought : (words : List (List ℕ)) (deep : ℕ) → IsTrieOf words trie deep → state < length words
      → IsSought trie.steps.items state letter at

-- of a state's children those that aren't written yet are among those up to a number
pub record IsFilling (trie : Trie) (state at : ℕ) (children : List ℕ) : Type 0 where
  pub count : length children ≡ trie.width
  pub own : (words : List (List ℕ)) (deep : ℕ) → IsTrieOf words trie deep → state < length words
      → (at ≤ length trie.steps.items) × (0 < at → (step_at trie.steps.items (at - 1)).up ≡ state)
  pub each : (letter : ℕ) → letter < trie.width → ((slice_index children letter ≡ 0) × IsSeeking trie state letter at)
      ⊎ FindsChild trie state letter (slice_index children letter)
