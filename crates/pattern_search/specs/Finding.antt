-- What a walk of an automaton has found, and when an automaton finds patterns (Aho and Corasick,
-- Communications of the ACM 18, 1975, algorithm 1).
--
-- To try it on: for the patterns he, she and his, a walk over `ushe` has marked and listed he and she, in
-- the order in which their chain has them: she, he.
use Rattle.std.specs.Prelude.{◌≡◌, ℕ, ◌+◌, ◌-◌, ◌*◌, ◌/◌, ◌%◌, ◌<◌, ◌≤◌, Bool, true, false, ◌&&◌, ◌||◌, List, length, map, take, nat_lt, slice_index, IfSome}
use Rattle.std.specs.List.Sorted.{IsPermutation}
use Rattle.pattern_search.specs.declared.automaton.Automaton.{Automaton}
use Rattle.pattern_search.specs.declared.seen.MarkSet.{MarkSet}
use Rattle.pattern_search.specs.Letters.{AllTold}
use Rattle.pattern_search.specs.Marking.{is_marked}
use Rattle.pattern_search.specs.Occurring.{numbers, occurring}
use Rattle.pattern_search.specs.Words.{begins, has_ended, word_of, word_at, IsClosed, IsAt, IsTrieOf}
use Rattle.pattern_search.specs.Outputs.{AreWords, is_left, IsHead, IsNext, AreFailing}
use Rattle.pattern_search.specs.Sieving.{Sifts}
use Rattle.pattern_search.specs.Rows.{sparse, few_letters, place_of, state_of, HasEntry, AreRows, AreEntries}

-- the pattern, which isn't empty, has ended
unfoldable pub is_ended : List (List ℕ) → List ℕ → ℕ → Bool
is_ended patterns read place = nat_lt 0 (length (word_at patterns place)) && has_ended (word_at patterns place) read

-- where a pattern is marked, those that it ends in are
abbrev pub IsClosedUnder : List (List ℕ) → MarkSet → Type 0
IsClosedUnder patterns seen = (one other : ℕ) → one < length patterns → other < length patterns → is_marked seen other ≡ true
    → 0 < length (word_at patterns one) → begins (word_at patterns one) (word_at patterns other) ≡ true
    → is_marked seen one ≡ true

-- after each pattern the chain goes on as told
abbrev pub AreChained : List (List ℕ) → List ℕ → Type 0
AreChained patterns nexts =
    (place : ℕ) → place < length patterns → 0 < length (word_at patterns place) → IsNext patterns place (slice_index nexts place)

-- the chain may begin here
abbrev pub MayBegin : List (List ℕ) → ℕ → Type 0
MayBegin patterns head = (head ≤ length patterns) × (0 < head → 0 < length (word_at patterns (head - 1)))

-- a chain's patterns were marked, and those that weren't marked before listed
pub record Follows (nexts : List ℕ) (head : ℕ) (old : MarkSet) (old_hits : List ℕ) (new : MarkSet)
    (new_hits : List ℕ) : Type 0 where
  pub marked : (patterns : List (List ℕ)) → length patterns ≡ length nexts → AreChained patterns nexts
      → IsClosedUnder patterns old → MayBegin patterns head
      → (place : ℕ) → place < length patterns → is_marked new place ≡ (is_marked old place || is_left patterns head place)
  pub listed : IsPermutation (numbers (is_marked old) 0 (length nexts)) old_hits
      → IsPermutation (numbers (is_marked new) 0 (length nexts)) new_hits

-- a chain's patterns are being marked and listed: those of the chain from a place on are left
pub record IsFollowing (nexts : List ℕ) (head : ℕ) (old : MarkSet) (old_hits : List ℕ) (at : ℕ) (new : MarkSet)
    (new_hits : List ℕ) : Type 0 where
  pub begins : (patterns : List (List ℕ)) → length patterns ≡ length nexts → AreChained patterns nexts → MayBegin patterns head
      → MayBegin patterns at
  pub part : (patterns : List (List ℕ)) → length patterns ≡ length nexts → AreChained patterns nexts → MayBegin patterns head
      → (place : ℕ) → place < length patterns → is_left patterns at place ≡ true → is_left patterns head place ≡ true
  pub before : (patterns : List (List ℕ)) → length patterns ≡ length nexts → AreChained patterns nexts → MayBegin patterns head
      → (place : ℕ) → place < length patterns → is_left patterns at place ≡ true → is_marked new place ≡ is_marked old place
  pub marked : (patterns : List (List ℕ)) → length patterns ≡ length nexts → AreChained patterns nexts → MayBegin patterns head
      → (place : ℕ) → place < length patterns → is_left patterns at place ≡ false
      → is_marked new place ≡ (is_marked old place || is_left patterns head place)
  pub listed : IsPermutation (numbers (is_marked old) 0 (length nexts)) old_hits
      → IsPermutation (numbers (is_marked new) 0 (length nexts)) new_hits

-- the patterns' words, by the letters
abbrev pub words_in : List ℕ → List (List ℕ) → List (List ℕ)
words_in letters patterns = map (word_of letters) patterns

-- the automaton finds these patterns
pub record Finds (automaton : Automaton) (patterns : List (List ℕ)) : Type 0 where
  pub words : List (List ℕ)
  pub ends : List ℕ
  pub told : AllTold automaton.letters patterns
  pub below : (byte : ℕ) → slice_index automaton.letters byte < automaton.trie.width
  pub deep : ℕ
  pub trie : IsTrieOf words automaton.trie deep
  pub closed : IsClosed words
  pub are : AreWords words (words_in automaton.letters patterns) ends
  pub failing : AreFailing words automaton.fails.items (length words)
  pub dense : (0 < automaton.dense) × (automaton.dense ≤ length words)
  pub long : length automaton.table.items ≡ automaton.dense * automaton.trie.width
  pub fits : automaton.dense * automaton.trie.width ≤ sparse
  pub rows : AreRows words automaton.trie.width automaton.entries.items automaton.table.items
  pub entries : AreEntries automaton.trie.width automaton.dense automaton.heads.items automaton.entries.items (length words)
  pub chains : (state : ℕ) → state < length words → IsHead (words_in automaton.letters patterns) (word_at words state)
      (slice_index automaton.heads.items state)
  pub nexts : AreChained (words_in automaton.letters patterns) automaton.nexts.items
  pub count : length automaton.nexts.items ≡ length patterns
  pub shallow : (state : ℕ) → state < length words → place_of automaton.trie.width automaton.dense state < automaton.shallow
      → length (word_at words state) ≤ few_letters
  pub sifts : IfSome automaton.sieve (λ sieve. Sifts sieve patterns)

-- what was found so far: patterns that are marked, and those that are listed
pub record Found : Type 0 where
  pub seen : MarkSet
  pub hits : List ℕ

abbrev pub so_far : MarkSet → List ℕ → Found
so_far seen hits = record { seen = seen; hits = hits }

-- after what was read, before which some patterns were marked, the walk is at a state's row, and has marked and listed
-- what has ended
pub record IsWalked (automaton : Automaton) (patterns words : List (List ℕ)) (read : List ℕ) (at : ℕ) (old : MarkSet)
    (new : Found) : Type 0 where
  pub state : ℕ
  pub within : state < length words
  pub row : at ≡ place_of automaton.trie.width automaton.dense state
  pub is : IsAt words read (word_at words state)
  pub marked : (place : ℕ) → place < length patterns → is_marked new.seen place
      ≡ (is_marked old place || is_ended patterns read place)
  pub listed : IsPermutation (numbers (is_marked new.seen) 0 (length patterns)) new.hits

-- a move from the state with a place
pub record Steps (automaton : Automaton) (at letter entry : ℕ) : Type 0 where
  pub stepped : (patterns : List (List ℕ)) (finds : Finds automaton patterns) (state : ℕ) → state < length finds.words
      → at ≡ place_of automaton.trie.width automaton.dense state → letter < automaton.trie.width
      → HasEntry finds.words automaton.entries.items state letter entry

-- a move from a state that has no row
pub record StepsBack (automaton : Automaton) (state letter entry : ℕ) : Type 0 where
  pub stepped : (patterns : List (List ℕ)) (finds : Finds automaton patterns) → state < length finds.words
      → letter < automaton.trie.width → HasEntry finds.words automaton.entries.items state letter entry

-- whatever the patterns are that the automaton finds, the walk is right so far
pub record Walks (automaton : Automaton) (read : List ℕ) (at : ℕ) (old : MarkSet) (old_hits : List ℕ) (seen : MarkSet)
    (hits : List ℕ) : Type 0 where
  pub walked : (patterns : List (List ℕ)) (finds : Finds automaton patterns)
      → IsClosedUnder (words_in automaton.letters patterns) old
      → IsPermutation (numbers (is_marked old) 0 (length (words_in automaton.letters patterns))) old_hits
      → IsWalked automaton (words_in automaton.letters patterns) finds.words read at old (so_far seen hits)

-- no pattern but such as occur is marked, and each one is that begins before a place, wherever it ends
pub record IsCovered (letters : List ℕ) (patterns : List (List ℕ)) (bytes : List ℕ) (done : ℕ) (seen : MarkSet)
    (hits : List ℕ) : Type 0 where
  pub sound : (place : ℕ) → place < length patterns → is_marked seen place ≡ true
      → is_ended patterns (word_of letters bytes) place ≡ true
  pub whole : (place end : ℕ) → place < length patterns → 0 < length (word_at patterns place) → end ≤ length bytes
      → end < done + length (word_at patterns place) → begins (word_at patterns place) (word_of letters (take end bytes)) ≡ true
      → is_marked seen place ≡ true
  pub closed : IsClosedUnder patterns seen
  pub listed : IsPermutation (numbers (is_marked seen) 0 (length patterns)) hits

-- whatever patterns the automaton finds, none is marked but such as occur, and each one is that begins before a place
pub record Covers (automaton : Automaton) (bytes : List ℕ) (done : ℕ) (seen : MarkSet) (hits : List ℕ) : Type 0 where
  pub covered : (patterns : List (List ℕ)) → Finds automaton patterns
      → IsCovered automaton.letters (words_in automaton.letters patterns) bytes done seen hits

-- where all that begins before one place was marked, all that begins before another is now
pub record CoversOn (automaton : Automaton) (bytes : List ℕ) (from : ℕ) (old : Found) (to : ℕ) (new : Found) : Type 0 where
  pub on : Covers automaton bytes from old.seen old.hits → Covers automaton bytes to new.seen new.hits

-- the chain of a state was marked and listed
pub record Marks (automaton : Automaton) (at : ℕ) (old : MarkSet) (old_hits : List ℕ) (new : MarkSet)
    (new_hits : List ℕ) : Type 0 where
  pub marked : (patterns : List (List ℕ)) → 0 < automaton.trie.width → length patterns ≡ length automaton.nexts.items
      → AreChained patterns automaton.nexts.items → IsClosedUnder patterns old
      → MayBegin patterns (slice_index automaton.heads.items (state_of automaton.trie.width at))
      → (place : ℕ) → place < length patterns → is_marked new place
      ≡ (is_marked old place || is_left patterns (slice_index automaton.heads.items (state_of automaton.trie.width at)) place)
  pub listed : IsPermutation (numbers (is_marked old) 0 (length automaton.nexts.items)) old_hits
      → IsPermutation (numbers (is_marked new) 0 (length automaton.nexts.items)) new_hits

-- whatever patterns the automaton finds, the hits are the places of those that occur in the text, each once, in any order
pub record AreHits (automaton : Automaton) (text hits : List ℕ) : Type 0 where
  pub found : (patterns : List (List ℕ)) → Finds automaton patterns → IsPermutation (occurring patterns text) hits

-- and in ascending order
pub record AreFound (automaton : Automaton) (text found : List ℕ) : Type 0 where
  pub told : (patterns : List (List ℕ)) → Finds automaton patterns → found ≡ occurring patterns text

-- a move was noted: the chain of the state that it goes to, if it says that a pattern ends there
pub record Notes (automaton : Automaton) (entry : ℕ) (old : MarkSet) (old_hits : List ℕ) (new : MarkSet)
    (new_hits : List ℕ) : Type 0 where
  pub marked : (patterns : List (List ℕ)) (head : ℕ) → 0 < automaton.trie.width → length patterns ≡ length automaton.nexts.items
      → AreChained patterns automaton.nexts.items → IsClosedUnder patterns old → MayBegin patterns head
      → head ≡ slice_index automaton.heads.items (state_of automaton.trie.width (entry / 2)) → (entry % 2 ≡ 0 → head ≡ 0)
      → (place : ℕ) → place < length patterns → is_marked new place ≡ (is_marked old place || is_left patterns head place)
  pub listed : IsPermutation (numbers (is_marked old) 0 (length automaton.nexts.items)) old_hits
      → IsPermutation (numbers (is_marked new) 0 (length automaton.nexts.items)) new_hits
