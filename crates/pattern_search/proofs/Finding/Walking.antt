-- The walk, a byte at a time.
use Rattle.std.proofs.Common.{◌≡◌, ℕ, ◌+◌, ◌*◌, ◌/◌, ◌<◌, Bool, true, false, ◌&&◌, ◌||◌, ltb, List, [], ◌∷◌, length, take, get_or, slice_index, sym, refl, ap, subst, ◌∙◌, arith, ⊎_elim}
use Rattle.std.specs.List.Sorted.{IsPermutation}
use Rattle.std.proofs.lemmas.List.{length-map}
use Rattle.std.proofs.lemmas.Bool.{cases_eq, lt-ltb, le-ltb, ltb-true, and_parts, and_from, or_cases, or_left, or_right}
use Rattle.pattern_search.specs.declared.automaton.Automaton.{Automaton}
use Rattle.pattern_search.specs.declared.seen.MarkSet.{MarkSet}
use Rattle.pattern_search.specs.Marking.{is_marked}
use Rattle.pattern_search.specs.Words.{begins, has_ended, word_of, word_at, IsAt}
use Rattle.pattern_search.specs.Outputs.{is_left, ends_word, AreWords}
use Rattle.pattern_search.specs.Rows.{state_of}
use Rattle.pattern_search.specs.Occurring.{numbers}
use Rattle.pattern_search.specs.Finding.{is_ended, IsClosedUnder, words_in, Steps, Walks, Notes}
use Rattle.pattern_search.proofs.States.Words.{ended-push, ended-none, ended-suffix, walk-step}
use Rattle.pattern_search.proofs.States.Growing.{word_of-more}
use Rattle.pattern_search.proofs.States.Stepping.{place-row, state-place, halves}

pub word_of-none : (letters : List ℕ) → word_of letters [] ≡ []
unfolding word_of
word_of-none letters = refl

pub ended-tells : (patterns : List (List ℕ)) (read : List ℕ) (place : ℕ)
    → is_ended patterns read place ≡ true
    → (0 < length (word_at patterns place)) × (has_ended (word_at patterns place) read ≡ true)
unfolding is_ended
ended-tells patterns read place e =
    let parts = and_parts (ltb 0 (length (word_at patterns place))) (has_ended (word_at patterns place) read) e in
    (ltb-true 0 (length (word_at patterns place)) parts.0, parts.1)

pub ended-from : (patterns : List (List ℕ)) (read : List ℕ) (place : ℕ) → 0 < length (word_at patterns place) → has_ended (word_at patterns place) read ≡ true → is_ended patterns read place ≡ true
unfolding is_ended
ended-from patterns read place some e = and_from (ltb 0 (length (word_at patterns place))) (has_ended (word_at patterns place) read) (lt-ltb 0 (length (word_at patterns place)) some) e

ended-start : (patterns : List (List ℕ)) (place : ℕ) → is_ended patterns [] place ≡ false
unfolding is_ended
ended-start patterns place = ⊎_elim
    (λ empty. ap (λ b. b && has_ended (word_at patterns place) []) (le-ltb 0 (length (word_at patterns place)) (omega (arith, empty))))
    (λ some. ap (λ b. b && has_ended (word_at patterns place) []) (lt-ltb 0 (length (word_at patterns place)) (omega arith)) ∙ ended-none (word_at patterns place) (omega arith))
    (cases_eq (length (word_at patterns place)) 0)

-- one letter on, what ended before or ends here
ended-more : (words patterns : List (List ℕ)) (ends : List ℕ) (read : List ℕ) (letter state place : ℕ)
    → AreWords words patterns ends
    → IsAt words (letter ∷ read) (word_at words state)
    → place < length patterns
    → (is_ended patterns read place || ends_word patterns (word_at words state) place) ≡ is_ended patterns (letter ∷ read) place
unfolding is_ended ends_word
ended-more words patterns ends read letter state place are at h =
    let word = word_at patterns place in
    let here : begins word (letter ∷ read) ≡ begins word (word_at words state) =
    ap (λ w. begins w (letter ∷ read)) (sym (are.word place h))
    ∙ at (slice_index ends place) (are.within place h)
    ∙ ap (λ w. begins w (word_at words state)) (are.word place h) in
    go (ltb 0 (length word)) (has_ended word read) (begins word (word_at words state))
    ∙ ap (λ b. ltb 0 (length word) && b) (ap (λ b. b || has_ended word read) (sym here) ∙ sym (ended-push word letter read))
  where
    go : (n e b : Bool) → ((n && e) || (n && b)) ≡ (n && (b || e))
    go true true true = refl
    go true true false = refl
    go true false true = refl
    go true false false = refl
    go false e b = refl

closed-under : (patterns : List (List ℕ)) (read : List ℕ) (first seen : MarkSet)
    → IsClosedUnder patterns first
    → ((place : ℕ) → place < length patterns → is_marked seen place ≡ (is_marked first place || is_ended patterns read place))
    → IsClosedUnder patterns seen
closed-under patterns read first seen closed marked one other j k m some b = marked one j ∙ ⊎_elim
    (λ before. or_left (is_marked first one) (is_ended patterns read one) (closed one other j k before some b))
    (λ here.
    let tells = ended-tells patterns read other here in
    or_right (is_marked first one) (is_ended patterns read one) (ended-from patterns read one some (ended-suffix (word_at patterns one) (word_at patterns other) read b tells.1)))
    (or_cases (is_marked first other) (is_ended patterns read other) (sym (marked other k) ∙ m))

pub count-words : (letters : List ℕ) (patterns : List (List ℕ)) → length (words_in letters patterns) ≡ length patterns
count-words letters patterns = length-map patterns (word_of letters)

pub walks-none : (automaton : Automaton) (bytes : List ℕ) (seen : MarkSet) (hits : List ℕ) → Walks automaton (word_of automaton.letters (take 0 bytes)) 0 seen hits seen hits
walks-none automaton bytes seen hits =
    let P : List ℕ → Type 0 = λ read. Walks automaton read 0 seen hits seen hits in
    subst P (sym (word_of-none automaton.letters)) (record {
      walked = λ patterns finds closed listed.
          record {
            state = 0;
            within = omega (arith, finds.dense.0, finds.dense.1);
            row = sym (place-row automaton.trie.width automaton.dense 0 finds.dense.0 ∙ none-row automaton.trie.width);
            is = λ state h. ap (begins (word_at finds.words state)) (sym finds.trie.root);
            marked = λ place h. sym (ap (λ b. is_marked seen place || b) (ended-start (words_in automaton.letters patterns) place) ∙ or-nothing (is_marked seen place));
            listed = listed;
          };
    })
  where
    none-row : (width : ℕ) → 0 * width ≡ 0
    none-row width = omega arith

    or-nothing : (b : Bool) → (b || false) ≡ b
    or-nothing true = refl
    or-nothing false = refl

pub walks-more : (automaton : Automaton) (bytes : List ℕ) (i at letter entry : ℕ) (first old new : MarkSet)
    (first_hits old_hits new_hits : List ℕ)
    → Walks automaton (word_of automaton.letters (take i bytes)) at first first_hits old old_hits
    → i < length bytes
    → letter ≡ slice_index automaton.letters (get_or bytes i 0)
    → Steps automaton at letter entry
    → Notes automaton entry old old_hits new new_hits
    → Walks automaton (word_of automaton.letters (take (i + 1) bytes)) (entry / 2) first first_hits new new_hits
walks-more automaton bytes i at letter entry first old new first_hits old_hits new_hits was h letter_is steps notes =
    let read = word_of automaton.letters (take i bytes) in
    let P : List ℕ → Type 0 = λ r. Walks automaton r (entry / 2) first first_hits new new_hits in
    subst P (ap (λ l. l ∷ read) letter_is ∙ sym (word_of-more automaton.letters bytes i h)) (record {
      walked = λ patterns finds closed listed.
          let w = was.walked patterns finds closed listed in
          let words = finds.words in
          let pats = words_in automaton.letters patterns in
          let wide : letter < automaton.trie.width = omega (arith, letter_is, finds.below (get_or bytes i 0)) in
          let has = steps.stepped patterns finds w.state w.within w.row wide in
          let head = slice_index automaton.heads.items has.next in
          let chain = finds.chains has.next has.within in
          let half =
          halves automaton.trie.width automaton.dense automaton.heads.items has.next entry
          (has.is ∙ finds.entries.each has.next has.within) in
          let state : state_of automaton.trie.width (entry / 2) ≡ has.next =
          ap (state_of automaton.trie.width) half.0
          ∙ state-place automaton.trie.width automaton.dense has.next (omega arith) finds.fits in
          let known : head ≡ slice_index automaton.heads.items (state_of automaton.trie.width (entry / 2)) =
          ap (slice_index automaton.heads.items) (sym state) in
          let at_next = walk-step words finds.closed read (word_at words w.state) (word_at words has.next) letter w.is has.at in
          let count : length pats ≡ length automaton.nexts.items = count-words automaton.letters patterns ∙ sym finds.count in
          record {
            state = has.next;
            within = has.within;
            row = half.0;
            is = at_next;
            marked = λ place k.
                notes.marked pats head (omega arith) count finds.nexts (closed-under pats read first old closed w.marked)
                (chain.within, chain.some) known half.1 place k
                ∙ ap (λ b. b || is_left pats head place) (w.marked place k)
                ∙ ap (λ b. (is_marked first place || is_ended pats read place) || b) (chain.left place k)
                ∙ or-shift (is_marked first place) (is_ended pats read place) (ends_word pats (word_at words has.next) place)
                ∙ ap (λ b. is_marked first place || b)
                (ended-more words pats finds.ends read letter has.next place finds.are at_next k);
            listed =
                let Q : ℕ → Type 0 = λ n. IsPermutation (numbers (is_marked old) 0 n) old_hits in
                let R : ℕ → Type 0 = λ n. IsPermutation (numbers (is_marked new) 0 n) new_hits in
                subst R (sym count) (notes.listed (subst Q count w.listed));
          };
    })
  where
    or-shift : (a b c : Bool) → ((a || b) || c) ≡ (a || (b || c))
    or-shift true b c = refl
    or-shift false b c = refl
