-- Laws of words that begin a list.
use Rattle.std.proofs.Common.{◌≡◌, ℕ, ◌<◌, ◌≤◌, ◌==◌, Bool, true, false, ◌&&◌, ◌||◌, eqb, List, [], ◌∷◌, length, sym, refl, ap, ◌∙◌, arith, ⊎_elim}
use Rattle.std.proofs.lemmas.Bool.{false≢true, and_parts, and_from, or_cases, or_left, or_right, cases_lt, cases_eq, eqb-true, eq-eqb, false_from_ne_true}
use Rattle.pattern_search.specs.Words.{begins, has_ended, word_at, IsClosed, IsAt, IsFail}

pub same_bools : (a b : Bool) → (a ≡ true → b ≡ true) → (b ≡ true → a ≡ true) → a ≡ b
same_bools true b f g = sym (f refl)
same_bools false true f g = g refl
same_bools false false f g = refl

pub begins-self : (word : List ℕ) → begins word word ≡ true
unfolding begins
begins-self [] = refl
begins-self (letter ∷ word) = and_from (eqb letter letter) (begins word word) (eq-eqb letter letter refl) (begins-self word)

pub begins-length : (word text : List ℕ) → begins word text ≡ true → length word ≤ length text
unfolding begins
begins-length [] text b = omega arith
begins-length (letter ∷ word) [] b = absurd (false≢true b)
begins-length (letter ∷ word) (other ∷ text) b = omega (arith, begins-length word text (and_parts (eqb letter other) (begins word text) b).1)

pub begins-same : (word text : List ℕ) → begins word text ≡ true → length text ≤ length word → word ≡ text
unfolding begins
begins-same [] [] b h = refl
begins-same [] (other ∷ text) b h = absurd (omega arith)
begins-same (letter ∷ word) [] b h = absurd (false≢true b)
begins-same (letter ∷ word) (other ∷ text) b h =
    let parts = and_parts (eqb letter other) (begins word text) b in
    let rest = begins-same word text parts.1 (omega arith) in
    let first = eqb-true letter other parts.0 in
    cc

pub begins-trans : (one word text : List ℕ) → begins one word ≡ true → begins word text ≡ true → begins one text ≡ true
unfolding begins
begins-trans [] word text a b = refl
begins-trans (x ∷ one) [] text a b = absurd (false≢true a)
begins-trans (x ∷ one) (y ∷ word) [] a b = absurd (false≢true b)
begins-trans (x ∷ one) (y ∷ word) (z ∷ text) a b =
    let p = and_parts (eqb x y) (begins one word) a in
    let q = and_parts (eqb y z) (begins word text) b in
    and_from (eqb x z) (begins one text) (eq-eqb x z (eqb-true x y p.0 ∙ eqb-true y z q.0)) (begins-trans one word text p.1 q.1)

pub begins-empty : (word text : List ℕ) → length word ≡ 0 → begins word text ≡ true
unfolding begins
begins-empty [] text h = refl
begins-empty (x ∷ word) text h = absurd (omega arith)

pub begins-none : (word : List ℕ) → 0 < length word → begins word [] ≡ false
unfolding begins
begins-none [] h = absurd (omega arith)
begins-none (x ∷ word) h = refl

pub begins-cons : (by : ℕ) (word : List ℕ) (letter : ℕ) (text : List ℕ) → begins (by ∷ word) (letter ∷ text) ≡ ((by == letter) && begins word text)
unfolding begins
begins-cons by word letter text = refl

-- too long a word doesn't begin a text
pub begins-long : (word text : List ℕ) → length text < length word → begins word text ≡ false
begins-long word text h = false_from_ne_true (begins word text) (λ b. omega (arith, begins-length word text b))

pub ended-push : (word : List ℕ) (letter : ℕ) (earlier : List ℕ) → has_ended word (letter ∷ earlier) ≡ (begins word (letter ∷ earlier) || has_ended word earlier)
unfolding has_ended
ended-push word letter earlier = refl

pub ended-none : (word : List ℕ) → 0 < length word → has_ended word [] ≡ false
unfolding has_ended
ended-none word h = begins-none word h

-- where a word has ended, each word that it ends in has ended too
pub ended-suffix : (one word read : List ℕ) → begins one word ≡ true → has_ended word read ≡ true → has_ended one read ≡ true
unfolding has_ended
ended-suffix one word [] a b = begins-trans one word [] a b
ended-suffix one word (letter ∷ earlier) a b =
    ⊎_elim
    (λ here. or_left (begins one (letter ∷ earlier)) (has_ended one earlier) (begins-trans one word (letter ∷ earlier) a here))
    (λ before. or_right (begins one (letter ∷ earlier)) (has_ended one earlier) (ended-suffix one word earlier a before))
    (or_cases (begins word (letter ∷ earlier)) (has_ended word earlier) b)

module _ (words : List (List ℕ)) (closed : IsClosed words) where
  -- a state's word against a text with one letter more, by the word above it
  by_letter : (state : ℕ) (h : state < length words) (letter : ℕ) (text other : List ℕ)
      → ((up : ℕ) → up < length words → (by : ℕ) → word_at words state ≡ by ∷ word_at words up →
      ((by == letter) && begins (word_at words up) text) ≡ begins (word_at words state) other)
      → begins (word_at words state) (letter ∷ text) ≡ begins (word_at words state) other
  by_letter state h letter text other step =
      ⊎_elim
      (λ empty. begins-empty (word_at words state) (letter ∷ text) empty ∙ sym (begins-empty (word_at words state) other empty))
      (λ some.
      let grown = closed state h (omega arith) in
      ap (λ w. begins w (letter ∷ text)) grown.3 ∙ begins-cons grown.1 (word_at words grown.0) letter text ∙ step grown.0 grown.2 grown.1 grown.3)
      (cases_eq (length (word_at words state)) 0)

  -- one letter on: the state after what was read and the letter is that after the state's word and the letter
  pub walk-step : (read word next : List ℕ) (letter : ℕ) → IsAt words read word → IsAt words (letter ∷ word) next → IsAt words (letter ∷ read) next
  walk-step read word next letter at step state h =
      by_letter state h letter read next (λ up within by grown.
      ap (λ b. (by == letter) && b) (at up within)
      ∙ sym (ap (λ w. begins w (letter ∷ word)) grown ∙ begins-cons by (word_at words up) letter word)
      ∙ step state h)

  -- where no word is longer by the letter, the state is that after the shorter word and the letter
  pub fail-step : (word fail next : List ℕ) (letter : ℕ)
      → IsFail words word fail
      → ((other : ℕ) → other < length words → word_at words other ≡ letter ∷ word → ⊥)
      → IsAt words (letter ∷ fail) next
      → IsAt words (letter ∷ word) next
  fail-step word fail next letter is lacks step state h =
      by_letter state h letter word next (λ up within by grown.
      ⊎_elim
      (λ short. ap (λ b. (by == letter) && b) (is.same up within short) ∙ sym (ap (λ w. begins w (letter ∷ fail)) grown ∙ begins-cons by (word_at words up) letter fail) ∙ step state h)
      (λ long.
      let none : ((by == letter) && begins (word_at words up) word) ≡ false = false_from_ne_true ((by == letter) && begins (word_at words up) word) (λ b.
      let parts = and_parts (by == letter) (begins (word_at words up) word) b in
      let same = begins-same (word_at words up) word parts.1 long in
      let first = eqb-true by letter parts.0 in
      lacks state h (grown ∙ ap (λ x. x ∷ word_at words up) first ∙ ap (λ w. letter ∷ w) same)) in
      let long_enough : length (letter ∷ fail) < length (word_at words state) = omega (arith, is.shorter, ap length grown) in
      none ∙ sym (begins-long (word_at words state) (letter ∷ fail) long_enough) ∙ step state h)
      (cases_lt (length (word_at words up)) (length word)))

  -- the root, where no word has the letter alone
  pub root-step : (letter : ℕ) → ((other : ℕ) → other < length words → word_at words other ≡ letter ∷ [] → ⊥) → IsAt words (letter ∷ []) []
  root-step letter lacks state h =
      by_letter state h letter [] [] (λ up within by grown.
      let long_enough : 0 < length (word_at words state) = omega (arith, ap length grown) in
      let none : ((by == letter) && begins (word_at words up) []) ≡ false = false_from_ne_true ((by == letter) && begins (word_at words up) []) (λ b.
      let parts = and_parts (by == letter) (begins (word_at words up) []) b in
      let same = begins-same (word_at words up) [] parts.1 (omega arith) in
      let first = eqb-true by letter parts.0 in
      lacks state h (grown ∙ ap (λ x. x ∷ word_at words up) first ∙ ap (λ w. letter ∷ w) same)) in
      none ∙ sym (begins-none (word_at words state) long_enough))

  -- the longest word that a word with one letter more ends in
  pub fail-child : (word fail : List ℕ) (letter next : ℕ)
      → IsFail words word fail
      → next < length words
      → IsAt words (letter ∷ fail) (word_at words next)
      → IsFail words (letter ∷ word) (word_at words next)
  fail-child word fail letter next is within step = record {
    shorter = omega (arith, is.shorter, begins-length (word_at words next) (letter ∷ fail) (step next within ∙ begins-self (word_at words next)));
    same = λ state h short. by_letter state h letter word (word_at words next) (λ up above by grown.
        ap (λ b. (by == letter) && b) (is.same up above (omega (arith, ap length grown)))
        ∙ sym (ap (λ w. begins w (letter ∷ fail)) grown ∙ begins-cons by (word_at words up) letter fail)
        ∙ step state h);
  }

pub fail-first : (words : List (List ℕ)) (letter : ℕ) → IsFail words (letter ∷ []) []
fail-first words letter = record {
  shorter = omega arith;
  same = λ state h short. begins-empty (word_at words state) (letter ∷ []) (omega arith) ∙ sym (begins-empty (word_at words state) [] (omega arith));
}

-- the words that end with a state's: its own, and those that end with its fail's
pub end-step : (words : List (List ℕ)) (fail : List ℕ) (state end : ℕ)
    → state < length words
    → end < length words
    → ((one other : ℕ) → one < length words → other < length words → word_at words one ≡ word_at words other → one ≡ other)
    → IsFail words (word_at words state) fail
    → begins (word_at words end) (word_at words state) ≡ ((end == state) || begins (word_at words end) fail)
end-step words fail state end h within apart is =
    let one = word_at words end in
    let word = word_at words state in
    same_bools (begins one word) ((end == state) || begins one fail)
    (λ b. ⊎_elim
    (λ short. or_right (end == state) (begins one fail) (sym (is.same end within short) ∙ b))
    (λ long. or_left (end == state) (begins one fail) (eq-eqb end state (apart end state within h (begins-same one word b long))))
    (cases_lt (length one) (length word)))
    (λ b. ⊎_elim
    (λ e. let same = eqb-true end state e in ap (λ s. begins (word_at words s) word) same ∙ begins-self word)
    (λ f. is.same end within (omega (arith, begins-length one fail f, is.shorter)) ∙ f)
    (or_cases (end == state) (begins one fail) b))
