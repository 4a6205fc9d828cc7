-- What has ended somewhere, read backwards in letters, occurs in the payload.
use Rattle.std.proofs.Common.{◌≡◌, ℕ, ◌<◌, ◌==◌, Bool, true, false, ◌&&◌, ◌||◌, eqb, List, [], ◌∷◌, ◌++◌, length, take, map}
use Rattle.std.proofs.Common.{reverse, slice_index, All, sym, refl, ap, subst, ◌∙◌, arith, ⊎_elim, append_assoc}
use Rattle.std.specs.List.{list_any}
use Rattle.std.specs.Cmp.Lexicographic.{pointwise}
use Rattle.std.specs.Char.{to_ascii_lowercase}
use Rattle.std.proofs.lemmas.List.{reverse-append, reverse-reverse}
use Rattle.std.proofs.lemmas.List.Elements.{All-head, All-tail}
use Rattle.std.proofs.lemmas.Bool.{false≢true, or_cases, or_left, or_right, and_parts, and_from, eq-eqb, eqb-true}
use Rattle.edge_io.specs.Matching as matching
use Rattle.pattern_search.specs.Letters.{lower, IsTold}
use Rattle.pattern_search.specs.Occurring.{occurs}
use Rattle.pattern_search.specs.Words.{begins, has_ended, word_of}
use Rattle.pattern_search.proofs.States.Words.{same_bools}

abbrev pub Infix : List ℕ → List ℕ → Type 0
Infix needle hay = (front : List ℕ) × (back : List ℕ) × (hay ≡ front ++ (needle ++ back))

pub begins-split : (word text : List ℕ) → begins word text ≡ true → (back : List ℕ) × (text ≡ word ++ back)
unfolding begins
begins-split [] text b = (text, refl)
begins-split (x ∷ word) [] b = absurd (false≢true b)
begins-split (x ∷ word) (y ∷ text) b =
    let parts = and_parts (eqb x y) (begins word text) b in
    let rest = begins-split word text parts.1 in
    (rest.0, ap (λ z. z ∷ text) (sym (eqb-true x y parts.0)) ∙ ap (λ ys. x ∷ ys) rest.1)

begins-front : (word back : List ℕ) → begins word (word ++ back) ≡ true
unfolding begins
begins-front [] back = refl
begins-front (x ∷ word) back = and_from (eqb x x) (begins word (word ++ back)) (eq-eqb x x refl) (begins-front word back)

pub ended-here : (word text : List ℕ) → begins word text ≡ true → has_ended word text ≡ true
unfolding has_ended
ended-here word [] b = b
ended-here word (x ∷ text) b = or_left (begins word (x ∷ text)) (has_ended word text) b

pub ended-infix : (word text : List ℕ) → has_ended word text ≡ true → Infix word text
unfolding has_ended
ended-infix word [] e = let s = begins-split word [] e in ([], s.0, s.1)
ended-infix word (x ∷ text) e = ⊎_elim
    (λ here. let s = begins-split word (x ∷ text) here in ([], s.0, s.1))
    (λ later. let s = ended-infix word text later in (x ∷ s.0, s.1, ap (λ ys. x ∷ ys) s.2))
    (or_cases (begins word (x ∷ text)) (has_ended word text) e)

pub infix-ended : (word front back : List ℕ) → has_ended word (front ++ (word ++ back)) ≡ true
unfolding has_ended
infix-ended word [] back = ended-here word (word ++ back) (begins-front word back)
infix-ended word (x ∷ front) back = or_right (begins word (x ∷ (front ++ (word ++ back)))) (has_ended word (front ++ (word ++ back))) (infix-ended word front back)

turned : (word text : List ℕ) → Infix word text → Infix (reverse word) (reverse text)
turned word text is =
    let front = is.0 in
    let back = is.1 in (
      reverse back,
      reverse front,
      ap reverse is.2
          ∙ reverse-append front (word ++ back)
          ∙ ap (λ ys. ys ++ reverse front) (reverse-append word back)
          ∙ append_assoc (reverse back) (reverse word) (reverse front),
    )

ended-by : (word text : List ℕ) → Infix word text → has_ended word text ≡ true
ended-by word text is = ap (has_ended word) is.2 ∙ infix-ended word is.0 is.1

pub ended-turned : (word text : List ℕ) → has_ended (reverse word) (reverse text) ≡ has_ended word text
ended-turned word text = same_bools (has_ended (reverse word) (reverse text)) (has_ended word text)
    (λ e.
    let back = turned (reverse word) (reverse text) (ended-infix (reverse word) (reverse text) e) in
    let P : List ℕ → Type 0 = λ w. Infix w text in
    let Q : List ℕ → Type 0 = λ t. Infix (reverse (reverse word)) t in
    ended-by word text (subst P (reverse-reverse word) (subst Q (reverse-reverse text) back)))
    (λ e. ended-by (reverse word) (reverse text) (turned word text (ended-infix word text e)))

-- letters or bytes in lower case tell the same
module _ (letters : List ℕ) where
  begins-told : (pattern text : List ℕ)
      → All (IsTold letters) pattern
      → All (λ byte. byte < 256) text
      → begins (map (slice_index letters) pattern) (map (slice_index letters) text) ≡ begins (map lower pattern) (map lower text)
  unfolding begins
  begins-told [] text told short = refl
  begins-told (x ∷ pattern) [] told short = refl
  begins-told (x ∷ pattern) (y ∷ text) told short =
      let first : (slice_index letters x == slice_index letters y) ≡ (lower x == lower y) = (All-head (IsTold letters) x pattern told).apart y (short 0 y (omega arith)) in
      ap (λ b. b && begins (map (slice_index letters) pattern) (map (slice_index letters) text)) first
      ∙ ap (λ b. (lower x == lower y) && b) (begins-told pattern text (All-tail (IsTold letters) x pattern told) (All-tail (λ byte. byte < 256) y text short))

  ended-told : (pattern text : List ℕ)
      → All (IsTold letters) pattern
      → All (λ byte. byte < 256) text
      → has_ended (map (slice_index letters) pattern) (map (slice_index letters) text) ≡
      has_ended (map lower pattern) (map lower text)
  unfolding has_ended
  ended-told pattern [] told short = begins-told pattern [] told short
  ended-told pattern (y ∷ text) told short =
      ap (λ b. b || has_ended (map (slice_index letters) pattern) (map (slice_index letters) text)) (begins-told pattern (y ∷ text) told short)
      ∙ ap (λ b. begins (map lower pattern) (map lower (y ∷ text)) || b) (ended-told pattern text told (All-tail (λ byte. byte < 256) y text short))

-- the definition by tails
pointwise-begins : (word text : List ℕ) → pointwise eqb word (take (length word) text) ≡ begins word text
unfolding begins
pointwise-begins [] text = refl
pointwise-begins (x ∷ word) [] = refl
pointwise-begins (x ∷ word) (y ∷ text) = ap (λ b. eqb x y && b) (pointwise-begins word text)

begins-matching : (pattern text : List ℕ) → matching.begins true pattern text ≡ begins (map lower pattern) (map lower text)
unfolding lower
begins-matching pattern text = pointwise-begins (map to_ascii_lowercase pattern) (map to_ascii_lowercase text)

tails-ended : (pattern text : List ℕ) → list_any (matching.begins true pattern) (matching.tails text) ≡ has_ended (map lower pattern) (map lower text)
unfolding has_ended
tails-ended pattern [] = or-none (matching.begins true pattern []) ∙ begins-matching pattern []
  where
    or-none : (b : Bool) → (b || false) ≡ b
    or-none true = refl
    or-none false = refl
tails-ended pattern (x ∷ text) =
    ap (λ b. b || list_any (matching.begins true pattern) (matching.tails text)) (begins-matching pattern (x ∷ text))
    ∙ ap (λ b. begins (map lower pattern) (map lower (x ∷ text)) || b) (tails-ended pattern text)

pub ended-occurs : (letters pattern payload : List ℕ)
    → All (IsTold letters) pattern
    → All (λ byte. byte < 256) payload
    → has_ended (word_of letters pattern) (word_of letters payload) ≡ occurs pattern payload
unfolding word_of occurs
ended-occurs letters pattern payload told short =
    ended-turned (map (slice_index letters) pattern) (map (slice_index letters) payload)
    ∙ ended-told letters pattern payload told short
    ∙ sym (tails-ended pattern payload)

-- an empty pattern occurs everywhere
pub empty-occurs : (payload : List ℕ) → occurs [] payload ≡ true
unfolding occurs
empty-occurs payload = tails-ended [] payload ∙ ended-here [] (map lower payload) (begins-front [] (map lower payload))

pub infix-occurs : (pattern payload front back : List ℕ) → map lower payload ≡ front ++ (map lower pattern ++ back) → occurs pattern payload ≡ true
unfolding occurs
infix-occurs pattern payload front back e = tails-ended pattern payload ∙ ended-by (map lower pattern) (map lower payload) (front, back, e)
