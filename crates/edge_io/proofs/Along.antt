-- The laws of answers along a list: joined inputs, maps, stages one after the other, and the inputs of one
-- class.
use Rattle.std.proofs.Common.{◌≡◌, Bool, true, false, cond, List, [], ◌∷◌, ◌++◌, length, map, refl, sym, ap, ◌∙◌, append_assoc, arith}
use Rattle.std.proofs.lemmas.List.{append-nil, map-append}
use Rattle.std.proofs.lemmas.List.Elements.{filter-append}
use Rattle.std.proofs.lemmas.Grind.{flat_map-append}
use Rattle.std.specs.List.{filter, flat_map}
use Rattle.edge_io.specs.Along.{along_from, along, trail_from, trail, chained, within, IsLocal, IsByClass, told}

-- ---- joined inputs

-- one answer an input
pub length-along_from : {X A : Type 0} (f : List X → X → A) (before xs : List X) → length (along_from f before xs) ≡ length xs
length-along_from f before [] = refl
length-along_from f before (x ∷ xs) = let rest = length-along_from f (before ++ x ∷ []) xs in omega (arith, rest)

-- the answers to joined inputs are the answers to the first, and then those that follow
pub along_from-append : {X A : Type 0} (f : List X → X → A) (before xs ys : List X) → along_from f before (xs ++ ys) ≡ along_from f before xs ++ along_from f (before ++ xs) ys
along_from-append f before [] ys = ap (λ front. along_from f front ys) (sym (append-nil before))
along_from-append f before (x ∷ xs) ys =
    ap (λ rest. f before x ∷ rest) (along_from-append f (before ++ x ∷ []) xs ys ∙ ap (λ front. along_from f (before ++ x ∷ []) xs ++ along_from f front ys) (append_assoc before (x ∷ []) xs))

pub along-append : {X A : Type 0} (f : List X → X → A) (xs ys : List X) → along f (xs ++ ys) ≡ along f xs ++ along_from f xs ys
along-append f xs ys = along_from-append f [] xs ys

-- the answers along joined inputs, where each input has a list of answers
pub trail_from-append : {X A : Type 0} (f : List X → X → List A) (before xs ys : List X) → trail_from f before (xs ++ ys) ≡ trail_from f before xs ++ trail_from f (before ++ xs) ys
trail_from-append f before [] ys = ap (λ front. trail_from f front ys) (sym (append-nil before))
trail_from-append f before (x ∷ xs) ys =
    ap (λ rest. f before x ++ rest) (trail_from-append f (before ++ x ∷ []) xs ys ∙ ap (λ front. trail_from f (before ++ x ∷ []) xs ++ trail_from f front ys) (append_assoc before (x ∷ []) xs))
    ∙ sym (append_assoc (f before x) (trail_from f (before ++ x ∷ []) xs) (trail_from f (before ++ x ∷ xs) ys))

pub trail-append : {X A : Type 0} (f : List X → X → List A) (xs ys : List X) → trail f (xs ++ ys) ≡ trail f xs ++ trail_from f xs ys
trail-append f xs ys = trail_from-append f [] xs ys

-- a batch more: what was given before it and what it gives is what all of it gives
pub pipe_more : {X A : Type 0} (f : List X → X → List A) (before rs : List X) → trail f before ++ trail_from f before rs ≡ trail f (before ++ rs)
pipe_more f before rs = sym (trail-append f before rs)

-- ---- functions before and after the answers

-- a function after the answers
pub map-along_from : {X A B : Type 0} (h : A → B) (f : List X → X → A) (before xs : List X) → map h (along_from f before xs) ≡ along_from (λ b x. h (f b x)) before xs
map-along_from h f before [] = refl
map-along_from h f before (x ∷ xs) = ap (λ rest. h (f before x) ∷ rest) (map-along_from h f (before ++ x ∷ []) xs)

-- a function before the inputs
pub along_from-map : {X Y A : Type 0} (h : X → Y) (f : List Y → Y → A) (before xs : List X) → along_from f (map h before) (map h xs) ≡ along_from (λ b x. f (map h b) (h x)) before xs
along_from-map h f before [] = refl
along_from-map h f before (x ∷ xs) =
    ap (λ rest. f (map h before) (h x) ∷ rest) (ap (λ front. along_from f front (map h xs)) (sym (map-append h before (x ∷ []))) ∙ along_from-map h f (before ++ x ∷ []) xs)

-- a list made of each answer, along lists of answers
pub flat_map-trail_from : {X A B : Type 0} (h : A → List B) (f : List X → X → List A) (before xs : List X) → flat_map h (trail_from f before xs) ≡ trail_from (λ b x. flat_map h (f b x)) before xs
flat_map-trail_from h f before [] = refl
flat_map-trail_from h f before (x ∷ xs) =
    flat_map-append h (f before x) (trail_from f (before ++ x ∷ []) xs) ∙ ap (λ rest. flat_map h (f before x) ++ rest) (flat_map-trail_from h f (before ++ x ∷ []) xs)

-- lists of answers along inputs that a function gives
pub trail_from-map : {X Y A : Type 0} (h : X → Y) (f : List Y → Y → List A) (before xs : List X) → trail_from f (map h before) (map h xs) ≡ trail_from (λ b x. f (map h b) (h x)) before xs
trail_from-map h f before [] = refl
trail_from-map h f before (x ∷ xs) =
    ap (λ rest. f (map h before) (h x) ++ rest) (ap (λ front. trail_from f front (map h xs)) (sym (map-append h before (x ∷ []))) ∙ trail_from-map h f (before ++ x ∷ []) xs)

-- answers that depend on nothing before
pub along_from-plain : {X A : Type 0} (h : X → A) (before xs : List X) → along_from (λ _ x. h x) before xs ≡ map h xs
along_from-plain h before [] = refl
along_from-plain h before (x ∷ xs) = ap (λ rest. h x ∷ rest) (along_from-plain h (before ++ x ∷ []) xs)

pub trail_from-plain : {X A : Type 0} (h : X → List A) (before xs : List X) → trail_from (λ _ x. h x) before xs ≡ flat_map h xs
trail_from-plain h before [] = refl
trail_from-plain h before (x ∷ xs) = ap (λ rest. h x ++ rest) (trail_from-plain h (before ++ x ∷ []) xs)

-- two ways of answering that agree
pub along_from-same : {X A : Type 0} (f g : List X → X → A) → ((before : List X) (x : X) → f before x ≡ g before x) → (before xs : List X) → along_from f before xs ≡ along_from g before xs
along_from-same f g same before [] = refl
along_from-same f g same before (x ∷ xs) =
    ap (λ answer. answer ∷ along_from f (before ++ x ∷ []) xs) (same before x) ∙ ap (λ rest. g before x ∷ rest) (along_from-same f g same (before ++ x ∷ []) xs)

pub trail_from-same : {X A : Type 0} (f g : List X → X → List A) → ((before : List X) (x : X) → f before x ≡ g before x) → (before xs : List X) → trail_from f before xs ≡ trail_from g before xs
trail_from-same f g same before [] = refl
trail_from-same f g same before (x ∷ xs) =
    ap (λ answers. answers ++ trail_from f (before ++ x ∷ []) xs) (same before x) ∙ ap (λ rest. g before x ++ rest) (trail_from-same f g same (before ++ x ∷ []) xs)

-- ---- stages, one after the other

-- one input more
pub trail-more : {X A : Type 0} (f : List X → X → List A) (before : List X) (x : X) → trail f before ++ f before x ≡ trail f (before ++ x ∷ [])
trail-more f before x = ap (λ answers. trail f before ++ answers) (sym (append-nil (f before x))) ∙ pipe_more f before (x ∷ [])

-- a stage over what the stage before it gives is one stage
pub trail_from-chained : {X B A : Type 0} (g : List B → B → List A) (f : List X → X → List B) (before xs : List X)
    → trail_from g (trail f before) (trail_from f before xs) ≡ trail_from (chained g f) before xs
trail_from-chained g f before [] = refl
trail_from-chained g f before (x ∷ xs) =
    trail_from-append g (trail f before) (f before x) (trail_from f (before ++ x ∷ []) xs)
    ∙ ap (λ front. chained g f before x ++ trail_from g front (trail_from f (before ++ x ∷ []) xs)) (trail-more f before x)
    ∙ ap (λ rest. chained g f before x ++ rest) (trail_from-chained g f (before ++ x ∷ []) xs)

pub trail-chained : {X B A : Type 0} (g : List B → B → List A) (f : List X → X → List B) (xs : List X) → trail g (trail f xs) ≡ trail (chained g f) xs
trail-chained g f xs = trail_from-chained g f [] xs

-- ---- inputs of one class

-- a test after a test
filter-filter : {X : Type 0} (p q : X → Bool) → ((x : X) → p x ≡ true → q x ≡ true) → (xs : List X) → filter p (filter q xs) ≡ filter p xs
filter-filter p q implied [] = refl
filter-filter p q implied (x ∷ xs) = by_case (p x) (q x) refl refl (filter-filter p q implied xs)
  where
    by_case : (b c : Bool) → p x ≡ b → q x ≡ c → filter p (filter q xs) ≡ filter p xs → filter p (cond c (x ∷ filter q xs) (filter q xs)) ≡ cond b (x ∷ filter p xs) (filter p xs)
    by_case true true is kept rest = ap (λ t. cond t (x ∷ filter p (filter q xs)) (filter p (filter q xs))) is ∙ ap (λ r. x ∷ r) rest
    by_case true false is kept rest = let there = implied x is in cc
    by_case false true is kept rest = ap (λ t. cond t (x ∷ filter p (filter q xs)) (filter p (filter q xs))) is ∙ rest
    by_case false false is kept rest = rest

-- an answer within classes is local
pub within-local : {X A : Type 0} (same : X → X → Bool) (f : List X → X → A) → IsLocal same (within same f)
within-local same f before x = ap (λ front. f front x) (sym (filter-filter (same x) (same x) (λ y is. is) before))

-- Where an answer is local, the answers at the inputs that a test by class keeps are the answers to
-- the inputs that it keeps.
pub along_from-class : {X A : Type 0} (same : X → X → Bool) (keep : X → Bool) (f : List X → X → A) → IsLocal same f → IsByClass same keep → (before xs : List X)
    → along_from f (filter keep before) (filter keep xs) ≡ map (λ p. p.1) (filter (λ p. keep p.0) (along_from (told f) before xs))
along_from-class same keep f local by_class before [] = refl
along_from-class {X} {A} same keep f local by_class before (x ∷ xs) = by_case (keep x) refl (along_from-class same keep f local by_class (before ++ x ∷ []) xs)
  where
    kept : List A
    kept = map (λ p. p.1) (filter (λ p. keep p.0) (along_from (told f) (before ++ x ∷ []) xs))

    front : (b : Bool) → keep x ≡ b → filter keep (before ++ x ∷ []) ≡ filter keep before ++ cond b (x ∷ []) []
    front b is = filter-append keep before (x ∷ []) ∙ ap (λ t. filter keep before ++ cond t (x ∷ []) []) is

    answer : keep x ≡ true → f (filter keep before) x ≡ f before x
    answer is =
        local (filter keep before) x
        ∙ ap (λ b. f b x) (filter-filter (same x) keep (λ y there. sym (by_class x y there) ∙ is) before)
        ∙ sym (local before x)

    by_case : (b : Bool)
        → keep x ≡ b
        → along_from f (filter keep (before ++ x ∷ [])) (filter keep xs) ≡ kept
        → along_from f (filter keep before) (cond b (x ∷ filter keep xs) (filter keep xs)) ≡
        map (λ p. p.1)
        (cond b ((x, f before x) ∷ filter (λ p. keep p.0) (along_from (told f) (before ++ x ∷ []) xs))
        (filter (λ p. keep p.0) (along_from (told f) (before ++ x ∷ []) xs)))
    by_case true is rest =
        ap (λ b. f (filter keep before) x ∷ along_from f b (filter keep xs)) (sym (front true is))
        ∙ ap (λ r. f (filter keep before) x ∷ r) rest ∙ ap (λ a. a ∷ kept) (answer is)
    by_case false is rest =
        ap (λ b. along_from f b (filter keep xs)) (sym (append-nil (filter keep before)) ∙ sym (front false is)) ∙ rest
