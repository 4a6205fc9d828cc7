-- The laws of answers whose inputs are beside what they come from.
use Rattle.std.proofs.Common.{◌≡◌, ℕ, zero, suc, ◌+◌, ◌<◌, List, [], ◌∷◌, ◌++◌, Some, length, map, refl, sym, ap, ap₂, ◌∙◌, append_assoc, arith, slice_get, length-append}
use Rattle.std.specs.Prelude.{option_and_then, replicate, unwrap_or}
use Rattle.std.specs.List.{flat_map}
use Rattle.std.proofs.lemmas.List.{append-nil, length-map, length-replicate, map-append}
use Rattle.edge_io.specs.Along.{along_from, trail, trail_from, chained}
use Rattle.edge_io.proofs.Along.{pipe_more, trail-more}
use Rattle.alert_lines.specs.Beside.{Beside, beside, by_place, carried, own, places_along, source_in, whats}

-- ---- without the sources

pub whats-beside : {S X : Type 0} (source : S) (xs : List X) → whats (map (beside source) xs) ≡ xs
whats-beside source [] = refl
whats-beside source (x ∷ xs) = ap (λ l. x ∷ l) (whats-beside source xs)

pub whats-append : {S X : Type 0} (front back : List (Beside S X)) → whats (front ++ back) ≡ whats front ++ whats back
whats-append {S} {X} front back = map-append (λ (b : Beside S X). b.what) front back

pub whats-carried : {S X A : Type 0} (f : List X → X → List A) (before : List X) (all : List (Beside S X))
    → whats (carried f before all) ≡ trail_from f before (whats all)
whats-carried f before [] = refl
whats-carried f before (b ∷ later) =
    whats-append (map (beside b.source) (f before b.what)) (carried f (before ++ b.what ∷ []) later)
    ∙ ap₂ (λ x y. x ++ y) (whats-beside b.source (f before b.what)) (whats-carried f (before ++ b.what ∷ []) later)

pub whats-own : {S A : Type 0} (f : List S → S → List A) (before xs : List S)
    → whats (trail_from (own f) before xs) ≡ trail_from f before xs
whats-own f before [] = refl
whats-own f before (x ∷ later) =
    whats-append (map (beside x) (f before x)) (trail_from (own f) (before ++ x ∷ []) later)
    ∙ ap₂ (λ a b. a ++ b) (whats-beside x (f before x)) (whats-own f (before ++ x ∷ []) later)

pub whats-by_place : {S X : Type 0} (source : ℕ → S) (place : ℕ) (xs : List X) → whats (by_place source place xs) ≡ xs
whats-by_place source place [] = refl
whats-by_place source place (x ∷ xs) = ap (λ l. x ∷ l) (whats-by_place source (place + 1) xs)

-- ---- carried along

pub carried-append : {S X A : Type 0} (f : List X → X → List A) (before : List X) (front back : List (Beside S X))
    → carried f before (front ++ back) ≡ carried f before front ++ carried f (before ++ whats front) back
carried-append f before [] back = ap (λ b. carried f b back) (sym (append-nil before))
carried-append f before (b ∷ front) back =
    let one = map (beside b.source) (f before b.what) in
    let after = before ++ b.what ∷ [] in
    ap (λ x. one ++ x) (carried-append f after front back)
    ∙ sym (append_assoc one (carried f after front) (carried f (after ++ whats front) back))
    ∙ ap (λ x. (one ++ carried f after front) ++ carried f x back) (append_assoc before (b.what ∷ []) (whats front))

-- beside one source
pub carried-beside : {S X A : Type 0} (f : List X → X → List A) (before : List X) (source : S) (xs : List X)
    → carried f before (map (beside source) xs) ≡ map (beside source) (trail_from f before xs)
carried-beside f before source [] = refl
carried-beside f before source (x ∷ xs) =
    ap (λ l. map (beside source) (f before x) ++ l) (carried-beside f (before ++ x ∷ []) source xs)
    ∙ sym (map-append (beside source) (f before x) (trail_from f (before ++ x ∷ []) xs))

-- the answers to the answers to inputs, each beside its input
pub carried-own : {S X A : Type 0} (g : List X → X → List A) (f : List S → S → List X) (before xs : List S)
    → carried g (trail f before) (trail_from (own f) before xs) ≡ trail_from (own (chained g f)) before xs
carried-own g f before [] = refl
carried-own g f before (x ∷ xs) =
    let one = f before x in
    let more = trail_from (own f) (before ++ x ∷ []) xs in
    carried-append g (trail f before) (map (beside x) one) more
    ∙ ap₂ (λ a b. a ++ b)
    (carried-beside g (trail f before) x one)
    (ap (λ l. carried g (trail f before ++ l) more) (whats-beside x one)
    ∙ ap (λ l. carried g l more) (trail-more f before x)
    ∙ carried-own g f (before ++ x ∷ []) xs)

-- how many answers there are
pub length-carried : {S X A : Type 0} (f : List X → X → List A) (before : List X) (all : List (Beside S X))
    → length (trail f before) + length (carried f before all) ≡ length (trail f (before ++ whats all))
length-carried {S} {X} {A} f before all =
    let a = length-map (carried f before all) (λ (b : Beside S A). b.what) in
    let b = ap length (whats-carried f before all) in
    let c = ap length (pipe_more f before (whats all)) in
    let d = length-append (trail f before) (trail_from f before (whats all)) in
    omega (arith, a, b, c, d)

pub length-own : {S A : Type 0} (f : List S → S → List A) (before xs : List S)
    → length (trail_from (own f) before xs) ≡ length (trail_from f before xs)
length-own {S} {A} f before xs =
    sym (length-map (trail_from (own f) before xs) (λ (b : Beside S A). b.what)) ∙ ap length (whats-own f before xs)

-- ---- by places

pub by_place-append : {S X : Type 0} (source : ℕ → S) (place : ℕ) (front back : List X)
    → by_place source place (front ++ back) ≡ by_place source place front ++ by_place source (place + length front) back
by_place-append source place [] back =
    let is : place ≡ place + 0 = omega arith in
    ap (λ (n : ℕ). by_place source n back) is
by_place-append source place (x ∷ front) back =
    let is : (place + 1) + length front ≡ place + length (x ∷ front) = omega arith in
    ap (λ l. beside (source place) x ∷ l)
    (by_place-append source (place + 1) front back ∙ ap (λ (n : ℕ). by_place source (place + 1) front ++ by_place source n back) is)

-- answers to elements that are beside what is at their places
pub by_place-along : {S X A B : Type 0} (h : A → List B) (g : List X → X → A) (source : ℕ → S) (place : ℕ) (before xs : List X)
    → flat_map (λ (b : Beside S A). map (beside b.source) (h b.what)) (by_place source place (along_from g before xs))
    ≡ carried (λ b x. h (g b x)) before (by_place source place xs)
by_place-along h g source place before [] = refl
by_place-along h g source place before (x ∷ xs) =
    ap (λ l. map (beside (source place)) (h (g before x)) ++ l) (by_place-along h g source (place + 1) (before ++ x ∷ []) xs)

-- elements that are all beside the same source
pub by_place-same : {S X : Type 0} (source : ℕ → S) (same : S) (place : ℕ) (xs : List X)
    → ((i : ℕ) → i < length xs → source (place + i) ≡ same) → by_place source place xs ≡ map (beside same) xs
by_place-same source same place [] is = refl
by_place-same source same place (x ∷ xs) is =
    let here : place + 0 ≡ place = omega arith in
    ap₂ (λ s l. beside s x ∷ l)
    (ap source (sym here) ∙ is 0 (omega arith))
    (by_place-same source same (place + 1) xs (λ i lt.
    let moved : (place + 1) + i ≡ place + (i + 1) = omega arith in
    ap source moved ∙ is (i + 1) (omega (arith, lt))))

-- ---- the places of answers

get_after : {X : Type 0} (front back : List X) (i : ℕ) → slice_get (front ++ back) (length front + i) ≡ slice_get back i
get_after [] back i = ap (slice_get back) (omega arith)
get_after (x ∷ front) back i =
    let is : length (x ∷ front) + i ≡ suc (length front + i) = omega arith in
    ap (slice_get (x ∷ (front ++ back))) is ∙ get_after front back i

get_replicate : {X : Type 0} (n : ℕ) (x : X) (back : List X) (i : ℕ) → i < n → slice_get (replicate n x ++ back) i ≡ Some x
get_replicate zero x back i lt = absurd (omega (arith, lt))
get_replicate (suc n) x back zero lt = refl
get_replicate (suc n) x back (suc i) lt = get_replicate n x back i (omega (arith, lt))

-- the source of an answer by its place
source_there : {S : Type 0} (front : List S) (x : S) (later : List S) (last : S) (places : List ℕ) (count : ℕ) (more : List ℕ) (i : ℕ) → i < count
    → source_in (front ++ x ∷ later) last (places ++ (replicate count (length front) ++ more)) (length places + i) ≡ x
source_there front x later last places count more i lt =
    let start : length front ≡ length front + 0 = omega arith in
    ap (λ found. unwrap_or (option_and_then (slice_get (front ++ x ∷ later)) found) last)
    (get_after places (replicate count (length front) ++ more) i ∙ get_replicate count (length front) more i lt)
    ∙ ap (λ n. unwrap_or (slice_get (front ++ x ∷ later) n) last) start
    ∙ ap (λ found. unwrap_or found last) (get_after front (x ∷ later) 0)

sources_from : {S A : Type 0} (f : List S → S → List A) (last : S) (front rest : List S) (places : List ℕ) (before : List S)
    → by_place (source_in (front ++ rest) last (places ++ places_along f before (length front) rest)) (length places) (trail_from f before rest)
    ≡ trail_from (own f) before rest
sources_from f last front [] places before = refl
sources_from f last front (x ∷ rest) places before =
    let one = f before x in
    let after = before ++ x ∷ [] in
    let here = replicate (length one) (length front) in
    let more = places_along f after (length front + 1) rest in
    let all = places ++ (here ++ more) in
    let source = source_in (front ++ x ∷ rest) last all in
    let later = trail_from f after rest in
    let passed : length places + length one ≡ length (places ++ here) =
    sym (length-append places here ∙ ap (λ n. length places + n) (length-replicate (length one) (length front))) in
    let counted : length front + 1 ≡ length (front ++ x ∷ []) = sym (length-append front (x ∷ [])) in
    by_place-append source (length places) one later
    ∙ ap₂ (λ a b. a ++ b)
    (by_place-same source x (length places) one (λ i lt. source_there front x rest last places (length one) more i lt))
    (ap (λ n. by_place source n later) passed
    ∙ ap (λ l. by_place (source_in l last all) (length (places ++ here)) later) (sym (append_assoc front (x ∷ []) rest))
    ∙ ap (λ p. by_place (source_in ((front ++ x ∷ []) ++ rest) last p) (length (places ++ here)) later) (sym (append_assoc places here more))
    ∙ ap (λ n. by_place (source_in ((front ++ x ∷ []) ++ rest) last ((places ++ here) ++ places_along f after n rest)) (length (places ++ here)) later) counted
    ∙ sources_from f last (front ++ x ∷ []) rest (places ++ here) after)

-- the answers to inputs, each beside the input whose place is told for it
pub sources_are : {S A : Type 0} (f : List S → S → List A) (last : S) (before xs : List S)
    → by_place (source_in xs last (places_along f before 0 xs)) 0 (trail_from f before xs) ≡ trail_from (own f) before xs
sources_are f last before xs = sources_from f last [] xs [] before

-- one input more
pub places_along-more : {S A : Type 0} (f : List S → S → List A) (before : List S) (place : ℕ) (xs : List S) (x : S)
    → places_along f before place (xs ++ x ∷ [])
    ≡ places_along f before place xs ++ replicate (length (f (before ++ xs) x)) (place + length xs)
places_along-more f before place [] x =
    let is : place ≡ place + 0 = omega arith in
    append-nil (replicate (length (f before x)) place)
    ∙ ap₂ (λ b n. replicate (length (f b x)) n) (sym (append-nil before)) is
places_along-more f before place (y ∷ xs) x =
    let is : (place + 1) + length xs ≡ place + length (y ∷ xs) = omega arith in
    let here = replicate (length (f before y)) place in
    ap (λ l. here ++ l) (places_along-more f (before ++ y ∷ []) (place + 1) xs x)
    ∙ sym (append_assoc here (places_along f (before ++ y ∷ []) (place + 1) xs) (replicate (length (f ((before ++ y ∷ []) ++ xs) x)) ((place + 1) + length xs)))
    ∙ ap₂ (λ b n. (here ++ places_along f (before ++ y ∷ []) (place + 1) xs) ++ replicate (length (f b x)) n) (append_assoc before (y ∷ []) xs) is

-- there are as many places as answers
pub length-places_along : {S A : Type 0} (f : List S → S → List A) (before : List S) (place : ℕ) (xs : List S)
    → length (places_along f before place xs) ≡ length (trail_from f before xs)
length-places_along f before place [] = refl
length-places_along f before place (x ∷ xs) =
    let a = length-append (replicate (length (f before x)) place) (places_along f (before ++ x ∷ []) (place + 1) xs) in
    let b = length-replicate (length (f before x)) place in
    let c = length-append (f before x) (trail_from f (before ++ x ∷ []) xs) in
    let d = length-places_along f (before ++ x ∷ []) (place + 1) xs in
    omega (arith, a, b, c, d)
