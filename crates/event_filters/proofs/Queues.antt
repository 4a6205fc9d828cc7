-- The queue: an event joins at the first place that it comes before, and the queue of the rules so far.
use Rattle.std.proofs.Common.{◌≡◌, ℕ, ◌+◌, ◌<◌, ◌≤◌, Bool, true, false, not, ◌&&◌, cond, ltb, List, [], ◌∷◌, ◌++◌, length, take}
use Rattle.std.proofs.Common.{drop, get_or, fold, insert, inl, inr, refl, sym, ap, ◌∙◌, arith, length-append}
use Rattle.std.specs.List.{filter, position_or_len}
use Rattle.std.proofs.Math.Numerals.{one-add}
use Rattle.std.proofs.lemmas.Bool.{cases_lt}
use Rattle.std.proofs.lemmas.Bool.Decides.{nat_tests}
use Rattle.std.proofs.lemmas.Grind.{common_steps}
use Rattle.std.proofs.lemmas.List.{append-nil, take_all, take-append-le, length-take}
use Rattle.std.proofs.lemmas.List.Elements.{filter_more}
use Rattle.std.proofs.lemmas.List.Sums.{fold-append}
use Rattle.rule_types.specs.declared.rule.Rule.{Rule}
use Rattle.event_filters.specs.Queue.{joined, ordered, gives_event, first_events, with_event}

insert-later : (next : ℕ) (later : List ℕ) (n event : ℕ) → insert (next ∷ later) (1 + n) event ≡ next ∷ insert later n event
insert-later next later n event = rw one-add refl

pub joined-insert : (before : ℕ → ℕ → Bool) (queue : List ℕ) (event : ℕ) → joined before queue event ≡ insert queue (position_or_len (before event) queue) event
joined-insert before [] event = refl
joined-insert before (next ∷ later) event = by_case (before event next) (joined-insert before later event)
  where
    by_case : (b : Bool) → joined before later event ≡ insert later (position_or_len (before event) later) event
        → cond b (event ∷ next ∷ later) (next ∷ joined before later event) ≡ insert (next ∷ later) (cond (not b) (1 + position_or_len (before event) later) 0) event
    by_case true rest = refl
    by_case false rest = ap (λ l. next ∷ l) rest ∙ sym (insert-later next later (position_or_len (before event) later) event)

length-joined : (before : ℕ → ℕ → Bool) (queue : List ℕ) (event : ℕ) → length (joined before queue event) ≡ length queue + 1
length-joined before [] event = omega arith
length-joined before (next ∷ later) event = by_case (before event next) (length-joined before later event)
  where
    by_case : (b : Bool) → length (joined before later event) ≡ length later + 1 → length (cond b (event ∷ next ∷ later) (next ∷ joined before later event)) ≡ length (next ∷ later) + 1
    by_case true rest = omega arith
    by_case false rest = omega (arith, rest)

length-fold : (before : ℕ → ℕ → Bool) (queue events : List ℕ) → length (fold (joined before) queue events) ≡ length queue + length events
length-fold before queue [] = omega arith
length-fold before queue (event ∷ later) = omega (arith, length-fold before (joined before queue event) later, length-joined before queue event)

length-ordered : (before : ℕ → ℕ → Bool) (events : List ℕ) → length (ordered before events) ≡ length events
length-ordered before events = omega (arith, length-fold before [] events)

-- one rule more
step : (before : ℕ → ℕ → Bool) (most : ℕ) (events : List ℕ) (place : ℕ) (gives : Bool)
    → ordered before (take most (events ++ cond gives (place ∷ []) [])) ≡
    cond (ltb (length (ordered before (take most events))) most && gives)
    (joined before (ordered before (take most events)) place)
    (ordered before (take most events))
step before most events place true = elim (cases_lt (length events) most) [
  | inl lt ↦ room lt
  | inr le ↦ full le
]
  where
    queue : List ℕ
    queue = ordered before (take most events)

    chosen : (b : Bool) → ltb (length queue) most ≡ b → (c : List ℕ) → cond b (joined before queue place) queue ≡ c → c ≡ cond (ltb (length queue) most && true) (joined before queue place) queue
    chosen true is c same = sym same ∙ sym (ap (λ t. cond (t && true) (joined before queue place) queue) is)
    chosen false is c same = sym same ∙ sym (ap (λ t. cond (t && true) (joined before queue place) queue) is)

    size : length queue ≡ length (take most events)
    size = length-ordered before (take most events)

    room : length events < most → ordered before (take most (events ++ place ∷ [])) ≡ cond (ltb (length queue) most && true) (joined before queue place) queue
    room lt =
        let all : take most events ≡ events = take_all _ _ (omega arith) in
        let more : take most (events ++ place ∷ []) ≡ events ++ place ∷ [] = take_all _ _ (omega (arith, length-append events (place ∷ []))) in
        let free : ltb (length queue) most ≡ true = grind (arith, nat_tests, size, length-take most events) in
        let joins : joined before queue place ≡ ordered before (take most (events ++ place ∷ [])) =
        ap (λ e. joined before (ordered before e) place) all ∙ sym (fold-append (joined before) [] events (place ∷ [])) ∙ ap (ordered before) (sym more) in
        chosen true free (ordered before (take most (events ++ place ∷ []))) joins

    full : most ≤ length events → ordered before (take most (events ++ place ∷ [])) ≡ cond (ltb (length queue) most && true) (joined before queue place) queue
    full le =
        let taken : ltb (length queue) most ≡ false = grind (arith, nat_tests, size, length-take most events) in
        chosen false taken (ordered before (take most (events ++ place ∷ []))) (ap (ordered before) (sym (take-append-le most events (place ∷ []) le)))
step before most events place false =
    ap (λ e. ordered before (take most e)) (append-nil events) ∙ none (ltb (length (ordered before (take most events))) most)
  where
    none : (b : Bool) → ordered before (take most events) ≡ cond (b && false) (joined before (ordered before (take most events)) place) (ordered before (take most events))
    none true = refl
    none false = refl

pub filled-more : (before : ℕ → ℕ → Bool) (most : ℕ) (rules : List Rule) (places : List ℕ) (i d : ℕ) → i < length places
    → ordered before (first_events most rules (take (i + 1) places)) ≡ with_event before most rules (ordered before (first_events most rules (take i places))) (get_or places i d)
filled-more before most rules places i d lt =
    ap (λ e. ordered before (take most e)) (filter_more (gives_event rules) places i d lt)
    ∙ step before most (filter (gives_event rules) (take i places)) (get_or places i d) (gives_event rules (get_or places i d))
