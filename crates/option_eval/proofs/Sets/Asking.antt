-- One place more of a set that is asked place by place.
use Rattle.std.proofs.Common.{◌≡◌, ℕ, suc, ◌+◌, ◌-◌, ◌<◌, ◌≤◌, ◌⊎◌, inl, inr, ⊎_elim, Bool, true, false, cond, List, [], ◌∷◌}
use Rattle.std.proofs.Common.{◌++◌, length, take, drop, get_or, Option, Some, None, IsTrue, Contains, IfSome, nat_le, refl, sym}
use Rattle.std.proofs.Common.{ap, subst, ◌∙◌, arith}
use Rattle.std.proofs.lemmas.Bool.{false≢true}
use Rattle.std.proofs.lemmas.Bool.Decides.{nat_tests}
use Rattle.std.proofs.lemmas.List.{take_all, take-append-le}
use Rattle.std.specs.List.{refill}
use Rattle.std.specs.List.Sorted.{IsPermutation}
use Rattle.std.proofs.lemmas.List.Sorted.{Contains-permutation, IsPermutation-sym}
use Rattle.std.proofs.lemmas.List.Elements.{Contains-push, Contains-push_cases, Contains-append_left}
use Rattle.option_eval.specs.Sets.{IsRising, IsAscending, Gathers, IsLedTo, LeadsOnlyTo, with_if}
use Rattle.option_eval.proofs.Sets.Rising.{contains_cases, contains_first, contains_after, got_of_contains, rising_push, rising_high, rising_length}

-- the part after the first
pub later_of : (place : ℕ) (later : List ℕ) → take (length (place ∷ later) - 1) (drop 1 (place ∷ later)) ≡ later
later_of place later = take_all (length (place ∷ later) - 1) later (omega arith)

-- a list that isn't empty
pub split : (rest : List ℕ) → 1 ≤ length rest → rest ≡ get_or rest 0 0 ∷ take (length rest - 1) (drop 1 rest)
split [] some = absurd (omega arith)
split (place ∷ later) some = ap (λ (xs : List ℕ). place ∷ xs) (sym (later_of place later))

-- the places of a kind before the rest
pub record Kept (P : ℕ → Type 0) (places rest next : List ℕ) : Type 0 where
  pub sound : (q : ℕ) → Contains next q → Contains places q × P q
  pub within : (p : ℕ) → Contains rest p → Contains places p
  pub complete : (p : ℕ) → Contains places p → P p → Contains next p ⊎ Contains rest p

pub kept_none : (P : ℕ → Type 0) (places : List ℕ) → Kept P places places []
kept_none P places = record {
  sound = λ q has. absurd (omega (arith, has.1));
  within = λ p has. has;
  complete = λ p has holds. inr has;
}

pub kept_next : (P : ℕ → Type 0) (places rest next new : List ℕ) (holds : Bool) → 1 ≤ length rest → Kept P places rest next
    → (IsTrue holds → P (get_or rest 0 0)) × (P (get_or rest 0 0) → IsTrue holds) → new ≡ cond holds (next ++ get_or rest 0 0 ∷ []) next
    → Kept P places (take (length rest - 1) (drop 1 rest)) new
kept_next P places [] next new holds some before is added = absurd (omega arith)
kept_next P places (place ∷ later) next new true some before is added = record {
  sound = λ q has.
      ⊎_elim (λ (old : Contains next q). before.sound q old)
      (λ (same : place ≡ q).
      (subst (λ (x : ℕ). Contains places x) same (before.within place (contains_first place later)), subst P same (is.0 refl)))
      (Contains-push_cases next place q (subst (λ (xs : List ℕ). Contains xs q) added has));
  within = λ p has.
      before.within p (contains_after place later p (subst (λ (xs : List ℕ). Contains xs p) (later_of place later) has));
  complete = λ p has held. ⊎_elim
      (λ (old : Contains next p). inl
      (subst (λ (xs : List ℕ). Contains xs p) (sym added) (Contains-append_left next (place ∷ []) p old)))
      (λ (left : Contains (place ∷ later) p). ⊎_elim
      (λ (same : p ≡ place). inl
      (subst (λ (xs : List ℕ). Contains xs p) (sym added)
      (subst (λ (x : ℕ). Contains (next ++ place ∷ []) x) (sym same) (Contains-push next place))))
      (λ (after : Contains later p). inr (subst (λ (xs : List ℕ). Contains xs p) (sym (later_of place later)) after))
      (contains_cases place later p left))
      (before.complete p has held);
}
kept_next P places (place ∷ later) next new false some before is added = record {
  sound = λ q has. before.sound q (subst (λ (xs : List ℕ). Contains xs q) added has);
  within = λ p has. before.within p (contains_after place later p (subst (λ (xs : List ℕ). Contains xs p) (later_of place later) has));
  complete = λ p has held. ⊎_elim
      (λ (old : Contains next p). inl (subst (λ (xs : List ℕ). Contains xs p) (sym added) old))
      (λ (left : Contains (place ∷ later) p). ⊎_elim
      (λ (same : p ≡ place). absurd (false≢true (is.1 (subst P same held))))
      (λ (after : Contains later p). inr (subst (λ (xs : List ℕ). Contains xs p) (sym (later_of place later)) after))
      (contains_cases place later p left))
      (before.complete p has held);
}

-- places that rise stay so with the next, if it is wanted
pub rising_with : (rest next new : List ℕ) (done high : ℕ) (holds : Bool) → 1 ≤ length rest → IsRising done rest high → IsRising 0 next done → new ≡ cond holds (next ++ get_or rest 0 0 ∷ []) next
    → IsRising 0 new (get_or rest 0 0 + 1) × IsRising (get_or rest 0 0 + 1) (take (length rest - 1) (drop 1 rest)) high × (get_or rest 0 0 + 1 ≤ high)
rising_with [] next new done high holds some left before added = absurd (omega arith)
rising_with (place ∷ later) next new done high true some left before added = (
  subst (λ (xs : List ℕ). IsRising 0 xs (place + 1)) (sym added) (rising_push next 0 done place (place + 1) left.0 (omega arith) before),
  subst (λ (xs : List ℕ). IsRising (place + 1) xs high) (sym (later_of place later)) left.1,
  omega (arith, rising_length later (place + 1) high left.1),
)
rising_with (place ∷ later) next new done high false some left before added = (
  subst (λ (xs : List ℕ). IsRising 0 xs (place + 1)) (sym added) (rising_high next 0 done (place + 1) (omega (arith, left.0)) before),
  subst (λ (xs : List ℕ). IsRising (place + 1) xs high) (sym (later_of place later)) left.1,
  omega (arith, rising_length later (place + 1) high left.1),
)

-- where the places before the rest lead
pub record Led (leads : ℕ → ℕ → Type 0) (places rest led : List ℕ) : Type 0 where
  pub sound : (q : ℕ) → Contains led q → IsLedTo leads places q
  pub within : (p : ℕ) → Contains rest p → Contains places p
  pub complete : (p q : ℕ) → Contains places p → leads p q → Contains led q ⊎ Contains rest p

pub led_none : (leads : ℕ → ℕ → Type 0) (places : List ℕ) → Led leads places places []
led_none leads places = record {
  sound = λ q has. absurd (omega (arith, has.1));
  within = λ p has. has;
  complete = λ p q has there. inr has;
}

pub led_next : (leads : ℕ → ℕ → Type 0) (places rest led new : List ℕ) (next : Option ℕ) → 1 ≤ length rest → Led leads places rest led
    → LeadsOnlyTo (leads (get_or rest 0 0)) next → new ≡ with_if led next → Led leads places (take (length rest - 1) (drop 1 rest)) new
led_next leads places [] led new next some before only added = absurd (omega arith)
led_next leads places (place ∷ later) led new (Some there) some before only added = record {
  sound = λ q has. ⊎_elim (λ (old : Contains led q). before.sound q old)
      (λ (same : there ≡ q). (place, before.within place (contains_first place later), subst (leads place) same only.0))
      (Contains-push_cases led there q (subst (λ (xs : List ℕ). Contains xs q) added has));
  within = λ p has.
      before.within p (contains_after place later p (subst (λ (xs : List ℕ). Contains xs p) (later_of place later) has));
  complete = λ p q has goes. ⊎_elim
      (λ (old : Contains led q). inl
      (subst (λ (xs : List ℕ). Contains xs q) (sym added) (Contains-append_left led (there ∷ []) q old)))
      (λ (left : Contains (place ∷ later) p). ⊎_elim
      (λ (same : p ≡ place). inl
      (subst (λ (xs : List ℕ). Contains xs q) (sym added)
      (subst (λ (x : ℕ). Contains (led ++ there ∷ []) x)
      (sym (only.1 q (subst (λ (x : ℕ). leads x q) same goes)))
      (Contains-push led there))))
      (λ (after : Contains later p). inr (subst (λ (xs : List ℕ). Contains xs p) (sym (later_of place later)) after))
      (contains_cases place later p left))
      (before.complete p q has goes);
}
led_next leads places (place ∷ later) led new None some before only added = record {
  sound = λ q has. before.sound q (subst (λ (xs : List ℕ). Contains xs q) added has);
  within = λ p has. before.within p (contains_after place later p (subst (λ (xs : List ℕ). Contains xs p) (later_of place later) has));
  complete = λ p q has goes. ⊎_elim
      (λ (old : Contains led q). inl (subst (λ (xs : List ℕ). Contains xs q) (sym added) old))
      (λ (left : Contains (place ∷ later) p). ⊎_elim
      (λ (same : p ≡ place). absurd (only q (subst (λ (x : ℕ). leads x q) same goes)))
      (λ (after : Contains later p). inr (subst (λ (xs : List ℕ). Contains xs p) (sym (later_of place later)) after))
      (contains_cases place later p left))
      (before.complete p q has goes);
}

-- the places of a sorted list before the rest, each once; all are below `low`
pub record Deduped (sorted rest : List ℕ) (low : ℕ) (next : List ℕ) : Type 0 where
  pub sound : (q : ℕ) → Contains next q → Contains sorted q
  pub within : (q : ℕ) → Contains rest q → Contains sorted q
  pub complete : (q : ℕ) → Contains sorted q → Contains next q ⊎ Contains rest q
  pub latest : (low ≡ 0) ⊎ Contains next (low - 1)

pub deduped_none : (sorted : List ℕ) → Deduped sorted sorted 0 []
deduped_none sorted = record {
  sound = λ q has. absurd (omega (arith, has.1));
  within = λ q has. has;
  complete = λ q has. inr has;
  latest = inl refl;
}

-- facts of a list's first element, and of what follows
pub contains_head : (rest : List ℕ) → 1 ≤ length rest → Contains rest (get_or rest 0 0)
contains_head [] some = absurd (omega arith)
contains_head (place ∷ later) some = contains_first place later

pub contains_later : (rest : List ℕ) (p : ℕ) → 1 ≤ length rest → Contains (take (length rest - 1) (drop 1 rest)) p → Contains rest p
contains_later [] p some has = absurd (omega arith)
contains_later (place ∷ later) p some has = contains_after place later p (subst (λ (xs : List ℕ). Contains xs p) (later_of place later) has)

pub length_later : (rest : List ℕ) → 1 ≤ length rest → length (take (length rest - 1) (drop 1 rest)) + 1 ≡ length rest
length_later [] some = absurd (omega arith)
length_later (place ∷ later) some = omega (arith, ap length (later_of place later))

pub first_below : (rest : List ℕ) (low high : ℕ) → 1 ≤ length rest → IsRising low rest high → get_or rest 0 0 < high
first_below [] low high some h = absurd (omega arith)
first_below (place ∷ later) low high some h = omega (arith, rising_length later (place + 1) high h.1)

pub none_left : (rest : List ℕ) (p : ℕ) → length rest < 1 → Contains rest p → ⊥
none_left rest p empty has = omega (arith, has.1)

-- all places were asked
pub kept_all : (every : Bool) (leads : ℕ → ℕ → Type 0) (places rest next : List ℕ)
    → ((p q : ℕ) → leads p q → q ≡ p)
    → length rest < 1
    → Kept (λ p. leads p p) places rest next
    → Gathers every (IsLedTo leads places) next
kept_all every leads places rest next test empty h = record {
  sound = λ q has. let s = h.sound q has in (q, s.0, s.1);
  complete = λ q led.
      let same = test led.0 q led.2 in
      let here = subst (λ (x : ℕ). leads x q) (sym same) led.2 in
      let in_places = subst (λ (x : ℕ). Contains places x) (sym same) led.1 in
      got_of_contains every next q (⊎_elim (λ (in_next : Contains next q). in_next) (λ (left : Contains rest q). absurd (none_left rest q empty left)) (h.complete q in_places here));
}

pub with_if_within : (led new : List ℕ) (next : Option ℕ) (most q : ℕ) → new ≡ with_if led next → IfSome next (λ x. x ≤ most) → ((q : ℕ) → Contains led q → q ≤ most) → Contains new q → q ≤ most
with_if_within led new None most q added here before has = before q (subst (λ (xs : List ℕ). Contains xs q) added has)
with_if_within led new (Some x) most q added here before has =
    ⊎_elim (λ (old : Contains led q). before q old) (λ (same : x ≡ q). omega arith) (Contains-push_cases led x q (subst (λ (xs : List ℕ). Contains xs q) added has))

-- a sorted list, element by element
pub ascending_from : (xs : List ℕ) (low : ℕ) → ((k d : ℕ) → k < length xs → low ≤ get_or xs k d) → ((i j d : ℕ) → i ≤ j → j < length xs → get_or xs i d ≤ get_or xs j d) → IsAscending low xs
ascending_from [] low above sorted = tt
ascending_from (x ∷ xs) low above sorted = (
  above 0 0 (omega arith),
  ascending_from xs x (λ k d below. sorted 0 (suc k) d (omega arith) (omega arith))
      (λ i j d order below. sorted (suc i) (suc j) d (omega arith) (omega arith)),
)

pub deduped_next : (sorted rest next new : List ℕ) (low : ℕ) (wanted : Bool)
    → 1 ≤ length rest
    → Deduped sorted rest low next
    → IsAscending (low - 1) rest
    → IsRising 0 next low
    → wanted ≡ nat_le low (get_or rest 0 0)
    → new ≡ cond wanted (next ++ get_or rest 0 0 ∷ []) next
    → Deduped sorted (take (length rest - 1) (drop 1 rest)) (get_or rest 0 0 + 1) new ×
    IsAscending (get_or rest 0 0 + 1 - 1) (take (length rest - 1) (drop 1 rest)) × IsRising 0 new (get_or rest 0 0 + 1)
deduped_next sorted [] next new low wanted some h order risen is added = absurd (omega arith)
deduped_next sorted (place ∷ later) next new low true some h order risen is added =
    let over : low ≤ place = grind (arith, nat_tests) in (
      record {
        sound = λ q has.
            ⊎_elim (λ (old : Contains next q). h.sound q old)
            (λ (same : place ≡ q). subst (λ (x : ℕ). Contains sorted x) same (h.within place (contains_first place later)))
            (Contains-push_cases next place q (subst (λ (xs : List ℕ). Contains xs q) added has));
        within = λ q has.
            h.within q (contains_after place later q (subst (λ (xs : List ℕ). Contains xs q) (later_of place later) has));
        complete = λ q has. ⊎_elim
            (λ (old : Contains next q). inl
            (subst (λ (xs : List ℕ). Contains xs q) (sym added) (Contains-append_left next (place ∷ []) q old)))
            (λ (left : Contains (place ∷ later) q). ⊎_elim
            (λ (same : q ≡ place). inl
            (subst (λ (xs : List ℕ). Contains xs q) (sym added)
            (subst (λ (x : ℕ). Contains (next ++ place ∷ []) x) (sym same) (Contains-push next place))))
            (λ (after : Contains later q). inr (subst (λ (xs : List ℕ). Contains xs q) (sym (later_of place later)) after))
            (contains_cases place later q left))
            (h.complete q has);
        latest =
            inr (subst (λ (xs : List ℕ). Contains xs (place + 1 - 1))
            (sym added)
            (subst (λ (x : ℕ). Contains (next ++ place ∷ []) x) (back place) (Contains-push next place)));
      },
      subst (λ (x : ℕ). IsAscending x (take (length (place ∷ later) - 1) (drop 1 (place ∷ later))))
          (back place)
          (subst (λ (xs : List ℕ). IsAscending place xs) (sym (later_of place later)) order.1),
      subst (λ (xs : List ℕ). IsRising 0 xs (place + 1))
          (sym added)
          (rising_push next 0 low place (place + 1) over (omega arith) risen),
    )
  where
    back : (place : ℕ) → place ≡ place + 1 - 1
    back place = omega arith
deduped_next sorted (place ∷ later) next new low false some h order risen is added =
    let under : place < low = grind (arith, nat_tests) in
    let low_is : low ≡ place + 1 = omega (arith, order.0) in
    let has_last : Contains next place =
    ⊎_elim (λ (zero_is : low ≡ 0). absurd (omega arith))
    (λ (last : Contains next (low - 1)). let same : low - 1 ≡ place = omega arith in subst (λ (x : ℕ). Contains next x) same last)
    h.latest in (
      record {
        sound = λ q has. h.sound q (subst (λ (xs : List ℕ). Contains xs q) added has);
        within = λ q has.
            h.within q (contains_after place later q (subst (λ (xs : List ℕ). Contains xs q) (later_of place later) has));
        complete = λ q has. ⊎_elim
            (λ (old : Contains next q). inl (subst (λ (xs : List ℕ). Contains xs q) (sym added) old))
            (λ (left : Contains (place ∷ later) q). ⊎_elim
            (λ (same : q ≡ place). inl
            (subst (λ (xs : List ℕ). Contains xs q) (sym added) (subst (λ (x : ℕ). Contains next x) (sym same) has_last)))
            (λ (after : Contains later q). inr (subst (λ (xs : List ℕ). Contains xs q) (sym (later_of place later)) after))
            (contains_cases place later q left))
            (h.complete q has);
        latest =
            inr (subst (λ (xs : List ℕ). Contains xs (place + 1 - 1))
            (sym added)
            (subst (λ (x : ℕ). Contains next x) (back place) has_last));
      },
      subst (λ (x : ℕ). IsAscending x (take (length (place ∷ later) - 1) (drop 1 (place ∷ later))))
          (back place)
          (subst (λ (xs : List ℕ). IsAscending place xs) (sym (later_of place later)) order.1),
      subst (λ (xs : List ℕ). IsRising 0 xs (place + 1)) (sym added) (subst (λ (x : ℕ). IsRising 0 next x) low_is risen),
    )
  where
    back : (place : ℕ) → place ≡ place + 1 - 1
    back place = omega arith

pub deduped_all : (sorted rest next : List ℕ) (low q : ℕ) → length rest < 1 → Deduped sorted rest low next → (Contains next q → Contains sorted q) × (Contains sorted q → Contains next q)
deduped_all sorted rest next low q empty h = (h.sound q, λ has. ⊎_elim (λ (in_next : Contains next q). in_next) (λ (left : Contains rest q). absurd (none_left rest q empty left)) (h.complete q has))

pub deduped_high : (sorted rest next : List ℕ) (low high : ℕ) → Deduped sorted rest low next → IsRising 0 next low → ((q : ℕ) → Contains sorted q → q < high) → IsRising 0 next high
deduped_high sorted rest next low high h risen below = ⊎_elim
    (λ (zero_is : low ≡ 0). rising_high next 0 low high (omega arith) risen)
    (λ (last : Contains next (low - 1)). rising_high next 0 low high (omega (arith, below (low - 1) (h.sound (low - 1) last))) risen)
    h.latest

-- what is asked of a set
pub asked_is : (relative : Bool) (places asked : List ℕ) → asked ≡ cond relative places (take 1 places) → (p : ℕ) → Contains asked p → Contains places p
asked_is true places asked is p has = subst (λ (xs : List ℕ). Contains xs p) is has
asked_is false [] asked is p has = absurd (omega (arith, has.1, ap length is))
asked_is false (x ∷ places) asked is p has = ⊎_elim
    (λ (same : p ≡ x). subst (λ (y : ℕ). Contains (x ∷ places) y) (sym same) (contains_first x places))
    (λ (after : Contains [] p). absurd (omega (arith, after.1)))
    (contains_cases x [] p (subst (λ (xs : List ℕ). Contains xs p) is has))

pub length-asked : (relative : Bool) (places asked : List ℕ) → asked ≡ cond relative places (take 1 places) → length asked ≤ length places
length-asked true places asked is = omega (arith, ap length is)
length-asked false [] asked is = omega (arith, ap length is)
length-asked false (x ∷ places) asked is = omega (arith, ap length is)

-- where an option that isn't relative leads from one place it leads from each
pub asked_leads : (relative : Bool) (leads : ℕ → ℕ → Type 0) (places asked : List ℕ)
    → 0 < length places
    → asked ≡ cond relative places (take 1 places)
    → (relative ≡ false → (p p' q : ℕ) → leads p q → leads p' q)
    → (q : ℕ)
    → IsLedTo leads places q
    → IsLedTo leads asked q
asked_leads true leads places asked some is free q led = (led.0, subst (λ (xs : List ℕ). Contains xs led.0) (sym is) led.1, led.2)
asked_leads false leads [] asked some is free q led = absurd (omega arith)
asked_leads false leads (x ∷ places) asked some is free q led = (x, subst (λ (xs : List ℕ). Contains xs x) (sym is) (contains_first x []), free refl led.0 x q led.2)

-- all places that were asked have led
pub led_all : (relative : Bool) (leads : ℕ → ℕ → Type 0) (places asked rest led : List ℕ)
    → 0 < length places
    → asked ≡ cond relative places (take 1 places)
    → (relative ≡ false → (p p' q : ℕ) → leads p q → leads p' q)
    → length rest < 1
    → Led leads asked rest led
    → Gathers true (IsLedTo leads places) led
led_all relative leads places asked rest led some is free empty h = record {
  sound = λ q has. let from = h.sound q has in (from.0, asked_is relative places asked is from.0 from.1, from.2);
  complete = λ q to.
      let on = asked_leads relative leads places asked some is free q to in
      ⊎_elim (λ (old : Contains led q). old) (λ (left : Contains rest on.0). absurd (none_left rest on.0 empty left)) (h.complete on.0 q on.1 on.2);
}

-- places in order and each once
pub sorted_gathered : (every : Bool) (P : ℕ → Type 0) (led sorted next : List ℕ)
    → Gathers true P led
    → IsPermutation led sorted
    → ((q : ℕ) → (Contains next q → Contains sorted q) × (Contains sorted q → Contains next q))
    → Gathers every P next
sorted_gathered every P led sorted next found same deduped = record {
  sound = λ q has. found.sound q (Contains-permutation sorted led q (IsPermutation-sym led sorted same) ((deduped q).0 has));
  complete = λ q held. got_of_contains every next q ((deduped q).1 (Contains-permutation led sorted q same (found.complete q held)));
}

-- a test of the first place, where the option isn't relative
pub first_holds : (every : Bool) (leads : ℕ → ℕ → Type 0) (places : List ℕ)
    → ((p q : ℕ) → leads p q → q ≡ p)
    → ((p p' : ℕ) → leads p p → leads p' p')
    → 0 < length places
    → leads (get_or places 0 0) (get_or places 0 0)
    → Gathers every (IsLedTo leads places) places
first_holds every leads places test free some here = record {
  sound = λ q has. (q, has, free (get_or places 0 0) q here);
  complete = λ q led. got_of_contains every places q (subst (λ (x : ℕ). Contains places x) (sym (test led.0 q led.2)) led.1);
}

pub first_fails : (every : Bool) (leads : ℕ → ℕ → Type 0) (places : List ℕ)
    → ((p q : ℕ) → leads p q → q ≡ p)
    → ((p p' : ℕ) → leads p p → leads p' p')
    → (leads (get_or places 0 0) (get_or places 0 0) → ⊥)
    → Gathers every (IsLedTo leads places) []
first_fails every leads places test free never = record {
  sound = λ q has. absurd (omega (arith, has.1));
  complete = λ q led. absurd (never (free led.0 (get_or places 0 0) (subst (λ (x : ℕ). leads led.0 x) (test led.0 q led.2) led.2)));
}

-- an option that leaves every place
pub all_stay : (every : Bool) (leads : ℕ → ℕ → Type 0) (places : List ℕ) → ((p q : ℕ) → leads p q → q ≡ p) → ((p : ℕ) → leads p p) → Gathers every (IsLedTo leads places) places
all_stay every leads places test holds = record {
  sound = λ q has. (q, has, holds q);
  complete = λ q led. got_of_contains every places q (subst (λ (x : ℕ). Contains places x) (sym (test led.0 q led.2)) led.1);
}

-- a list that is written over whole
pub refill_whole : (xs ws : List ℕ) → length ws ≡ length xs → refill (length xs) xs ws ≡ ws
refill_whole xs ws same = let fits : length xs ≤ length ws = omega arith in take-append-le (length xs) ws (drop (length ws) xs) fits ∙ take_all (length xs) ws fits'
  where
    fits' : length ws ≤ length xs
    fits' = omega arith
