-- One option more of a walk that leaves states after the first extraction, one state more, and what they cost.
use Rattle.std.proofs.Common.{◌≡◌, ℕ, zero, suc, ◌+◌, ◌*◌, ◌≤◌, ◌⊎◌, inl, inr, ⊎_elim, Bool, true, false, cond, List, [], ◌∷◌}
use Rattle.std.proofs.Common.{length, Option, Some, None, MatchBool, Contains, refl, sym, ap, subst, ◌∙◌, arith}
use Rattle.std.specs.Prelude.{bytes_eq, ⊤}
use Rattle.std.specs.List.Sorted.{IsPermutation}
use Rattle.std.proofs.lemmas.List.Sorted.{Contains-permutation, IsPermutation-sym}
use Rattle.std.proofs.lemmas.Bool.{false≢true}
use Rattle.std.proofs.Math.Nat.{mul-le-mul_left}
use Rattle.rule_types.specs.declared.option.Opt.{Opt}
use Rattle.option_eval.specs.Kinds.{needs_place}
use Rattle.option_eval.specs.Numbers.{Point}
use Rattle.option_eval.specs.Places.{Means, is_payload_option, is_extract}
use Rattle.option_eval.specs.Sets.{point, Gathers, IsLedTo, LeadsFrom}
use Rattle.option_eval.specs.States.{places_at, AreAmong, EachState, MatchesFromSome, HaveValues, Leaves}
use Rattle.option_eval.specs.Walks.{MatchesFrom, MatchesFromOne, ExtractsNothing, IsListed, HasValues, visits_of, visits_apart, upto_extraction, after_extraction}
use Rattle.option_eval.specs.declared.states.States.{States}
use Rattle.option_eval.proofs.Extractions.Stating.{left_was, some_taken, some_nowhere, some_among, each_nowhere, each_among}
use Rattle.option_eval.proofs.Walks.Walking.{walk_step, visits_next, passed_nowhere}

-- what a walk told, by what it told of other places or options
pub walked_by : (walked : Bool) (A A' L L' : Type 0) → MatchBool walked A L → (A → A') → (L → L') → MatchBool walked A' L'
walked_by true A A' L L' h a l = a h
walked_by false A A' L L' h a l = l h

pub match_true : (b : Bool) (P Q : Type 0) → b ≡ true → MatchBool b P Q → P
match_true true P Q is h = h
match_true false P Q is h = absurd (false≢true is)

pub match_false : (b : Bool) (P Q : Type 0) → b ≡ false → MatchBool b P Q → Q
match_false true P Q is h = absurd (false≢true (sym is))
match_false false P Q is h = h

cond_false : {A : Type 0} (b : Bool) (x y : A) → b ≡ false → cond b x y ≡ y
cond_false true x y is = absurd (false≢true (sym is))
cond_false false x y is = refl

cond_true : {A : Type 0} (b : Bool) (x y : A) → b ≡ true → cond b x y ≡ x
cond_true true x y is = refl
cond_true false x y is = absurd (false≢true is)

-- the options after one that extracts nothing
pub after_plain : (o : Opt) (os : List Opt) → is_extract o ≡ false → after_extraction (o ∷ os) ≡ after_extraction os
after_plain o os plain = cond_false (is_extract o) os (after_extraction os) plain

module _ (means : Means) (payload : List ℕ) where
  -- an option other than an extraction
  module _ (o : Opt) (os : List Opt) (values places next : List ℕ) (plain : is_extract o ≡ false) (old new : States) where
    pub leaves_plain : Gathers (needs_place os) (IsLedTo (LeadsFrom means payload values o) places) next
        → Leaves means payload os values next old new
        → Leaves means payload (o ∷ os) values places old new
    leaves_plain found h = record {
      sound = λ m.
          ⊎_elim (λ (before : MatchesFromSome means payload (after_extraction os) old). inl (back old before))
          (λ (here : MatchesFromOne means payload os values next). inr (step.1 here))
          (h.sound (there new m));
      kept = λ m. back new (h.kept (there old m));
      complete = λ m. back new (h.complete (step.0 m));
      have = λ lists listed each before.
          subst (λ (rest : List Opt). HaveValues means payload lists listed rest new) (sym is) (h.have lists listed
          (λ q has. let from = found.sound q has in (each from.0 from.1 (point values q) from.2).2)
          (subst (λ (rest : List Opt). HaveValues means payload lists listed rest old) is before));
    } where
      is : after_extraction (o ∷ os) ≡ after_extraction os
      is = after_plain o os plain

      there : (states : States) → MatchesFromSome means payload (after_extraction (o ∷ os)) states → MatchesFromSome means payload (after_extraction os) states
      there states m = subst (λ (rest : List Opt). MatchesFromSome means payload rest states) is m

      back : (states : States) → MatchesFromSome means payload (after_extraction os) states → MatchesFromSome means payload (after_extraction (o ∷ os)) states
      back states m = subst (λ (rest : List Opt). MatchesFromSome means payload rest states) (sym is) m

      step : (MatchesFromOne means payload (o ∷ os) values places → MatchesFromOne means payload os values next)
          × (MatchesFromOne means payload os values next → MatchesFromOne means payload (o ∷ os) values places)
      step = walk_step means payload o os values places next plain found

  -- an extraction from no place leaves the states as they are
  pub leaves_nowhere : (os : List Opt) (values places : List ℕ) (states : States) → length places ≡ 0 → Leaves means payload os values places states states
  leaves_nowhere os values places states empty = record {
    sound = λ m. inl m;
    kept = λ m. m;
    complete = λ m. absurd (passed_nowhere means payload os values places empty m);
    have = λ lists listed each before. before;
  }

  -- some way leads through the options from the same places in another order
  pub one_same : (os : List Opt) (values xs ys : List ℕ) → ((q : ℕ) → Contains xs q → Contains ys q) → MatchesFromOne means payload os values xs → MatchesFromOne means payload os values ys
  one_same os values xs ys up m = (m.0, up m.0 m.1, m.2)

  pub leaves_same : (os : List Opt) (values xs ys : List ℕ) (old new : States)
      → ((q : ℕ) → Contains xs q → Contains ys q)
      → ((q : ℕ) → Contains ys q → Contains xs q)
      → Leaves means payload os values xs old new
      → Leaves means payload os values ys old new
  leaves_same os values xs ys old new up down h = record {
    sound = λ m.
        ⊎_elim (λ (before : MatchesFromSome means payload (after_extraction os) old). inl before)
        (λ (here : MatchesFromOne means payload os values xs). inr (one_same os values xs ys up here))
        (h.sound m);
    kept = h.kept;
    complete = λ m. h.complete (one_same os values ys xs down m);
    have = λ lists listed each before. h.have lists listed (λ p has. each p (up p has)) before;
  }

-- sorted places, each once
pub sorted_same : (xs sorted slice next : List ℕ) → IsPermutation xs sorted → slice ≡ sorted → ((q : ℕ) → (Contains next q → Contains slice q) × (Contains slice q → Contains next q))
    → (q : ℕ) → (Contains next q → Contains xs q) × (Contains xs q → Contains next q)
sorted_same xs sorted slice next same is deduped q = (
  λ has. Contains-permutation sorted xs q (IsPermutation-sym xs sorted same) (subst (λ (ys : List ℕ). Contains ys q) is ((deduped q).0 has)),
  λ has. (deduped q).1 (subst (λ (ys : List ℕ). Contains ys q) (sym is) (Contains-permutation xs sorted q same has)),
)

-- what is left was there
abbrev pub IsLeft : States → States → Type 0
IsLeft from left = (values places : List ℕ) → places_at left values ≡ Some places → places_at from values ≡ Some places

-- the states that were taken out were gone on from: those after the extraction tell whether some way leads on
pub record GoneOnFrom (means : Means) (payload : List ℕ) (options : List Opt) (from left after : States) : Type 0 where
  pub sound : MatchesFromSome means payload (after_extraction options) after → MatchesFromSome means payload options from
  pub complete : MatchesFromSome means payload options from → MatchesFromSome means payload (after_extraction options) after ⊎ MatchesFromSome means payload options left
  pub have : (lists : List (List ℕ)) (listed : Option (List Point)) → HaveValues means payload lists listed options from → HaveValues means payload lists listed (after_extraction options) after

module _ (means : Means) (payload : List ℕ) (options : List Opt) (from : States) where
  pub gone_first : (after : States) → ((q : List ℕ) → places_at after q ≡ None) → GoneOnFrom means payload options from from after
  gone_first after none = record {
    sound = λ m. absurd (some_nowhere (λ v p. MatchesFrom means payload (after_extraction options) (point v p)) after none m);
    complete = λ m. inr m;
    have = λ lists listed each. each_nowhere (Contains lists) (λ v p. IsListed listed v p × HasValues means payload lists listed (after_extraction options) (point v p)) after none;
  }

  pub some_here : (left : States) (values places : List ℕ)
      → IsLeft from left
      → places_at left values ≡ Some places
      → MatchesFromOne means payload options values places
      → MatchesFromSome means payload options from
  some_here left values places within was m = (values, places, within values places was, m.0, m.1, m.2)

  -- one state more was gone on from
  pub gone_next : (left left' now new : States) (values places : List ℕ) → IsLeft from left → places_at left values ≡ Some places
      → ((q : List ℕ) → places_at left' q ≡ cond (bytes_eq values q) None (places_at left q))
      → GoneOnFrom means payload options from left now → Leaves means payload options values places now new → GoneOnFrom means payload options from left' new
  gone_next left left' now new values places within was taken before next = record {
    sound = λ m. ⊎_elim before.sound (λ (here : MatchesFromOne means payload options values places). some_here left values places within was here) (next.sound m);
    complete = λ m. ⊎_elim
        (λ (done : MatchesFromSome means payload (after_extraction options) now). inl (next.kept done))
        (λ (there : MatchesFromSome means payload options left). ⊎_elim
        (λ (here : (p : ℕ) × Contains places p × MatchesFrom means payload options (point values p)). inl (next.complete here))
        (λ (later : MatchesFromSome means payload options left'). inr later)
        (some_taken left left' values places was taken (λ v p. MatchesFrom means payload options (point v p)) there))
        (before.complete m);
    have = λ lists listed each. next.have lists listed (λ p has. ((each values places (within values places was)).1 p has).1) (before.have lists listed each);
  }

  -- with fewer states after the extraction, where none leads on that is no longer there
  pub gone_fewer : (left now new : States) → AreAmong new now → (MatchesFromSome means payload (after_extraction options) now → MatchesFromSome means payload (after_extraction options) new)
      → GoneOnFrom means payload options from left now → GoneOnFrom means payload options from left new
  gone_fewer left now new among keeps before = record {
    sound = λ m.
        before.sound (some_among new now among (λ v p. MatchesFrom means payload (after_extraction options) (point v p)) m);
    complete = λ m.
        ⊎_elim (λ (done : MatchesFromSome means payload (after_extraction options) now). inl (keeps done))
        (λ (there : MatchesFromSome means payload options left). inr there)
        (before.complete m);
    have = λ lists listed each.
        each_among new now among (Contains lists)
        (λ v p. IsListed listed v p × HasValues means payload lists listed (after_extraction options) (point v p))
        (before.have lists listed each);
  }

  -- all states were gone on from
  pub gone_all : (left after : States) → ((q : List ℕ) → places_at left q ≡ None) → GoneOnFrom means payload options from left after
      → MatchesFromSome means payload options from → MatchesFromSome means payload (after_extraction options) after
  gone_all left after none h m = ⊎_elim (λ (done : MatchesFromSome means payload (after_extraction options) after). done)
      (λ (there : MatchesFromSome means payload options left). absurd (some_nowhere (λ v p. MatchesFrom means payload options (point v p)) left none there)) (h.complete m)

-- a list without one of its elements
list_cases : {X : Type 0} (x : X) (xs : List X) (y : X) → Contains (x ∷ xs) y → (y ≡ x) ⊎ Contains xs y
list_cases x xs y (zero, within, is) = inl (sym is)
list_cases x xs y (suc k, within, is) = inr (k, omega arith, is)

pub without : {X : Type 0} (xs : List X) (x : X) → Contains xs x → (ys : List X) × (length ys + 1 ≡ length xs) × ((y : X) → Contains xs y → (y ≡ x → ⊥) → Contains ys y)
without [] x has = absurd (omega (arith, has.1))
without (y ∷ xs) x (zero, within, is) = (xs, omega arith, λ z has other. ⊎_elim (λ (same : z ≡ y). absurd (other (same ∙ is))) (λ (after : Contains xs z). after) (list_cases y xs z has))
without (y ∷ xs) x (suc k, within, is) =
    let rest = without xs x (k, omega arith, is) in (
      y ∷ rest.0,
      omega (arith, rest.1),
      λ z has other. ⊎_elim
          (λ (same : z ≡ y). (0, omega arith, sym same))
          (λ (after : Contains xs z). let there = rest.2 z after other in (suc there.0, omega (arith, there.1), there.2))
          (list_cases y xs z has),
    )

-- `each` visits a value list: `rest` has the lists whose states are left
abbrev pub Counted : ℕ → List (List ℕ) → States → ℕ → ℕ → Type 0
Counted each lists left old now = (rest : List (List ℕ)) × EachState (Contains rest) (λ values p. ⊤) left × (now + length rest * each ≤ old + length lists * each)

times_more : (n each : ℕ) → (n + 1) * each ≡ n * each + each
times_more n each = omega arith

pub counted_first : (each : ℕ) (lists : List (List ℕ)) (states : States) (R : List ℕ → ℕ → Type 0) (old : ℕ) → EachState (Contains lists) R states → Counted each lists states old old
counted_first each lists states R old have = (lists, (λ values places found. ((have values places found).0, λ p has. tt)), omega arith)

pub counted_next : (each : ℕ) (lists : List (List ℕ)) (left left' : States) (values places : List ℕ) (old now new : ℕ) → places_at left values ≡ Some places
    → ((q : List ℕ) → places_at left' q ≡ cond (bytes_eq values q) None (places_at left q)) → new ≤ now + each → Counted each lists left old now → Counted each lists left' old new
counted_next each lists left left' values places old now new was taken more before =
    let fewer = without before.0 values (before.1 values places was).0 in
    let sum : length before.0 * each ≡ length fewer.0 * each + each = ap (λ (n : ℕ). n * each) (sym fewer.1) ∙ times_more (length fewer.0) each in (
      fewer.0,
      λ q found_places found. let there = left_was left left' values places was taken q found_places found in (fewer.2 q (before.1 q found_places there.0).0 there.1, λ p has. tt),
      omega (arith, before.2),
    )

pub counted_end : (each : ℕ) (lists : List (List ℕ)) (left : States) (old now : ℕ) → Counted each lists left old now → now ≤ old + length lists * each
counted_end each lists left old now h = omega (arith, h.2)

-- the visits up to the first extraction and after it are those of all options
pub visits_upto : (o : Opt) (os : List Opt) (size : ℕ)
    → is_extract o ≡ false
    → cond (is_payload_option o) (size + 1) 0 + visits_of (upto_extraction os) size ≡ visits_of (upto_extraction (o ∷ os)) size
visits_upto o os size plain =
    visits_next o (upto_extraction os) size ∙ ap (λ (rest : List Opt). visits_of (o ∷ rest) size) (sym (cond_false (is_extract o) [] (upto_extraction os) plain))

pub visits_extract : (o : Opt) (os : List Opt) (size : ℕ) → is_extract o ≡ true → is_payload_option o ≡ true → size + 1 ≡ visits_of (upto_extraction (o ∷ os)) size
visits_extract o os size extracts asks =
    let first : size + 1 ≡ cond (is_payload_option o) (size + 1) 0 + visits_of [] size = sym (ap (λ (n : ℕ). n + visits_of [] size) (cond_true (is_payload_option o) (size + 1) 0 asks) ∙ nothing) in
    first ∙ visits_next o [] size ∙ ap (λ (rest : List Opt). visits_of (o ∷ rest) size) (sym (cond_true (is_extract o) [] (upto_extraction os) extracts))
  where
    nothing : size + 1 + visits_of [] size ≡ size + 1
    nothing = omega arith

pub visits_split : (os : List Opt) (size : ℕ) → visits_of (upto_extraction os) size + visits_of (after_extraction os) size ≡ visits_of os size
visits_split [] size = omega arith
visits_split (o ∷ os) size = step (is_extract o) (visits_split os size)
  where
    none : visits_of [] size ≡ 0
    none = omega arith

    step : (b : Bool)
        → visits_of (upto_extraction os) size + visits_of (after_extraction os) size ≡ visits_of os size
        → visits_of (o ∷ cond b [] (upto_extraction os)) size + visits_of (cond b os (after_extraction os)) size ≡
        visits_of (o ∷ os) size
    step true after = omega (arith, visits_next o [] size, visits_next o os size, none)
    step false after = omega (arith, visits_next o (upto_extraction os) size, visits_next o os size)

-- the visits up to the first extraction, and those of the options after it from each value list apart, are all
pub apart_split : (lists : ℕ) (os : List Opt) (size : ℕ) → visits_of (upto_extraction os) size + lists * visits_apart lists (after_extraction os) size ≡ visits_apart lists os size
apart_split lists [] size = omega arith
apart_split lists (o ∷ os) size = step (is_extract o) (apart_split lists os size)
  where
    none : visits_of [] size ≡ 0
    none = omega arith

    alone : visits_of (o ∷ []) size ≡ cond (is_payload_option o) (size + 1) 0
    alone = omega (arith, visits_next o [] size, none)

    sums : (first upto after whole all : ℕ) → first + upto ≡ all → upto + after ≡ whole → all + after ≡ first + whole
    sums first upto after whole all a b = omega arith

    step : (b : Bool) → visits_of (upto_extraction os) size + lists * visits_apart lists (after_extraction os) size ≡ visits_apart lists os size
        → visits_of (o ∷ cond b [] (upto_extraction os)) size + lists * visits_apart lists (cond b os (after_extraction os)) size
        ≡ cond (is_payload_option o) (size + 1) 0 + cond b (lists * visits_apart lists os size) (visits_apart lists os size)
    step true later = ap (λ (n : ℕ). n + lists * visits_apart lists os size) alone
    step false later =
        sums (cond (is_payload_option o) (size + 1) 0)
        (visits_of (upto_extraction os) size)
        (lists * visits_apart lists (after_extraction os) size)
        (visits_apart lists os size)
        (visits_of (o ∷ upto_extraction os) size)
        (visits_next o (upto_extraction os) size) later

-- options that extract nothing
pub upto_nothing : (os : List Opt) → ExtractsNothing os → upto_extraction os ≡ os
upto_nothing [] h = refl
upto_nothing (o ∷ os) h = ap (λ (rest : List Opt). o ∷ rest) (cond_false (is_extract o) [] (upto_extraction os) h.0 ∙ upto_nothing os h.1)

-- the visits up to the first extraction and those after it, for each of some value lists, as a sum
pub sum_of_lists : (lists upto after whole old mid new : ℕ) → upto + after ≡ whole → mid ≤ old + lists * upto → new ≤ mid + lists * after → new ≤ old + lists * whole
sum_of_lists lists upto after whole old mid new split first second =
    let whole_is : lists * whole ≡ lists * upto + lists * after = ap (λ (n : ℕ). lists * n) (sym split) ∙ parts in
    omega arith
  where
    parts : lists * (upto + after) ≡ lists * upto + lists * after
    parts = omega arith

pub part_of_lists : (lists upto after whole old mid : ℕ) → upto + after ≡ whole → mid ≤ old + lists * upto → mid ≤ old + lists * whole
part_of_lists lists upto after whole old mid split first =
    let none : mid ≤ mid + lists * 0 = omega arith in
    let more : lists * upto ≤ lists * whole = mul-le-mul_left lists (omega arith) in
    omega arith

pub one_of_lists : (lists : List (List ℕ)) (x : List ℕ) (each old now : ℕ) → Contains lists x → now ≤ old + each → now ≤ old + length lists * each
one_of_lists [] x each old now has h = absurd (omega (arith, has.1))
one_of_lists (y ∷ lists) x each old now has h = let more : (length lists + 1) * each ≡ length lists * each + each = times_more (length lists) each in
    let size : length (y ∷ lists) * each ≡ (length lists + 1) * each = ap (λ (n : ℕ). n * each) (omega arith) in
    omega arith
