-- One look more at a payload from left to right, and one place more that is asked with what was seen.
use Rattle.std.proofs.Common.{◌≡◌, ℕ, ◌+◌, ◌-◌, ◌<◌, ◌≤◌, ◌⊎◌, inl, inr, ⊎_elim, max, ℤ, pos, ◌+ℤ◌, ◌≤ℤ◌, Bool, true, false, List}
use Rattle.std.proofs.Common.{[], ◌∷◌, length, take, drop, get_or, Option, Some, None, IfSome, IsTrue, Contains, nat_le, refl}
use Rattle.std.proofs.Common.{subst, arith}
use Rattle.std.proofs.lemmas.Bool.{cases_lt}
use Rattle.std.proofs.lemmas.Bool.Decides.{nat_tests}
use Rattle.std.proofs.lemmas.Int.{ints}
use Rattle.memchr.specs.Find.{Nowhere}
use Rattle.option_eval.specs.Absent.{IsReached, IsNoted, SeesOn}
use Rattle.option_eval.specs.Sets.{IsRising, Occurs}
use Rattle.option_eval.specs.declared.absent.SeenSoFar.{SeenSoFar}
use Rattle.option_eval.specs.declared.reach.Reach.{Reach}
use Rattle.option_eval.proofs.Sets.Asking.{contains_head, contains_later}
use Rattle.option_eval.proofs.Sets.Rising.{rising_least}
use Rattle.option_eval.proofs.Sets.Sweeping.{occurs_fits}

module _ (occurs : ℕ → Type 0) (low end from : ℕ) (seen : SeenSoFar) (from_is : from ≡ max low seen.done) where
  -- nothing new is looked at
  pub sees_same : (low < seen.last) ⊎ (end ≤ from) → SeesOn occurs low end seen seen
  sees_same why = record {
    found = λ i over under here noted. ⊎_elim (λ (h : low < seen.last). h) (λ (h : end ≤ from). let known = noted (omega arith) in omega arith) why;
    noted = λ i over here noted. noted;
    is_found = λ some. inl refl;
  }

  -- the bytes occur nowhere there
  pub sees_none : (new : SeenSoFar) → new.done ≡ end → new.last ≡ seen.last → seen.last ≤ low → from < end → Nowhere occurs from end → SeesOn occurs low end seen new
  sees_none new done_is last_is before more none = record {
    found = λ i over under here noted. absurd (⊎_elim
        (λ (old : i < seen.done). let known = noted old in omega arith)
        (λ (fresh : seen.done ≤ i). none i (omega arith) under here)
        (cases_lt i seen.done));
    noted = λ i over here noted below. ⊎_elim
        (λ (old : i < seen.done). let known = noted old in omega arith)
        (λ (fresh : seen.done ≤ i). absurd (none i (omega arith) (omega arith) here))
        (cases_lt i seen.done);
    is_found = λ some. inl last_is;
  }

  -- the bytes occur first at a place there
  pub sees_some : (new : SeenSoFar) (start : ℕ) → new.done ≡ start + 1 → new.last ≡ start + 1 → from ≤ start → start < end → occurs start → SeesOn occurs low end seen new
  sees_some new start done_is last_is over under here = record {
    found = λ i from_low below at noted. omega arith;
    noted = λ i from_low at noted below. omega arith;
    is_found = λ some. let same : start ≡ new.last - 1 = omega arith in inr (subst occurs same here, omega arith);
  }

module _ (nocase : Bool) (payload bytes : List ℕ) (reach : Reach) where
  -- what is seen serves the places that are left
  pub record Serves (rest : List ℕ) (seen : SeenSoFar) : Type 0 where
    pub noted : (p i : ℕ) → Contains rest p → (pos p +ℤ reach.from) ≤ℤ pos i → Occurs nocase payload bytes i → IsNoted seen i
    pub is_found : 0 < seen.last
        → Occurs nocase payload bytes (seen.last - 1) ×
        ((p : ℕ) → Contains rest p →
        IfSome reach.room (λ room. pos (seen.last - 1 + length bytes) ≤ℤ ((pos p +ℤ reach.from) +ℤ room)))

  pub serves_none : (rest : List ℕ) (seen : SeenSoFar) → seen.done ≡ 0 → seen.last ≡ 0 → Serves rest seen
  serves_none rest seen done_is last_is = record {
    noted = λ p i has over here below. absurd (omega arith);
    is_found = λ some. absurd (omega arith);
  }

  -- a later place has as much room
  room_later : (room : Option ℤ) (p q i : ℕ) → p ≤ q → IfSome room (λ room. pos i ≤ℤ ((pos p +ℤ reach.from) +ℤ room)) → IfSome room (λ room. pos i ≤ℤ ((pos q +ℤ reach.from) +ℤ room))
  room_later None p q i more h = tt
  room_later (Some room) p q i more h = omega (arith, ints)

  module _ (rest : List ℕ) (high bound low end : ℕ) (seen new : SeenSoFar) (some : 1 ≤ length rest)
      (least : (p : ℕ) → Contains rest p → get_or rest 0 0 ≤ p)
      (fits : (i : ℕ) → i + length bytes ≤ length payload → i < bound)
      (low_is : (i : ℕ) → i < bound →
      ((pos (get_or rest 0 0) +ℤ reach.from) ≤ℤ pos i → low ≤ i) × (low ≤ i → (pos (get_or rest 0 0) +ℤ reach.from) ≤ℤ pos i))
      (end_is : (i : ℕ) → i < bound →
      (IfSome reach.room (λ room. pos (i + length bytes) ≤ℤ ((pos (get_or rest 0 0) +ℤ reach.from) +ℤ room)) → i < end) ×
      (i < end → IfSome reach.room (λ room. pos (i + length bytes) ≤ℤ ((pos (get_or rest 0 0) +ℤ reach.from) +ℤ room))))
      (before : Serves rest seen) (looked : SeesOn (Occurs nocase payload bytes) low end seen new) where
    under_bound : (i : ℕ) → Occurs nocase payload bytes i → i < bound
    under_bound i here = fits i (occurs_fits nocase payload bytes i here)

    low_of : (p i : ℕ) → Contains rest p → (pos p +ℤ reach.from) ≤ℤ pos i → Occurs nocase payload bytes i → low ≤ i
    low_of p i has over here = let first = least p has in (low_is i (under_bound i here)).0 (omega (arith, ints))

    last_is_found : 0 < new.last → Occurs nocase payload bytes (new.last - 1) × IfSome reach.room (λ room. pos (new.last - 1 + length bytes) ≤ℤ ((pos (get_or rest 0 0) +ℤ reach.from) +ℤ room))
    last_is_found some_last = ⊎_elim
        (λ (same : new.last ≡ seen.last).
        let old = before.is_found (omega arith) in
        let at : seen.last - 1 ≡ new.last - 1 = omega arith in (
          subst (λ (i : ℕ). Occurs nocase payload bytes i) at old.0,
          subst (λ (i : ℕ). IfSome reach.room (λ room. pos (i + length bytes) ≤ℤ ((pos (get_or rest 0 0) +ℤ reach.from) +ℤ room)))
              at
              (old.1 (get_or rest 0 0) (contains_head rest some)),
        ))
        (λ (fresh : Occurs nocase payload bytes (new.last - 1) × (new.last - 1 < end)).
        (fresh.0, (end_is (new.last - 1) (under_bound (new.last - 1) fresh.0)).1 fresh.1))
        (looked.is_found some_last)

    pub serves_next : Serves (take (length rest - 1) (drop 1 rest)) new
    serves_next = record {
      noted = λ p i has over here.
          let had = contains_later rest p some has in
          looked.noted i (low_of p i had over here) here (before.noted p i had over here);
      is_found = λ some_last.
          let last = last_is_found some_last in (
            last.0,
            λ p has.
                room_later reach.room (get_or rest 0 0) p (new.last - 1 + length bytes) (least p (contains_later rest p some has))
                last.1,
          );
    }

    -- what was seen tells whether the bytes are reached from the first of them
    pub tells : (holds : Bool)
        → holds ≡ nat_le new.last low
        → (IsTrue holds → ¬ IsReached nocase payload bytes reach (get_or rest 0 0)) ×
        (¬ IsReached nocase payload bytes reach (get_or rest 0 0) → IsTrue holds)
    tells true is = (
      λ yes. λ reached.
          let i = reached.0 in
          let here = reached.2 in
          let below = under_bound i here in
          let past = looked.found i ((low_is i below).0 reached.1.low) ((end_is i below).0 reached.1.high) here (before.noted (get_or rest 0 0) i (contains_head rest some) reached.1.low here) in
          let over : new.last ≤ low = grind (arith, nat_tests) in
          omega arith,
      λ none. refl,
    )
    tells false is = (
      λ yes. absurd (cc),
      λ none.
          let past : low < new.last = grind (arith, nat_tests) in
          let last = last_is_found (omega arith) in
          let below = under_bound (new.last - 1) last.0 in
          absurd (none (new.last - 1, record { low = (low_is (new.last - 1) below).1 (omega arith); high = last.1 }, last.0)),
    )

-- the first of places that rise is the least
pub least_first : (rest : List ℕ) (low high : ℕ) → 1 ≤ length rest → IsRising low rest high → (p : ℕ) → Contains rest p → get_or rest 0 0 ≤ p
least_first [] low high some rising p has = absurd (omega arith)
least_first (x ∷ rest) low high some rising p has = rising_least (x ∷ rest) x high p (omega arith, rising.1) has
