-- One window more of a sweep, and one place more within a window.
use Rattle.std.proofs.Common.{◌≡◌, ℕ, ◌+◌, ◌-◌, ◌<◌, ◌≤◌, ◌⊎◌, inl, inr, ⊎_elim, max, min, pos, ◌+ℤ◌, ◌≤ℤ◌, Bool, true, false}
use Rattle.std.proofs.Common.{cond, ◌||◌, ◌&&◌, nat_lt, List, [], ◌∷◌, ◌++◌, length, refl, sym, subst, ◌∙◌, arith, Contains}
use Rattle.std.proofs.Common.{IfSome, MatchBool, take, drop, get_or, ◌==◌}
use Rattle.std.proofs.lemmas.Bool.{cases_lt}
use Rattle.std.proofs.lemmas.Bool.Decides.{nat_tests}
use Rattle.std.proofs.lemmas.List.{length-map, take_all}
use Rattle.std.specs.Char.{to_ascii_lowercase}
use Rattle.std.proofs.lemmas.Int.{ints}
use Rattle.std.proofs.lemmas.List.Elements.{Contains-push, Contains-push_cases, Contains-append_left}
use Rattle.memchr.specs.Find.{NoneBefore, Nowhere}
use Rattle.edge_io.specs.Matching.{folded}
use Rattle.option_eval.specs.Sets.{IsRising, IsGot, Adds, Gathers, Occurs, IsHitIn, IsHitFrom, IsWithin}
use Rattle.option_eval.specs.declared.reach.Reach.{Reach}
use Rattle.option_eval.proofs.Sets.Rising.{contains_cases, contains_first, contains_after, rising_least, got_kept, rising_push, rising_low, rising_high}

-- where a window goes on: after a place, or at its end where one place is enough
abbrev pub on_from : Bool → ℕ → ℕ → ℕ
on_from every start end = cond every (start + 1) end

module _ (every nocase : Bool) (payload bytes : List ℕ) where
  -- nothing was added of a window that is empty yet
  pub adds_none : (low : ℕ) (old : List ℕ) → Adds every (IsHitIn nocase payload bytes low low) old old
  adds_none low old = record {
    sound = λ q has. inl has;
    kept = λ q has. has;
    complete = λ q hit. absurd (omega (arith, hit.1, hit.2));
  }

  -- the next place in the window
  pub adds_next : (low at start end : ℕ) (old new : List ℕ) → low ≤ at → Adds every (IsHitIn nocase payload bytes low at) old new
      → NoneBefore (Occurs nocase payload bytes) at end start → Occurs nocase payload bytes start
      → Adds every (IsHitIn nocase payload bytes low (on_from every start end)) old (new ++ (start + length bytes) ∷ [])
  adds_next low at start end old new order h first here = record {
    sound = λ q has. ⊎_elim
        (λ (before : Contains new q). ⊎_elim (λ (o : Contains old q). inl o)
        (λ (hit : IsHitIn nocase payload bytes low at q). inr (hit.0, hit.1, earlier every hit.0 hit.2, hit.3, hit.4))
        (h.sound q before))
        (λ (is : start + length bytes ≡ q). inr (start, omega (arith, first.low), start_in every, here, sym is))
        (Contains-push_cases new (start + length bytes) q has);
    kept = λ q has. Contains-append_left new _ q (h.kept q has);
    complete = λ q hit. complete every h.complete q hit;
  } where
    earlier : (all : Bool) (i : ℕ) → i < at → i < on_from all start end
    earlier true i below = omega (arith, first.low)
    earlier false i below = omega (arith, first.low, first.high)

    start_in : (all : Bool) → start < on_from all start end
    start_in true = omega arith
    start_in false = first.high

    complete : (all : Bool)
        → ((q : ℕ) → IsHitIn nocase payload bytes low at q → IsGot all new q)
        → (q : ℕ)
        → IsHitIn nocase payload bytes low (on_from all start end) q
        → IsGot all (new ++ (start + length bytes) ∷ []) q
    complete false before q hit = omega (arith, (Contains-push new (start + length bytes)).1)
    complete true before q hit = ⊎_elim
        (λ (under : hit.0 < at). Contains-append_left new _ q (before q (hit.0, hit.1, under, hit.3, hit.4)))
        (λ (over : at ≤ hit.0). ⊎_elim
        (λ (less : hit.0 < start). absurd (first.before hit.0 over less hit.3))
        (λ (more : start ≤ hit.0).
        let same : start + length bytes ≡ q = omega (arith, hit.2, hit.4) in
        subst (λ (x : ℕ). Contains (new ++ (start + length bytes) ∷ []) x) same (Contains-push new (start + length bytes)))
        (cases_lt hit.0 start))
        (cases_lt hit.0 at)

  -- there is no further place in the window
  pub adds_all : (low at end : ℕ) (old new : List ℕ) → Adds every (IsHitIn nocase payload bytes low at) old new → at ≤ end → Nowhere (Occurs nocase payload bytes) at end
      → Adds every (IsHitIn nocase payload bytes low end) old new
  adds_all low at end old new h order no_more = record {
    sound = λ q has. ⊎_elim (λ (o : Contains old q). inl o) (λ (hit : IsHitIn nocase payload bytes low at q). inr (hit.0, hit.1, omega (arith, hit.2), hit.3, hit.4)) (h.sound q has);
    kept = h.kept;
    complete = λ q hit. ⊎_elim
        (λ (under : hit.0 < at). h.complete q (hit.0, hit.1, under, hit.3, hit.4))
        (λ (over : at ≤ hit.0). absurd (no_more hit.0 over hit.2 hit.3))
        (cases_lt hit.0 at);
  }

  -- one place is enough, and there is one
  pub adds_enough : (low end : ℕ) (old : List ℕ) → every ≡ false → 0 < length old → Adds every (IsHitIn nocase payload bytes low end) old old
  adds_enough low end old one some = record {
    sound = λ q has. inl has;
    kept = λ q has. has;
    complete = λ q hit. subst (λ (all : Bool). IsGot all old q) (sym one) some;
  }

  -- a search of a window begins, at its end where nothing is wanted of it
  pub begins : (low end : ℕ) (old : List ℕ) (none : Bool)
      → none ≡ (length old == 0)
      → low ≤ end
      → IsRising 0 old (low + length bytes)
      → (low ≤ cond (every || none) low end) × (cond (every || none) low end ≤ end) ×
      Adds every (IsHitIn nocase payload bytes low (cond (every || none) low end)) old old ×
      IsRising 0 old (cond (every || none) low end + length bytes)
  begins low end old none empty order risen = from every none refl empty
    where
      from : (all none : Bool)
          → all ≡ every
          → none ≡ (length old == 0)
          → (low ≤ cond (all || none) low end) × (cond (all || none) low end ≤ end) ×
          Adds every (IsHitIn nocase payload bytes low (cond (all || none) low end)) old old ×
          IsRising 0 old (cond (all || none) low end + length bytes)
      from true none is empty = (omega arith, order, adds_none low old, risen)
      from false true is empty = (omega arith, order, adds_none low old, risen)
      from false false is empty =
          let some : 0 < length old = grind (arith, nat_tests) in
          (order, omega arith, adds_enough low end old (sym is) some, rising_high old 0 (low + length bytes) (end + length bytes) (omega arith) risen)

  module _ (reach : Reach) (places : List ℕ) where
    -- all places before the rest were asked: of what they reach, that below `from` was searched, and the places
    -- from there on and below `done` are still to be searched
    pub record Swept (rest : List ℕ) (from done : ℕ) (next : List ℕ) : Type 0 where
      pub sound : (q : ℕ) → Contains next q → IsHitFrom nocase payload bytes reach places q
      pub within : (p : ℕ) → Contains rest p → Contains places p
      pub order : from ≤ done
      pub reached : (i : ℕ) → from ≤ i → i < done → Occurs nocase payload bytes i → IsHitFrom nocase payload bytes reach places (i + length bytes)
      pub complete : (p i : ℕ) → Contains places p → IsWithin reach (length bytes) p i → Occurs nocase payload bytes i
          → IsGot every next (i + length bytes) ⊎ (((from ≤ i) × (i < done)) ⊎ (Contains rest p × (done ≤ i)))

    pub swept_none : Swept places 0 0 []
    swept_none = record {
      sound = λ q has. absurd (omega (arith, has.1));
      within = λ p has. has;
      order = omega arith;
      reached = λ i low high here. absurd (omega arith);
      complete = λ p i has reached here. inr (inr (has, omega arith));
    }

    -- the window that is left is searched
    pub swept_all : (rest : List ℕ) (from done : ℕ) (next last : List ℕ) → length rest < 1 → Swept rest from done next → Adds every (IsHitIn nocase payload bytes from done) next last
        → Gathers every (IsHitFrom nocase payload bytes reach places) last
    swept_all rest from done next last empty h added = record {
      sound = λ q has. ⊎_elim (λ (old : Contains next q). h.sound q old)
          (λ (hit : IsHitIn nocase payload bytes from done q). subst (λ (x : ℕ). IsHitFrom nocase payload bytes reach places x) (sym hit.4) (h.reached hit.0 hit.1 hit.2 hit.3))
          (added.sound q has);
      complete = λ q hit. subst (λ (x : ℕ). IsGot every last x) (sym hit.5) (⊎_elim
          (λ (got : IsGot every next (hit.1 + length bytes)). got_kept every next last (hit.1 + length bytes) added.kept got)
          (λ (more : ((from ≤ hit.1) × (hit.1 < done)) ⊎ (Contains rest hit.0 × (done ≤ hit.1))). ⊎_elim
          (λ (inside : (from ≤ hit.1) × (hit.1 < done)). added.complete (hit.1 + length bytes) (hit.1, inside.0, inside.1, hit.4, refl))
          (λ (left : Contains rest hit.0 × (done ≤ hit.1)). absurd (omega (arith, left.0.1)))
          more)
          (h.complete hit.0 hit.1 hit.2 hit.3 hit.4));
    }

    -- one place more: its window is from `least` on and below `most`; what was left is searched if that is apart
    module _ (place : ℕ) (later : List ℕ) (high from done bound least most low end : ℕ) (next new : List ℕ)
        (rising : IsRising 0 (place ∷ later) high)
        (before : Swept (place ∷ later) from done next)
        (fits : (i : ℕ) → Occurs nocase payload bytes i → i < bound)
        (least_is : (i : ℕ) → i < bound →
        ((pos place +ℤ reach.from) ≤ℤ pos i → least ≤ i) × (least ≤ i → (pos place +ℤ reach.from) ≤ℤ pos i))
        (most_is : (i : ℕ) → i < bound →
        (IfSome reach.room (λ room. pos (i + length bytes) ≤ℤ ((pos place +ℤ reach.from) +ℤ room)) → i < most) ×
        (i < most → IfSome reach.room (λ room. pos (i + length bytes) ≤ℤ ((pos place +ℤ reach.from) +ℤ room))))
        (end_is : end ≡ max most done)
        (low_is : low ≡ min (max least done) end)
        (added : Adds every (IsHitIn nocase payload bytes from (cond (nat_lt done low) done from)) next new) where
      hit_within : (i : ℕ) → low ≤ i → i < end → done ≤ i → Occurs nocase payload bytes i → IsHitFrom nocase payload bytes reach places (i + length bytes)
      hit_within i over under past here =
          let below = fits i here in
          let reached : IsWithin reach (length bytes) place i = record {
            low = (least_is i below).1 (omega arith);
            high = (most_is i below).1 (omega arith);
          } in
          (place, i, before.within place (contains_first place later), reached, here, refl)

      asked : (p i : ℕ) → Contains (place ∷ later) p → done ≤ i → IsWithin reach (length bytes) p i → Occurs nocase payload bytes i → ((low ≤ i) × (i < end)) ⊎ (Contains later p × (end ≤ i))
      asked p i has from reached here =
          let below = fits i here in
          ⊎_elim
          (λ (is : p ≡ place).
          let mine : IsWithin reach (length bytes) place i = subst (λ (x : ℕ). IsWithin reach (length bytes) x i) is reached in
          let over = (least_is i below).0 mine.low in
          let under = (most_is i below).0 mine.high in
          inl (omega arith, omega arith))
          (λ (after : Contains later p).
          let order : place + 1 ≤ p = rising_least later (place + 1) high p rising.1 after in
          let low_enough = reached.low in
          let over : (pos place +ℤ reach.from) ≤ℤ pos i = omega (arith, ints) in
          let least_under = (least_is i below).0 over in
          ⊎_elim (λ (under : i < end). inl (omega arith, under)) (λ (past : end ≤ i). inr (after, past)) (cases_lt i end))
          (contains_cases place later p has)

      sound_in : (apart : Bool) → apart ≡ nat_lt done low → (q : ℕ) → IsHitIn nocase payload bytes from (cond apart done from) q → IsHitFrom nocase payload bytes reach places q
      sound_in true is q hit = subst (λ (x : ℕ). IsHitFrom nocase payload bytes reach places x) (sym hit.4) (before.reached hit.0 hit.1 hit.2 hit.3)
      sound_in false is q hit = absurd (omega (arith, hit.1, hit.2))

      order_in : (apart : Bool) → cond apart low from ≤ end
      order_in true = omega arith
      order_in false = omega (arith, before.order)

      reached_in : (apart : Bool)
          → apart ≡ nat_lt done low
          → (i : ℕ)
          → cond apart low from ≤ i
          → i < end
          → Occurs nocase payload bytes i
          → IsHitFrom nocase payload bytes reach places (i + length bytes)
      reached_in true is i over under here =
          let apart : done < low = grind (arith, nat_tests) in
          hit_within i over under (omega arith) here
      reached_in false is i over under here =
          let touches : low ≤ done = grind (arith, nat_tests) in
          ⊎_elim (λ (inside : i < done). before.reached i over inside here) (λ (past : done ≤ i). hit_within i (omega arith) under past here) (cases_lt i done)

      -- what was left is searched, or is still left
      left_in : (apart : Bool) → ((q : ℕ) → IsHitIn nocase payload bytes from (cond apart done from) q → IsGot every new q) → (i : ℕ) → from ≤ i → i < done → Occurs nocase payload bytes i
          → IsGot every new (i + length bytes) ⊎ ((cond apart low from ≤ i) × (i < end))
      left_in true complete i over under here = inl (complete (i + length bytes) (i, over, under, here, refl))
      left_in false complete i over under here = inr (over, omega arith)

      window_in : (apart : Bool) (i : ℕ) → low ≤ i → done ≤ i → cond apart low from ≤ i
      window_in true i over past = over
      window_in false i over past = omega (arith, before.order)

      pub swept_more : (rest : List ℕ)
          → (rest ≡ later) ⊎ (((every ≡ false) × (0 < length new)) ⊎ (bound ≤ end))
          → ((p : ℕ) → Contains rest p → Contains later p)
          → Swept rest (cond (nat_lt done low) low from) end new
      swept_more rest asks fewer = record {
        sound = λ q has.
            ⊎_elim (λ (old : Contains next q). before.sound q old)
            (λ (hit : IsHitIn nocase payload bytes from (cond (nat_lt done low) done from) q). sound_in
            (nat_lt done low) refl q hit)
            (added.sound q has);
        within = λ p has. before.within p (contains_after place later p (fewer p has));
        order = order_in (nat_lt done low);
        reached = λ i over under here. reached_in (nat_lt done low) refl i over under here;
        complete = λ p i has reached here. ⊎_elim
            (λ (got : IsGot every next (i + length bytes)). inl (got_kept every next new (i + length bytes) added.kept got))
            (λ (more : ((from ≤ i) × (i < done)) ⊎ (Contains (place ∷ later) p × (done ≤ i))). ⊎_elim
            (λ (inside : (from ≤ i) × (i < done)). ⊎_elim
            (λ (got : IsGot every new (i + length bytes)). inl got)
            (λ (still : (cond (nat_lt done low) low from ≤ i) × (i < end)). inr (inl still))
            (left_in (nat_lt done low) added.complete i inside.0 inside.1 here))
            (λ (left : Contains (place ∷ later) p × (done ≤ i)). ⊎_elim
            (λ (mine : (low ≤ i) × (i < end)). inr (inl (window_in (nat_lt done low) i mine.0 left.1, mine.1)))
            (λ (on : Contains later p × (end ≤ i)). goes_on asks p i here on)
            (asked p i left.0 left.1 reached here))
            more)
            (before.complete p i has reached here);
      } where
        goes_on : (rest ≡ later) ⊎ (((every ≡ false) × (0 < length new)) ⊎ (bound ≤ end)) → (p i : ℕ) → Occurs nocase payload bytes i → Contains later p × (end ≤ i)
            → IsGot every new (i + length bytes) ⊎ (((cond (nat_lt done low) low from ≤ i) × (i < end)) ⊎ (Contains rest p × (end ≤ i)))
        goes_on (inl same) p i here on = inr (inr (subst (λ (xs : List ℕ). Contains xs p) (sym same) on.0, on.1))
        goes_on (inr (inl enough)) p i here on = inl (subst (λ (all : Bool). IsGot all new (i + length bytes)) (sym enough.0) enough.1)
        goes_on (inr (inr whole)) p i here on = absurd (omega (arith, fits i here, on.1))

-- the places of a window that is apart rise below the next one
pub apart_rising : (xs : List ℕ) (done low from size : ℕ) → done < low → IsRising 0 xs (done + size) → IsRising 0 xs (cond (nat_lt done low) low from + size)
apart_rising xs done low from size apart risen = by_test (nat_lt done low) refl
  where
    by_test : (b : Bool) → b ≡ nat_lt done low → IsRising 0 xs (cond b low from + size)
    by_test true is = rising_high xs 0 (done + size) (low + size) (omega arith) risen
    by_test false is = let touches : low ≤ done = grind (arith, nat_tests) in absurd (omega arith)

-- the places that rise, after the next place
pub rising_next : (all : Bool) (new : List ℕ) (at start end size : ℕ) → at ≤ start → start < end → IsRising 0 new (at + size) → IsRising 0 (new ++ (start + size) ∷ []) (on_from all start end + size)
rising_next true new at start end size from below h = rising_push new 0 (at + size) (start + size) (start + 1 + size) (omega arith) (omega arith) h
rising_next false new at start end size from below h = rising_push new 0 (at + size) (start + size) (end + size) (omega arith) (omega arith) h

pub on_from_low : (all : Bool) (start end : ℕ) → start < end → start ≤ on_from all start end
on_from_low true start end below = omega arith
on_from_low false start end below = omega arith

pub on_from_high : (all : Bool) (start end : ℕ) → start < end → on_from all start end ≤ end
on_from_high true start end below = omega arith
on_from_high false start end below = omega arith

-- folding keeps the length
pub length-folded : (nocase : Bool) (bytes : List ℕ) → length (folded nocase bytes) ≡ length bytes
length-folded true bytes = length-map bytes to_ascii_lowercase
length-folded false bytes = refl

pub occurs_fits : (nocase : Bool) (payload bytes : List ℕ) (i : ℕ) → Occurs nocase payload bytes i → i + length bytes ≤ length payload
occurs_fits nocase payload bytes i here = let fits = here.fits in omega (arith, length-folded nocase payload, length-folded nocase bytes)

rest_of : (place : ℕ) (later : List ℕ) → take (length (place ∷ later) - 1) (drop 1 (place ∷ later)) ≡ later
rest_of place later = take_all (length (place ∷ later) - 1) later (omega arith)

-- which places are asked next
choice : (all none more : Bool) (rest taken new : List ℕ) (end bound : ℕ) → none ≡ (length new == 0) → more ≡ nat_lt end bound → MatchBool ((all || none) && more) (rest ≡ taken) (rest ≡ [])
    → (rest ≡ taken) ⊎ ((rest ≡ []) × (((all ≡ false) × (0 < length new)) ⊎ (bound ≤ end)))
choice true none true rest taken new end bound empty left h = inl h
choice false true true rest taken new end bound empty left h = inl h
choice false false true rest taken new end bound empty left h = let some : 0 < length new = grind (arith, nat_tests) in inr (h, inl (refl, some))
choice true none false rest taken new end bound empty left h = let whole : bound ≤ end = grind (arith, nat_tests) in inr (h, inr whole)
choice false true false rest taken new end bound empty left h = let whole : bound ≤ end = grind (arith, nat_tests) in inr (h, inr whole)
choice false false false rest taken new end bound empty left h = let whole : bound ≤ end = grind (arith, nat_tests) in inr (h, inr whole)

module _ (every nocase : Bool) (payload bytes : List ℕ) (reach : Reach) (places : List ℕ) where
  -- one turn of the sweep
  pub swept_next : (rest on : List ℕ) (high from done bound least most low end : ℕ) (next new : List ℕ) (none more : Bool)
      → 1 ≤ length rest
      → IsRising 0 rest high
      → Swept every nocase payload bytes reach places rest from done next
      → ((i : ℕ) → i + length bytes ≤ length payload → i < bound)
      → ((i : ℕ) → i < bound →
      ((pos (get_or rest 0 0) +ℤ reach.from) ≤ℤ pos i → least ≤ i) × (least ≤ i → (pos (get_or rest 0 0) +ℤ reach.from) ≤ℤ pos i))
      → ((i : ℕ) → i < bound →
      (IfSome reach.room (λ room. pos (i + length bytes) ≤ℤ ((pos (get_or rest 0 0) +ℤ reach.from) +ℤ room)) → i < most) ×
      (i < most → IfSome reach.room (λ room. pos (i + length bytes) ≤ℤ ((pos (get_or rest 0 0) +ℤ reach.from) +ℤ room))))
      → end ≡ max most done
      → low ≡ min (max least done) end
      → Adds every (IsHitIn nocase payload bytes from (cond (nat_lt done low) done from)) next new
      → none ≡ (length new == 0)
      → more ≡ nat_lt end bound
      → MatchBool ((every || none) && more) (on ≡ take (length rest - 1) (drop 1 rest)) (on ≡ [])
      → Swept every nocase payload bytes reach places on (cond (nat_lt done low) low from) end new × IsRising 0 on high
  swept_next [] on high from done bound least most low end next new none more some rising before fits least_is most_is end_is low_is added empty left asks = absurd (omega arith)
  swept_next (place ∷ later) on high from done bound least most low end next new none more some rising before fits least_is most_is end_is low_is added empty left asks =
      let is = rest_of place later in
      let taken = take (length (place ∷ later) - 1) (drop 1 (place ∷ later)) in
      let which = choice every none more on taken new end bound empty left asks in (
        swept_more every nocase payload bytes reach places place later high from done bound least most low end next new rising before
            (λ i here. fits i (occurs_fits nocase payload bytes i here)) least_is most_is end_is low_is added on
            (⊎_elim
            (λ (same : on ≡ taken). inl (same ∙ is))
            (λ (gone : (on ≡ []) × (((every ≡ false) × (0 < length new)) ⊎ (bound ≤ end))). inr gone.1)
            which)
            (λ p has. ⊎_elim
            (λ (same : on ≡ taken). subst (λ (xs : List ℕ). Contains xs p) (same ∙ is) has)
            (λ (gone : (on ≡ []) × (((every ≡ false) × (0 < length new)) ⊎ (bound ≤ end))). absurd (gone_has p (subst (λ (xs : List ℕ). Contains xs p) gone.0 has)))
            which),
        ⊎_elim
            (λ (same : on ≡ taken). subst (λ (xs : List ℕ). IsRising 0 xs high) (sym (same ∙ is)) (rising_low later (place + 1) 0 high (omega arith) rising.1))
            (λ (gone : (on ≡ []) × (((every ≡ false) × (0 < length new)) ⊎ (bound ≤ end))). subst (λ (xs : List ℕ). IsRising 0 xs high) (sym gone.0) (omega arith))
            which,
      )
    where
      gone_has : (p : ℕ) → Contains [] p → ⊥
      gone_has p has = omega (arith, has.1)
