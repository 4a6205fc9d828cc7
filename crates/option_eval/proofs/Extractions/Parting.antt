-- Parts of states: the same points, each once, how many they are, and what trying them one after another costs.
use Rattle.std.proofs.Common.{◌≡◌, ℕ, ◌+◌, ◌*◌, ◌≤◌, ◌⊎◌, inl, inr, ⊎_elim, Bool, true, false, cond, List, [], ◌∷◌, length, Some}
use Rattle.std.proofs.Common.{None, Ok, Err, Result, IfOk, IsTrue, MatchBool, Contains, refl, sym, ap, subst, ◌∙◌, arith}
use Rattle.std.specs.Prelude.{bytes_eq, ⊤}
use Rattle.std.proofs.lemmas.Bool.{false≢true}
use Rattle.edge_io.specs.declared.fault.NoMemory.{NoMemory}
use Rattle.option_eval.specs.Numbers.{Point}
use Rattle.option_eval.specs.Sets.{IsRising, point}
use Rattle.option_eval.specs.States.{places_at, AreAmong, AreSame, SomeState, EachState}
use Rattle.option_eval.specs.declared.states.States.{States}
use Rattle.option_eval.proofs.Sets.Rising.{contains_first, contains_after, rising_least}
use Rattle.option_eval.proofs.Extractions.Stating.{same_values, left_was, some_among}
use Rattle.option_eval.proofs.Extractions.Stepping.{Counted, IsLeft, counted_first, counted_next, without}

-- the states that were taken out are among these, with each place once
pub record MergedFrom (from left done : States) : Type 0 where
  pub there : (values places : List ℕ) → places_at from values ≡ Some places
      → (places_at left values ≡ Some places) ⊎ ((found : List ℕ) × (places_at done values ≡ Some found) × ((p : ℕ) → Contains places p → Contains found p))
  pub back : AreAmong done from

pub merged_first : (from done : States) → ((q : List ℕ) → places_at done q ≡ None) → MergedFrom from from done
merged_first from done none = record {
  there = λ values places found. inl found;
  back = λ values places found. let h = none values in absurd (cc);
}

module _ (from left left' done done' : States) (values taken places : List ℕ) (within : IsLeft from left) (was : places_at left values ≡ Some taken)
    (less : (q : List ℕ) → places_at left' q ≡ cond (bytes_eq values q) None (places_at left q))
    (same : (p : ℕ) → (Contains places p → Contains taken p) × (Contains taken p → Contains places p))
    (more : (q : List ℕ) → places_at done' q ≡ cond (bytes_eq values q) (Some places) (places_at done q)) where
  abbrev Found : States → List ℕ → List ℕ → Type 0
  Found states q before = (found : List ℕ) × (places_at states q ≡ Some found) × ((p : ℕ) → Contains before p → Contains found p)

  there_next : (b : Bool) (q before : List ℕ) → b ≡ bytes_eq values q → places_at from q ≡ Some before → (places_at left q ≡ Some before) ⊎ Found done q before
      → (cond b None (places_at left q) ≡ Some before) ⊎ ((found : List ℕ) × (cond b (Some places) (places_at done q) ≡ Some found) × ((p : ℕ) → Contains before p → Contains found p))
  there_next true q before is at old =
      let key = same_values values q (sym is) in
      let here : places_at from q ≡ Some taken = subst (λ (x : List ℕ). places_at from x ≡ Some taken) key (within values taken was) in
      let all : before ≡ taken = cc in
      inr (places, refl, λ p has. (same p).1 (subst (λ (xs : List ℕ). Contains xs p) all has))
  there_next false q before is at old = old

  back_next : (b : Bool) (q after : List ℕ) → b ≡ bytes_eq values q → cond b (Some places) (places_at done q) ≡ Some after → AreAmong done from → Found from q after
  back_next true q after is at old =
      let key = same_values values q (sym is) in
      let all : places ≡ after = cc in
      (taken, subst (λ (x : List ℕ). places_at from x ≡ Some taken) key (within values taken was), λ p has. (same p).0 (subst (λ (xs : List ℕ). Contains xs p) (sym all) has))
  back_next false q after is at old = old q after at

  pub merged_next : MergedFrom from left done → MergedFrom from left' done'
  merged_next before = record {
    there = λ q before_it at. ⊎_elim
        (λ (in_left : cond (bytes_eq values q) None (places_at left q) ≡ Some before_it). inl (less q ∙ in_left))
        (λ (in_done : (found : List ℕ) × (cond (bytes_eq values q) (Some places) (places_at done q) ≡ Some found) ×
        ((p : ℕ) → Contains before_it p → Contains found p)). inr (in_done.0, more q ∙ in_done.1, in_done.2))
        (there_next (bytes_eq values q) q before_it refl at (before.there q before_it at));
    back = λ q after at. back_next (bytes_eq values q) q after refl (sym (more q) ∙ at) before.back;
  }

pub merged_all : (from left done : States) → ((q : List ℕ) → places_at left q ≡ None) → MergedFrom from left done → AreSame from done
merged_all from left done none h = (
  λ values places found. ⊎_elim
      (λ (in_left : places_at left values ≡ Some places). let n = none values in absurd (cc))
      (λ (in_done : (there : List ℕ) × (places_at done values ≡ Some there) × ((p : ℕ) → Contains places p → Contains there p)). in_done)
      (h.there values places found),
  h.back,
)

-- a list of points without those of one value list at these places
pub without_all : (values xs : List ℕ) (low high : ℕ) → IsRising low xs high → (rest : List Point) → ((p : ℕ) → Contains xs p → Contains rest (point values p))
    → (ys : List Point) × (length ys + length xs ≡ length rest) × ((s : Point) → Contains rest s → ((p : ℕ) → Contains xs p → s ≡ point values p → ⊥) → Contains ys s)
without_all values [] low high risen rest all = (rest, omega arith, λ s has apart. has)
without_all values (x ∷ xs) low high risen rest all =
    let one = without rest (point values x) (all x (contains_first x xs)) in
    let more = without_all values xs (x + 1) high risen.1 one.0 (λ p has. one.2 (point values p) (all p (contains_after x xs p has)) (above p has)) in (
      more.0,
      omega (arith, one.1, more.1),
      λ s has apart. more.2 s (one.2 s has (apart x (contains_first x xs))) (λ p following. apart p (contains_after x xs p following)),
    )
  where
    above : (p : ℕ) → Contains xs p → point values p ≡ point values x → ⊥
    above p has same = let place : p ≡ x = ap (λ (s : Point). s.place) same in omega (arith, rising_least xs (x + 1) high p risen.1 has)

-- this many points were taken out of a list: `rest` has those that are left
abbrev pub Listed : List Point → States → ℕ → Type 0
Listed listed left now = (rest : List Point) × EachState (λ values. ⊤) (λ values p. Contains rest (point values p)) left × (now + length rest ≤ length listed)

pub listed_first : (listed : List Point) (states : States) (now : ℕ) → now ≡ 0 → EachState (λ values. ⊤) (λ values p. Contains listed (point values p)) states → Listed listed states now
listed_first listed states now none each = (listed, each, omega arith)

pub listed_next : (listed : List Point) (left left' : States) (values taken places : List ℕ) (high now new : ℕ) → places_at left values ≡ Some taken
    → ((q : List ℕ) → places_at left' q ≡ cond (bytes_eq values q) None (places_at left q)) → ((p : ℕ) → Contains places p → Contains taken p)
    → IsRising 0 places high → new ≤ now + length places → Listed listed left now → Listed listed left' new
listed_next listed left left' values taken places high now new was less up risen more before =
    let fewer = without_all values places 0 high risen before.0 (λ p has. (before.1 values taken was).1 p (up p has)) in (
      fewer.0,
      λ q found_places found. let there = left_was left left' values taken was less q found_places found in (
        tt,
        λ p has. fewer.2 (point q p) ((before.1 q found_places there.0).1 p has) (λ x at same. there.1 (ap (λ (s : Point). s.values) same)),
      ),
      omega (arith, before.2, fewer.1),
    )

pub listed_end : (listed : List Point) (left : States) (now : ℕ) → Listed listed left now → now ≤ length listed
listed_end listed left now h = omega (arith, h.2)

-- an answer whatever was told
pub always : (r : Result Bool NoMemory) (P : Bool → Type 0) → ((b : Bool) → P b) → IfOk r P
always (Ok b) P h = h b
always (Err e) P h = tt

-- what trying a part told
pub part_tried : (P : List ℕ → ℕ → Type 0) (old new taken : States) (passed : Bool) → AreSame old taken
    → (IsTrue passed → SomeState P taken) × (SomeState P taken → IsTrue passed) → MatchBool passed (SomeState P old) (SomeState P old → SomeState P new)
part_tried P old new taken true same h = some_among taken old same.1 P (h.0 refl)
part_tried P old new taken false same h = λ m. absurd (false≢true (h.1 (some_among old taken same.0 P m)))

-- what was spent, where the states that follow are still to be tried unless there are none
abbrev pub Owing : ℕ → ℕ → List (List ℕ) → States → States → ℕ → ℕ → Type 0
Owing each owed lists left following old now = (((q : List ℕ) → places_at following q ≡ None) × Counted each lists left old now) ⊎ Counted each lists left old (now + owed)

module _ (each owed : ℕ) (lists : List (List ℕ)) where
  pub owing_first : (states following : States) (R : List ℕ → ℕ → Type 0) (old : ℕ)
      → ((q : List ℕ) → places_at following q ≡ None)
      → EachState (Contains lists) R states
      → Owing each owed lists states following old old
  owing_first states following R old none have = inl (none, counted_first each lists states R old have)

  pub owing_walked : (upto : ℕ) (left left' following : States) (values places : List ℕ) (old now new : ℕ)
      → upto + owed ≡ each
      → places_at left values ≡ Some places
      → ((q : List ℕ) → places_at left' q ≡ cond (bytes_eq values q) None (places_at left q))
      → new ≤ now + upto
      → Owing each owed lists left following old now
      → Counted each lists left' old (new + owed)
  owing_walked upto left left' following values places old now new is was less more before =
      let alone : new + owed ≤ now + each = omega arith in
      let also : new + owed ≤ now + owed + each = omega arith in
      ⊎_elim
      (λ (h : ((q : List ℕ) → places_at following q ≡ None) × Counted each lists left old now). counted_next each lists left left' values places old now (new + owed) was less alone h.1)
      (λ (h : Counted each lists left old (now + owed)). counted_next each lists left left' values places old (now + owed) (new + owed) was less also h)
      before

  pub owing_parted : (left following : States) (old now new : ℕ)
      → new ≤ now + owed
      → (new ≡ now) ⊎ ((q : List ℕ) → places_at following q ≡ None)
      → Counted each lists left old (now + owed)
      → Owing each owed lists left following old new
  owing_parted left following old now new more which h = ⊎_elim
      (λ (same : new ≡ now). inr (subst (λ (n : ℕ). Counted each lists left old (n + owed)) (sym same) h))
      (λ (none : (q : List ℕ) → places_at following q ≡ None). inl (none, (h.0, h.1, omega (arith, h.2))))
      which

  pub owing_spent : (left : States) (old now : ℕ) → Counted each lists left old (now + owed) → now + owed ≤ old + length lists * each
  owing_spent left old now h = omega (arith, h.2)

  pub owing_end : (left following : States) (old now new : ℕ)
      → new ≤ now + owed
      → (((q : List ℕ) → places_at following q ≡ None) → new ≤ now)
      → Owing each owed lists left following old now
      → new ≤ old + length lists * each
  owing_end left following old now new more none_more h = ⊎_elim
      (λ (both : ((q : List ℕ) → places_at following q ≡ None) × Counted each lists left old now). let spent = none_more both.0 in omega (arith, both.1.2))
      (λ (rest : Counted each lists left old (now + owed)). omega (arith, rest.2))
      h
