-- States as a function of their values, and one place or state more or less.
use Rattle.std.proofs.Common.{◌≡◌, ℕ, ◌⊎◌, inl, inr, ⊎_elim, Bool, true, false, cond, List, [], ◌∷◌, ◌++◌, Option, Some, None, Contains, refl, sym, ap, subst, ◌∙◌, arith, option_map, unwrap_or}
use Rattle.std.proofs.lemmas.Bool.{false≢true}
use Rattle.std.specs.Prelude.{bytes_eq}
use Rattle.std.specs.Ordering.{nat_cmp}
use Rattle.std.specs.Cmp.Lexicographic.{slice_cmp}
use Rattle.std.specs.BTreeMap.{BTreeMap, get, is_at}
use Rattle.std.specs.Map.{lookup}
use Rattle.std.proofs.lemmas.Map.Text.{is_eq-slice_cmp}
use Rattle.std.proofs.lemmas.Slice.Eq.{bytes_eq-Decides}
use Rattle.std.proofs.lemmas.List.Elements.{Contains-push, Contains-push_cases, Contains-append_left}
use Rattle.option_eval.specs.States.{places_at, AreAmong, AreSame, SomeState, EachState}
use Rattle.option_eval.specs.declared.states.States.{States}

cond_map : {A B : Type 0} (f : A → B) (a b : Bool) (w x : Option A) (placed : Option B) → a ≡ b → option_map f w ≡ placed → option_map f (cond a w x) ≡ cond b placed (option_map f x)
cond_map f true true w x placed same is = is
cond_map f false false w x placed same is = refl
cond_map f true false w x placed same is = absurd (false≢true (sym same))
cond_map f false true w x placed same is = absurd (false≢true same)

-- a map with another value at one key
pub get_updated : {X : Type 0} (f : X → List ℕ) (m n : BTreeMap (List ℕ) X) (values : List ℕ) (w : Option X) (placed : Option (List ℕ)) → option_map f w ≡ placed
    → ((q : List ℕ) → get (slice_cmp nat_cmp) n q ≡ cond (is_at (slice_cmp nat_cmp values) q) w (get (slice_cmp nat_cmp) m q))
    → (q : List ℕ) → option_map f (get (slice_cmp nat_cmp) n q) ≡ cond (bytes_eq values q) placed (option_map f (get (slice_cmp nat_cmp) m q))
get_updated f m n values w placed is h q =
    ap (option_map f) (h q)
    ∙ cond_map f (is_at (slice_cmp nat_cmp values) q) (bytes_eq values q) w (get (slice_cmp nat_cmp) m q) placed
    (is_eq-slice_cmp values q) is

-- a map with this value alone
pub get_one : {X : Type 0} (f : X → List ℕ) (m n : BTreeMap (List ℕ) X) (values : List ℕ) (w : X) → m.entries ≡ []
    → ((q : List ℕ) → get (slice_cmp nat_cmp) n q ≡ cond (is_at (slice_cmp nat_cmp values) q) (Some w) (get (slice_cmp nat_cmp) m q))
    → (q : List ℕ) → option_map f (get (slice_cmp nat_cmp) n q) ≡ cond (bytes_eq values q) (Some (f w)) None
get_one {X} f m n values w empty h q =
    get_updated f m n values (Some w) (Some (f w)) refl h q
    ∙ ap (λ (es : List (List ℕ × X)). cond (bytes_eq values q) (Some (f w)) (option_map f (lookup (is_at (slice_cmp nat_cmp q)) es))) empty

same_or : {A : Type 0} (b : Bool) (w x y : A) → (b ≡ false → x ≡ y) → cond b w x ≡ cond b w y
same_or true w x y h = refl
same_or false w x y h = h refl

-- a value is put into a map that differs from what is told at this value alone
pub get_put : {X : Type 0} (f : X → List ℕ) (m n : BTreeMap (List ℕ) X) (values : List ℕ) (w : X) (placed : List ℕ) (before : List ℕ → Option (List ℕ)) → f w ≡ placed
    → ((q : List ℕ) → bytes_eq values q ≡ false → option_map f (get (slice_cmp nat_cmp) m q) ≡ before q)
    → ((q : List ℕ) → get (slice_cmp nat_cmp) n q ≡ cond (is_at (slice_cmp nat_cmp values) q) (Some w) (get (slice_cmp nat_cmp) m q))
    → (q : List ℕ) → option_map f (get (slice_cmp nat_cmp) n q) ≡ cond (bytes_eq values q) (Some placed) (before q)
get_put f m n values w placed before is others h q =
    get_updated f m n values (Some w) (Some placed) (ap Some is) h q ∙ same_or (bytes_eq values q) (Some placed) (option_map f (get (slice_cmp nat_cmp) m q)) (before q) (others q)

none_or : {A : Type 0} (b : Bool) (w x y : A) → b ≡ false → x ≡ cond b w y → x ≡ y
none_or true w x y is h = absurd (false≢true (sym is))
none_or false w x y is h = h

-- a value is taken out of a map: nothing changes at another one
pub get_taken : {X : Type 0} (f : X → List ℕ) (m n : BTreeMap (List ℕ) X) (values : List ℕ)
    → ((q : List ℕ) → get (slice_cmp nat_cmp) n q ≡ cond (is_at (slice_cmp nat_cmp values) q) None (get (slice_cmp nat_cmp) m q))
    → (q : List ℕ) → bytes_eq values q ≡ false → option_map f (get (slice_cmp nat_cmp) n q) ≡ option_map f (get (slice_cmp nat_cmp) m q)
get_taken f m n values h q other = none_or (bytes_eq values q) None _ _ other (get_updated f m n values None None refl h q)

pub same_values : (values q : List ℕ) → bytes_eq values q ≡ true → values ≡ q
same_values values q is = (bytes_eq-Decides values q).0 is

pub own_values : (values : List ℕ) → bytes_eq values values ≡ true
own_values values = (bytes_eq-Decides values values).1 refl

pub contains_nil : (p : ℕ) → Contains [] p → ⊥
contains_nil p has = omega (arith, has.1)

-- a state with one place more
module _ (old new : States) (values : List ℕ) (place : ℕ)
    (added : (q : List ℕ) → places_at new q ≡ cond (bytes_eq values q) (Some (unwrap_or (places_at old values) [] ++ place ∷ [])) (places_at old q)) where
  old_or_new : (before : Option (List ℕ)) (p : ℕ) → Contains (unwrap_or before [] ++ place ∷ []) p → ((places : List ℕ) × (before ≡ Some places) × Contains places p) ⊎ (place ≡ p)
  old_or_new None p has = ⊎_elim (λ (none : Contains [] p). absurd (contains_nil p none)) (λ (same : place ≡ p). inr same) (Contains-push_cases [] place p has)
  old_or_new (Some places) p has = ⊎_elim (λ (old : Contains places p). inl (places, refl, old)) (λ (same : place ≡ p). inr same) (Contains-push_cases places place p has)

  is_in : (b : Bool) (q places : List ℕ) → b ≡ bytes_eq values q → cond b (Some (unwrap_or (places_at old values) [] ++ place ∷ [])) (places_at old q) ≡ Some places → (p : ℕ) → Contains places p
      → ((before : List ℕ) × (places_at old q ≡ Some before) × Contains before p) ⊎ ((values ≡ q) × (place ≡ p))
  is_in true q places is found p has =
      let same = same_values values q (sym is) in
      let here : unwrap_or (places_at old values) [] ++ place ∷ [] ≡ places = cc in
      ⊎_elim
      (λ (before : (places : List ℕ) × (places_at old values ≡ Some places) × Contains places p). inl
      (subst (λ (q : List ℕ). (places : List ℕ) × (places_at old q ≡ Some places) × Contains places p) same before))
      (λ (is_place : place ≡ p). inr (same, is_place))
      (old_or_new (places_at old values) p (subst (λ (xs : List ℕ). Contains xs p) (sym here) has))
  is_in false q places is found p has = inl (places, found, has)

  stays_in : (b : Bool) (q places : List ℕ) → b ≡ bytes_eq values q → places_at old q ≡ Some places → (p : ℕ) → Contains places p
      → (after : List ℕ) × (cond b (Some (unwrap_or (places_at old values) [] ++ place ∷ [])) (places_at old q) ≡ Some after) × Contains after p
  stays_in true q places is found p has =
      let same = same_values values q (sym is) in
      let before : unwrap_or (places_at old values) [] ≡ places = ap (λ (o : Option (List ℕ)). unwrap_or o []) (ap (places_at old) same ∙ found) in
      (unwrap_or (places_at old values) [] ++ place ∷ [], refl, Contains-append_left (unwrap_or (places_at old values) []) (place ∷ []) p (subst (λ (xs : List ℕ). Contains xs p) (sym before) has))
  stays_in false q places is found p has = (places, found, has)

  -- a point of some kind, in a state after one more was added: it was there, or is the one that was added
  pub some_added : (P : List ℕ → ℕ → Type 0) → SomeState P new → SomeState P old ⊎ P values place
  some_added P (q, places, found, p, has, holds) = ⊎_elim
      (λ (before : (before : List ℕ) × (places_at old q ≡ Some before) × Contains before p). inl (q, before.0, before.1, p, before.2, holds))
      (λ (both : (values ≡ q) × (place ≡ p)). inr (subst (λ (x : List ℕ). P x place) (sym both.0) (subst (λ (x : ℕ). P q x) (sym both.1) holds)))
      (is_in (bytes_eq values q) q places refl (sym (added q) ∙ found) p has)

  pub some_kept : (P : List ℕ → ℕ → Type 0) → SomeState P old → SomeState P new
  some_kept P (q, places, found, p, has, holds) =
      let after = stays_in (bytes_eq values q) q places refl found p has in
      (q, after.0, added q ∙ after.1, p, after.2, holds)

  pub some_new : (P : List ℕ → ℕ → Type 0) → P values place → SomeState P new
  some_new P holds = (
    values,
    unwrap_or (places_at old values) [] ++ place ∷ [],
    added values
        ∙ ap (λ (b : Bool). cond b (Some (unwrap_or (places_at old values) [] ++ place ∷ [])) (places_at old values))
        (own_values values),
    place,
    Contains-push (unwrap_or (places_at old values) []) place,
    holds,
  )

  -- kinds that hold of each point hold of each one after one more was added
  pub each_added : (K : List ℕ → Type 0) (R : List ℕ → ℕ → Type 0) → EachState K R old → K values → R values place → EachState K R new
  each_added K R each key here q places found = (
    key_of (bytes_eq values q) refl (sym (added q) ∙ found),
    λ p has. ⊎_elim
        (λ (before : (before : List ℕ) × (places_at old q ≡ Some before) × Contains before p). (each q before.0 before.1).1 p before.2)
        (λ (both : (values ≡ q) × (place ≡ p)). subst (λ (x : List ℕ). R x p) both.0 (subst (λ (x : ℕ). R values x) both.1 here))
        (is_in (bytes_eq values q) q places refl (sym (added q) ∙ found) p has),
  )
    where
      key_of : (b : Bool) → b ≡ bytes_eq values q → cond b (Some (unwrap_or (places_at old values) [] ++ place ∷ [])) (places_at old q) ≡ Some places → K q
      key_of true is at = subst K (same_values values q (sym is)) key
      key_of false is at = (each q places at).0

-- a state is taken out
module _ (old new : States) (values taken : List ℕ) (was : places_at old values ≡ Some taken)
    (left : (q : List ℕ) → places_at new q ≡ cond (bytes_eq values q) None (places_at old q)) where
  still : (b : Bool) (q places : List ℕ) → b ≡ bytes_eq values q → cond b None (places_at old q) ≡ Some places → (places_at old q ≡ Some places) × (q ≡ values → ⊥)
  still true q places is found = absurd (cc)
  still false q places is found = (found, λ same. false≢true (is ∙ subst (λ (x : List ℕ). bytes_eq values x ≡ true) (sym same) (own_values values)))

  pub left_was : (q places : List ℕ) → places_at new q ≡ Some places → (places_at old q ≡ Some places) × (q ≡ values → ⊥)
  left_was q places found = still (bytes_eq values q) q places refl (sym (left q) ∙ found)

  taken_or_left : (b : Bool) (q places : List ℕ) → b ≡ bytes_eq values q → places_at old q ≡ Some places → ((values ≡ q) × (taken ≡ places)) ⊎ (cond b None (places_at old q) ≡ Some places)
  taken_or_left true q places is found =
      let same = same_values values q (sym is) in
      let both : places_at old values ≡ Some places = ap (places_at old) same ∙ found in
      inl (same, cc)
  taken_or_left false q places is found = inr found

  -- a point of some kind, in a state before some were taken out: it was among these, or is still there
  pub some_taken : (P : List ℕ → ℕ → Type 0) → SomeState P old → ((p : ℕ) × Contains taken p × P values p) ⊎ SomeState P new
  some_taken P (q, places, found, p, has, holds) = ⊎_elim
      (λ (both : (values ≡ q) × (taken ≡ places)). inl (p, subst (λ (xs : List ℕ). Contains xs p) (sym both.1) has, subst (λ (x : List ℕ). P x p) (sym both.0) holds))
      (λ (there : cond (bytes_eq values q) None (places_at old q) ≡ Some places). inr (q, places, left q ∙ there, p, has, holds))
      (taken_or_left (bytes_eq values q) q places refl found)

-- where there is no state there is no point of any kind
pub some_nowhere : (P : List ℕ → ℕ → Type 0) (states : States) → ((q : List ℕ) → places_at states q ≡ None) → ¬ SomeState P states
some_nowhere P states none (q, places, found, p, has, holds) = let h = none q in absurd (cc)

pub each_nowhere : (K : List ℕ → Type 0) (R : List ℕ → ℕ → Type 0) (states : States) → ((q : List ℕ) → places_at states q ≡ None) → EachState K R states
each_nowhere K R states none q places found = let h = none q in absurd (cc)

-- points that are among others
pub some_among : (from to : States) → AreAmong from to → (P : List ℕ → ℕ → Type 0) → SomeState P from → SomeState P to
some_among from to among P (values, places, found, p, has, holds) = let there = among values places found in (values, there.0, there.1, p, there.2 p has, holds)

pub each_among : (from to : States) → AreAmong from to → (K : List ℕ → Type 0) (R : List ℕ → ℕ → Type 0) → EachState K R to → EachState K R from
each_among from to among K R each values places found =
    let there = among values places found in
    let here = each values there.0 there.1 in
    (here.0, λ p has. here.1 p (there.2 p has))

pub among_nowhere : (from to : States) → ((q : List ℕ) → places_at from q ≡ None) → AreAmong from to
among_nowhere from to none values places found = let h = none values in absurd (cc)

pub nowhere_among : (from to : States) → AreAmong from to → ((q : List ℕ) → places_at to q ≡ None) → (q : List ℕ) → places_at from q ≡ None
nowhere_among from to among none q = step (places_at from q) refl
  where
    step : (found : Option (List ℕ)) → places_at from q ≡ found → places_at from q ≡ None
    step None is = is
    step (Some places) is =
        let there = among q places is in
        let here = there.1 in
        let h = none q in
        absurd (cc)

pub same_own : (states : States) → AreSame states states
same_own states = (λ values places found. (places, found, λ p has. has), λ values places found. (places, found, λ p has. has))

-- each point is of weaker kinds, too
pub each_weaker : (states : States) (K L : List ℕ → Type 0) (R S : List ℕ → ℕ → Type 0)
    → ((values : List ℕ) → K values → L values)
    → ((values : List ℕ) (p : ℕ) → R values p → S values p)
    → EachState K R states
    → EachState L S states
each_weaker states K L R S key here each values places found =
    let at = each values places found in
    (key values at.0, λ p has. here values p (at.1 p has))
