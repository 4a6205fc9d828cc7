-- An option that leads alike from each state, and what is known of such.
use Rattle.std.proofs.Common.{◌≡◌, ℕ, zero, suc, ◌+◌, ◌<◌, ◌≤◌, ◌⊎◌, inl, inr, ⊎_elim, Bool, true, false, not, ◌&&◌, ◌==◌, cond}
use Rattle.std.proofs.Common.{List, [], ◌∷◌, ◌++◌, length, get_or, slice_index, slice_set, Option, Some, None, IfSome, refl, sym}
use Rattle.std.proofs.Common.{subst, ◌∙◌, arith}
use Rattle.std.proofs.lemmas.Bool.{false≢true, cases_lt, eqb-true}
use Rattle.std.proofs.lemmas.Bool.Decides.{nat_tests}
use Rattle.std.proofs.lemmas.List.{get_or_past, get_or-set_same, get_or-set_other, length-set}
use Rattle.std.proofs.lemmas.List.Elements.{Contains-get_or}
use Rattle.rule_types.specs.declared.option.Opt.{Opt}
use Rattle.option_eval.specs.Kept.{reads}
use Rattle.option_eval.specs.Kinds.{is_relative, is_test, needs_place}
use Rattle.option_eval.specs.Known.{known_at, is_free, LeadsAlike, IsKnown, AreKnown, AreRising}
use Rattle.option_eval.specs.Next.{next_set, IsForAll, RisesTo}
use Rattle.option_eval.specs.Places.{Means, is_extract}
use Rattle.option_eval.specs.Sets.{point, IsGot, Gathers, IsLedTo, LeadsFrom}
use Rattle.option_eval.specs.declared.known.Known.{Known}
use Rattle.option_eval.specs.declared.next.NextPlaces.{NextPlaces}
use Rattle.option_eval.specs.declared.next.NextPlaces.TheVariants as next
use Rattle.option_eval.proofs.Sets.Asking.{all_stay}
use Rattle.option_eval.proofs.Extractions.Forgetting.{plain_alike}
use Rattle.option_eval.proofs.Walks.Staying.{test_stays, test_free}
use Rattle.option_eval.proofs.Walks.Walking.{move_free}

and_both : (a b : Bool) → (a && b) ≡ true → (a ≡ true) × (b ≡ true)
and_both true b h = (refl, h)
and_both false b h = absurd (false≢true h)

not_true : (a : Bool) → not a ≡ true → a ≡ false
not_true true h = absurd (false≢true h)
not_true false h = refl

none_got : (every : Bool) (places : List ℕ) (q : ℕ) → length places ≡ 0 → IsGot every places q → ⊥
none_got true places q empty got = omega (arith, got.1)
none_got false places q empty got = omega arith

module _ (means : Means) (payload : List ℕ) (o : Opt) (plain : is_extract o ≡ false) (free : is_free o ≡ true) where
  abbrev parts : (not (is_relative o) ≡ true) × ((not (reads 0 o) && not (reads 1 o)) ≡ true)
  parts = and_both (not (is_relative o)) (not (reads 0 o) && not (reads 1 o)) free

  pub fixed : is_relative o ≡ false
  fixed = not_true (is_relative o) parts.0

  unread : (reads 0 o ≡ false) × (reads 1 o ≡ false)
  unread = let both = and_both (not (reads 0 o)) (not (reads 1 o)) parts.1 in (not_true (reads 0 o) both.0, not_true (reads 1 o) both.1)

  same_numbers : (vs ws : List ℕ) → length vs ≡ 2 → length ws ≡ 2 → (name : ℕ) → reads name o ≡ true → slice_index vs name ≡ slice_index ws name
  same_numbers vs ws two two' zero is = absurd (false≢true (sym unread.0 ∙ is))
  same_numbers vs ws two two' (suc zero) is = absurd (false≢true (sym unread.1 ∙ is))
  same_numbers vs ws two two' (suc (suc more)) is = get_or_past vs (suc (suc more)) 0 (omega arith) ∙ sym (get_or_past ws (suc (suc more)) 0 (omega arith))

  other_values : (vs ws : List ℕ) → length vs ≡ 2 → length ws ≡ 2 → (p q : ℕ) → LeadsFrom means payload vs o p q → LeadsFrom means payload ws o p q
  other_values vs ws two two' p q led = plain_alike means payload vs ws p q o plain (same_numbers vs ws two two') led

  -- what it leads to from the places of one state, it leads to from those of any
  pub leads_all : (every : Bool) (next : NextPlaces) (vs places : List ℕ) → length vs ≡ 2 → 0 < length places → IsForAll o next
      → Gathers every (IsLedTo (LeadsFrom means payload vs o) places) (next_set next places) → LeadsAlike means payload o every next
  leads_all every next.Same vs places two some test found = λ ws places' two' some'.
      let x = get_or places 0 0 in
      let led = found.sound x (Contains-get_or places 0 0 some) in
      let here : LeadsFrom means payload vs o x x = subst (λ (y : ℕ). LeadsFrom means payload vs o y x) (sym (test_stays means payload vs o test led.0 x led.2)) led.2 in
      all_stay every (LeadsFrom means payload ws o) places' (λ p q goes. test_stays means payload ws o test p q goes)
      (λ p. test_free means payload ws o test fixed x p (other_values vs ws two two' x x here))
  leads_all every (next.To led) vs places two some apart found = by_kind (is_test o) refl
    where
      by_kind : (test : Bool) → test ≡ is_test o → LeadsAlike means payload o every (next.To led)
      by_kind true is = λ ws places' two' some'.
          let x = get_or places 0 0 in
          let test : is_test o ≡ true = sym is in
          let never : (p : ℕ) → LeadsFrom means payload ws o p p → ⊥ = λ p goes.
          let here : LeadsFrom means payload vs o x x = other_values ws vs two' two x x (test_free means payload ws o test fixed p x goes) in
          none_got every led.items x (apart test) (found.complete x (x, Contains-get_or places 0 0 some, here))
          in record {
            sound = λ q has. absurd (omega (arith, has.1, apart test));
            complete = λ q to. absurd (never to.0 (subst (λ (y : ℕ). LeadsFrom means payload ws o to.0 y) (test_stays means payload ws o test to.0 q to.2) to.2));
          }
      by_kind false is = λ ws places' two' some'.
          let x = get_or places 0 0 in
          let y = get_or places' 0 0 in
          record {
            sound = λ q has.
                let from = found.sound q has in
                (y, Contains-get_or places' 0 0 some', other_values vs ws two two' y q (move_free means payload o vs from.0 y (point vs q) (sym is) fixed from.2));
            complete = λ q to. found.complete q (x, Contains-get_or places 0 0 some, other_values ws vs two' two x q (move_free means payload o ws to.0 x (point ws q) (sym is) fixed to.2));
          }

-- numbers of options that follow, one below the other, differ
apart_from : (k left : ℕ) → (k < left) ⊎ (left < k) → (k == left) ≡ false
apart_from k left (inl less) = grind (arith, nat_tests)
apart_from k left (inr more) = grind (arith, nat_tests)

own_left : (left : ℕ) → (left == left) ≡ true
own_left left = grind (arith, nat_tests)

cond_false : {A : Type 0} (b : Bool) (x y : A) → b ≡ false → cond b x y ≡ y
cond_false true x y is = absurd (false≢true (sym is))
cond_false false x y is = refl

cond_true : {A : Type 0} (b : Bool) (x y : A) → b ≡ true → cond b x y ≡ x
cond_true true x y is = refl
cond_true false x y is = absurd (false≢true is)

some_none : {A : Type 0} (P : A → Type 0) (found : Option A) → found ≡ None → IfSome found P
some_none P found none = subst (λ o. IfSome o P) (sym none) tt

module _ (means : Means) (payload : List ℕ) where
  -- where nothing is known
  pub known_nothing : (os : List Opt) (known : Known) → ((left : ℕ) → known_at known left ≡ None) → AreKnown means payload os known
  known_nothing [] known none = tt
  known_nothing (o ∷ os) known none = (some_none (LeadsAlike means payload o (needs_place os)) (known_at known (length os)) (none (length os)), known_nothing os known none)

  -- what is known of the options that follow is told by the numbers below theirs
  pub known_below : (os : List Opt) (a b : Known) → ((left : ℕ) → left < length os → known_at b left ≡ known_at a left) → AreKnown means payload os a → AreKnown means payload os b
  known_below [] a b same h = tt
  known_below (o ∷ os) a b same h = (
    subst (λ (found : Option NextPlaces). IsKnown means payload o (needs_place os) found) (sym (same (length os) (omega arith))) h.0,
    known_below os a b (λ left below. same left (omega arith)) h.1,
  )

-- what is known of the options after one, once what is known of that one is taken
pub known_taken : (means : Means) (payload : List ℕ) (os : List Opt) (old taken : Known) → ((other : ℕ) → known_at taken other ≡ cond (other == length os) None (known_at old other))
    → AreKnown means payload os old → AreKnown means payload os taken
known_taken means payload os old taken take h =
    known_below means payload os old taken (λ other below. take other ∙ cond_false (other == length os) None (known_at old other) (apart_from other (length os) (inl below))) h

-- a turn: what is known of one option is taken, what is known of the options after it changes, and it is put back
module _ (taken after kept : Known) (old : Known) (left : ℕ) (next : NextPlaces) (free : Type 0)
    (take : (other : ℕ) → known_at taken other ≡ cond (other == left) None (known_at old other))
    (others : (other : ℕ) → left ≤ other → known_at after other ≡ known_at taken other)
    (keeps : (other : ℕ) → (other == left) ≡ false → known_at kept other ≡ known_at after other)
    (own : (known_at kept left ≡ known_at after left) ⊎ (free × (known_at kept left ≡ Some next))) where
  taken_other : (other : ℕ) → (other == left) ≡ false → known_at taken other ≡ known_at old other
  taken_other other apart = take other ∙ cond_false (other == left) None (known_at old other) apart

  taken_own : known_at taken left ≡ None
  taken_own = take left ∙ cond_true (left == left) None (known_at old left) (own_left left)

  pub turn_own : (known_at kept left ≡ None) ⊎ (free × (known_at kept left ≡ Some next))
  turn_own = ⊎_elim (λ (same : known_at kept left ≡ known_at after left). inl (same ∙ others left (omega arith) ∙ taken_own)) (λ (both : free × (known_at kept left ≡ Some next)). inr both) own

  pub turn_others : (other : ℕ) → left + 1 ≤ other → known_at kept other ≡ known_at old other
  turn_others other past =
      let apart = apart_from other left (inr (omega arith)) in
      keeps other apart ∙ others other (omega arith) ∙ taken_other other apart

  pub turn_known : (means : Means) (payload : List ℕ) (o : Opt) (os : List Opt) → left ≡ length os
      → (AreKnown means payload os taken → AreKnown means payload os after) → (free → LeadsAlike means payload o (needs_place os) next)
      → AreKnown means payload (o ∷ os) old → AreKnown means payload (o ∷ os) kept
  turn_known means payload o os is on alike h = (
    subst (λ (n : ℕ). IsKnown means payload o (needs_place os) (known_at kept n)) is (⊎_elim
        (λ (none : known_at kept left ≡ None). some_none (LeadsAlike means payload o (needs_place os)) (known_at kept left) none)
        (λ (both : free × (known_at kept left ≡ Some next)). subst (λ (found : Option NextPlaces). IsKnown means payload o (needs_place os) found) (sym both.1) (alike both.0))
        turn_own),
    known_below means payload os after kept (λ other below. keeps other (apart_from other left (inl (omega arith))))
        (on (known_below means payload os old taken (λ other below. taken_other other (apart_from other left (inl (omega arith)))) h.1)),
  )

  pub turn_rising : (high : ℕ) → RisesTo high next → AreRising high after → AreRising high kept
  turn_rising high risen h = λ other. by_number other (other == left) refl
    where
      by_number : (other : ℕ) (b : Bool) → b ≡ (other == left) → IfSome (known_at kept other) (RisesTo high)
      by_number other true is = subst (λ (n : ℕ). IfSome (known_at kept n) (RisesTo high)) (sym (eqb-true other left (sym is))) (⊎_elim
          (λ (none : known_at kept left ≡ None). some_none (RisesTo high) (known_at kept left) none)
          (λ (both : free × (known_at kept left ≡ Some next)). subst (λ (found : Option NextPlaces). IfSome found (RisesTo high)) (sym both.1) risen)
          turn_own)
      by_number other false is = subst (λ (found : Option NextPlaces). IfSome found (RisesTo high)) (sym (keeps other (sym is))) (h other)

-- known places rise where less is known
pub rising_taken : (old taken : Known) (left high : ℕ) → ((other : ℕ) → known_at taken other ≡ cond (other == left) None (known_at old other)) → AreRising high old → AreRising high taken
rising_taken old taken left high take h = λ other. subst (λ (found : Option NextPlaces). IfSome found (RisesTo high)) (sym (take other)) (by_test (other == left) (known_at old other) (h other))
  where
    by_test : (b : Bool) (found : Option NextPlaces) → IfSome found (RisesTo high) → IfSome (cond b None found) (RisesTo high)
    by_test true found risen = tt
    by_test false found risen = risen

pub rising_nothing : (known : Known) (high : ℕ) → ((left : ℕ) → known_at known left ≡ None) → AreRising high known
rising_nothing known high none = λ left. some_none (RisesTo high) (known_at known left) (none left)

-- what was known, found
pub found_known : {A : Type 0} (P : A → Type 0) (found : Option A) (x : A) → Some x ≡ found → IfSome found P → P x
found_known P found x is h = subst (λ o. IfSome o P) (sym is) h

-- one entry less, or another one
pub set_none : {X : Type 0} (xs : List (Option X)) (left k : ℕ) → get_or (slice_set xs left None) k None ≡ cond (k == left) None (get_or xs k None)
set_none {X} xs left k = by_number (k == left) refl
  where
    by_number : (b : Bool) → b ≡ (k == left) → get_or (slice_set xs left None) k None ≡ cond b None (get_or xs k None)
    by_number true is = subst (λ (n : ℕ). get_or (slice_set xs left None) n None ≡ None) (sym (eqb-true k left (sym is))) (⊎_elim
        (λ (below : left < length xs). get_or-set_same xs left None None below)
        (λ (past : length xs ≤ left). let none : Option X = None in get_or_past (slice_set xs left none) left none (omega (arith, length-set xs left none)))
        (cases_lt left (length xs)))
    by_number false is = get_or-set_other xs left k None None (λ same. false≢true (is ∙ subst (λ (n : ℕ). (n == left) ≡ true) (sym same) (own_left left)))

pub past_none : {X : Type 0} (xs : List (Option X)) (left k : ℕ) → length xs ≤ left → get_or xs k None ≡ cond (k == left) None (get_or xs k None)
past_none {X} xs left k past = by_number (k == left) refl
  where
    by_number : (b : Bool) → b ≡ (k == left) → get_or xs k None ≡ cond b None (get_or xs k None)
    by_number true is = let same : k ≡ left = eqb-true k left (sym is) in get_or_past xs k None (omega arith)
    by_number false is = refl

pub set_other : {X : Type 0} (xs : List (Option X)) (left k : ℕ) (x : Option X) → (k == left) ≡ false → get_or (slice_set xs left x) k None ≡ get_or xs k None
set_other xs left k x apart = get_or-set_other xs left k x None (λ same. false≢true (sym apart ∙ subst (λ (n : ℕ). (n == left) ≡ true) (sym same) (own_left left)))

pub push_none : {X : Type 0} (xs : List (Option X)) → ((k : ℕ) → get_or xs k None ≡ None) → (k : ℕ) → get_or (xs ++ None ∷ []) k None ≡ None
push_none [] none zero = refl
push_none [] none (suc k) = refl
push_none (x ∷ xs) none zero = none zero
push_none (x ∷ xs) none (suc k) = push_none xs (λ n. none (suc n)) k
