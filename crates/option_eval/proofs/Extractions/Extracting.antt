-- The states after an extraction, from one place and from a set.
use Rattle.std.proofs.Common.{◌≡◌, ℕ, ◌-◌, ◌*◌, ◌<◌, ◌≤◌, ◌⊎◌, inl, inr, ⊎_elim, Bool, true, false, cond, List, [], ◌∷◌, ◌++◌}
use Rattle.std.proofs.Common.{length, take, drop, get_or, slice_set, Option, Some, None, Contains, unwrap_or, refl, sym, subst}
use Rattle.std.proofs.Common.{◌∙◌, arith}
use Rattle.std.specs.Prelude.{bytes_eq}
use Rattle.std.proofs.lemmas.List.{length-set}
use Rattle.rule_types.specs.declared.option.Fetch.{Fetch}
use Rattle.rule_types.specs.declared.option.Opt.{Opt}
use Rattle.rule_types.specs.declared.option.Opt.TheVariants as opt
use Rattle.option_eval.specs.Kept.{kept_values}
use Rattle.option_eval.specs.Numbers.{Point, Fetched, fetched, rounded_up}
use Rattle.option_eval.specs.Places.{Means, Leads}
use Rattle.option_eval.specs.Sets.{point}
use Rattle.option_eval.specs.States.{places_at, MatchesFromSome, HaveValues, Leaves}
use Rattle.option_eval.specs.Walks.{MatchesFrom, MatchesFromOne, IsListed, HasValues, after_extraction}
use Rattle.option_eval.specs.declared.states.States.{States}
use Rattle.option_eval.proofs.Sets.Asking.{split, contains_head, contains_later, asked_is}
use Rattle.option_eval.proofs.Extractions.Forgetting.{Alike, alike_sym, alike_kept, matches_alike, has_values_alike}
use Rattle.option_eval.proofs.Sets.Rising.{contains_cases, contains_first}
use Rattle.option_eval.proofs.Extractions.Stating.{some_added, some_kept, some_new, each_added, contains_nil}
use Rattle.option_eval.proofs.Walks.Walking.{way_next, next_way, move_free, extract_none, extract_some}

pub contains_one : (x p : ℕ) → Contains (x ∷ []) p → p ≡ x
contains_one x p has = ⊎_elim (λ (same : p ≡ x). same) (λ (after : Contains [] p). absurd (contains_nil p after)) (contains_cases x [] p has)

module _ (means : Means) (payload : List ℕ) (fetch : Fetch) (name times align : ℕ) (later : List Opt) (values : List ℕ) (place : ℕ) where
  -- nothing is fetched
  pub leaves_none : None ≡ fetched payload fetch (point values place) → (states : States) → Leaves means payload (opt.ByteExtract fetch name times align ∷ later) values (place ∷ []) states states
  leaves_none none states = record {
    sound = λ m. inl m;
    kept = λ m. m;
    complete = λ m.
        absurd (extract_none means payload fetch name times align later values place none
        (subst (λ (p : ℕ). MatchesFrom means payload (opt.ByteExtract fetch name times align ∷ later) (point values p))
        (contains_one place m.0 m.1) m.2));
    have = λ lists listed each old. old;
  }

  -- a number is fetched
  module _ (read : Fetched) (after : List ℕ) (some : Some read ≡ fetched payload fetch (point values place)) (two : length values ≡ 2)
      (kept : after ≡ kept_values later (slice_set values name (rounded_up align (read.number * times))))
      (old new : States) (added : (q : List ℕ) → places_at new q ≡ cond (bytes_eq after q) (Some (unwrap_or (places_at old after) [] ++ read.stop ∷ [])) (places_at old q)) where
    abbrev full : List ℕ
    full = slice_set values name (rounded_up align (read.number * times))

    same : Alike later full after
    same = subst (λ (v : List ℕ). Alike later full v) (sym kept) (alike_kept later full (length-set values name (rounded_up align (read.number * times)) ∙ two))

    leads : Leads means payload (opt.ByteExtract fetch name times align) (point values place) (point full read.stop)
    unfolding Leads
    leads = (read, sym some, refl)

    up : MatchesFrom means payload later (point after read.stop) → MatchesFrom means payload (opt.ByteExtract fetch name times align ∷ later) (point values place)
    up m =
        (extract_some means payload fetch name times align later values place read full some refl).1 (
          read.stop,
          contains_first read.stop [],
          matches_alike means payload later after full read.stop (alike_sym later full after same) m,
        )

    down : MatchesFrom means payload (opt.ByteExtract fetch name times align ∷ later) (point values place) → MatchesFrom means payload later (point after read.stop)
    down m =
        let there = (extract_some means payload fetch name times align later values place read full some refl).0 m in
        matches_alike means payload later full after read.stop same (subst (λ (p : ℕ). MatchesFrom means payload later (point full p)) (contains_one read.stop there.0 there.1) there.2)

    pub leaves_some : Leaves means payload (opt.ByteExtract fetch name times align ∷ later) values (place ∷ []) old new
    leaves_some = record {
      sound = λ m.
          ⊎_elim (λ (before : MatchesFromSome means payload later old). inl before)
          (λ (here : MatchesFrom means payload later (point after read.stop)). inr (place, contains_first place [], up here))
          (some_added old new after read.stop added (λ v p. MatchesFrom means payload later (point v p)) m);
      kept = λ m. some_kept old new after read.stop added (λ v p. MatchesFrom means payload later (point v p)) m;
      complete = λ m. some_new old new after read.stop added (λ v p. MatchesFrom means payload later (point v p))
          (down (subst (λ (p : ℕ). MatchesFrom means payload (opt.ByteExtract fetch name times align ∷ later) (point values p))
          (contains_one place m.0 m.1) m.2));
      have = λ lists listed each before.
          let here = each place (contains_first place []) (point full read.stop) leads in
          each_added old new after read.stop added (Contains lists)
          (λ v p. IsListed listed v p × HasValues means payload lists listed later (point v p)) before
          (subst (λ (v : List ℕ). Contains lists v) (sym kept) here.0) (
            subst (λ (v : List ℕ). IsListed listed v read.stop) (sym kept) (here.1 refl),
            has_values_alike means payload lists listed later full after read.stop same here.2,
          );
    }

-- the places before the rest were asked
pub record AskedFrom (means : Means) (payload : List ℕ) (options : List Opt) (values places rest : List ℕ) (old new : States) : Type 0 where
  pub sound : MatchesFromSome means payload (after_extraction options) new → MatchesFromSome means payload (after_extraction options) old ⊎ MatchesFromOne means payload options values places
  pub kept : MatchesFromSome means payload (after_extraction options) old → MatchesFromSome means payload (after_extraction options) new
  pub within : (p : ℕ) → Contains rest p → Contains places p
  pub complete : (p : ℕ) → Contains places p → MatchesFrom means payload options (point values p) → MatchesFromSome means payload (after_extraction options) new ⊎ Contains rest p
  pub have : (lists : List (List ℕ)) (listed : Option (List Point)) → ((p : ℕ) → Contains places p → HasValues means payload lists listed options (point values p))
      → HaveValues means payload lists listed (after_extraction options) old → HaveValues means payload lists listed (after_extraction options) new

module _ (means : Means) (payload : List ℕ) (options : List Opt) (values places : List ℕ) where
  pub asked_none : (states : States) → AskedFrom means payload options values places places states states
  asked_none states = record {
    sound = λ m. inl m;
    kept = λ m. m;
    within = λ p has. has;
    complete = λ p has m. inr has;
    have = λ lists listed each before. before;
  }

  pub asked_next : (rest : List ℕ) (old now new : States)
      → 1 ≤ length rest
      → AskedFrom means payload options values places rest old now
      → Leaves means payload options values (get_or rest 0 0 ∷ []) now new
      → AskedFrom means payload options values places (take (length rest - 1) (drop 1 rest)) old new
  asked_next rest old now new some before next = record {
    sound = λ m. ⊎_elim before.sound
        (λ (here : MatchesFromOne means payload options values (get_or rest 0 0 ∷ [])). inr (
          get_or rest 0 0,
          first_in,
          subst (λ (p : ℕ). MatchesFrom means payload options (point values p))
              (contains_one (get_or rest 0 0) here.0 here.1)
              here.2,
        ))
        (next.sound m);
    kept = λ m. next.kept (before.kept m);
    within = λ p has. before.within p (contains_later rest p some has);
    complete = λ p has m. ⊎_elim
        (λ (done : MatchesFromSome means payload (after_extraction options) now). inl (next.kept done))
        (λ (left : Contains rest p). ⊎_elim
        (λ (same : p ≡ get_or rest 0 0). inl
        (next.complete (
          get_or rest 0 0,
          contains_first (get_or rest 0 0) [],
          subst (λ (x : ℕ). MatchesFrom means payload options (point values x)) same m,
        )))
        (λ (after : Contains (take (length rest - 1) (drop 1 rest)) p). inr after)
        (contains_cases (get_or rest 0 0) (take (length rest - 1) (drop 1 rest)) p
        (subst (λ (xs : List ℕ). Contains xs p) (split rest some) left)))
        (before.complete p has m);
    have = λ lists listed each have.
        next.have lists listed
        (λ p has. each p (subst (λ (x : ℕ). Contains places x) (sym (contains_one (get_or rest 0 0) p has)) first_in))
        (before.have lists listed each have);
  } where
    first_in : Contains places (get_or rest 0 0)
    first_in = before.within (get_or rest 0 0) (contains_head rest some)

  pub asked_all : (rest : List ℕ) (old new : States) → length rest < 1 → AskedFrom means payload options values places rest old new → Leaves means payload options values places old new
  asked_all rest old new empty h = record {
    sound = h.sound;
    kept = h.kept;
    complete = λ m. ⊎_elim (λ (done : MatchesFromSome means payload (after_extraction options) new). done) (λ (left : Contains rest m.0). absurd (omega (arith, left.1))) (h.complete m.0 m.1 m.2);
    have = h.have;
  }

module _ (means : Means) (payload : List ℕ) (fetch : Fetch) (name times align : ℕ) (later : List Opt) (values places asked : List ℕ) (old new : States) where
  -- an extraction that isn't relative gives the same from each place
  pub leaves_asked : 0 < length places → asked ≡ cond fetch.relative places (take 1 places) → Leaves means payload (opt.ByteExtract fetch name times align ∷ later) values asked old new
      → Leaves means payload (opt.ByteExtract fetch name times align ∷ later) values places old new
  leaves_asked some is h = record {
    sound = λ m. ⊎_elim (λ (before : MatchesFromSome means payload later old). inl before)
        (λ (here : MatchesFromOne means payload (opt.ByteExtract fetch name times align ∷ later) values asked). inr (here.0, asked_is fetch.relative places asked is here.0 here.1, here.2))
        (h.sound m);
    kept = h.kept;
    complete = λ m. h.complete (from fetch.relative refl places some is m);
    have = λ lists listed each before. h.have lists listed (λ p has. each p (asked_is fetch.relative places asked is p has)) before;
  } where
    from : (relative : Bool) → relative ≡ fetch.relative → (places : List ℕ) → 0 < length places → asked ≡ cond relative places (take 1 places)
        → MatchesFromOne means payload (opt.ByteExtract fetch name times align ∷ later) values places → MatchesFromOne means payload (opt.ByteExtract fetch name times align ∷ later) values asked
    from true fixed places some is m = (m.0, subst (λ (xs : List ℕ). Contains xs m.0) (sym is) m.1, m.2)
    from false fixed [] some is m = absurd (omega arith)
    from false fixed (p ∷ places) some is m =
        let next = way_next means payload (opt.ByteExtract fetch name times align) later (point values m.0) m.2 in
        let here = move_free means payload (opt.ByteExtract fetch name times align) values m.0 p next.0 refl (sym fixed) next.1 in
        (p, subst (λ (xs : List ℕ). Contains xs p) (sym is) (contains_first p []), next_way means payload (opt.ByteExtract fetch name times align) later (point values p) next.0 here next.2)
