-- Entries of a cache whose keys have a number beside what names them, as entries by what names them: tests that
-- answer alike find, remove and move the same entries.
use Rattle.std.proofs.Common.{◌≡◌, ℕ, zero, suc, ◌≤◌, Bool, true, false, cond, List, [], ◌∷◌, length, map, take, slice_get, Option, Some, None}
use Rattle.std.proofs.Common.{IfSome, refl, ap, subst, ◌∙◌, arith}
use Rattle.std.specs.List.{AllByRecursion, IsDistinct}
use Rattle.std.specs.Map.{keys_of, lookup, lookup_entry, remove_entry}
use Rattle.std.specs.Option.{option_map, option_map_or}
use Rattle.lru.specs.LruCache.{promoted}

-- ---- what holds of all
module _ {X : Type 0} (P : X → Type 0) where
  pub all-take : (n : ℕ) (xs : List X) → AllByRecursion P xs → AllByRecursion P (take n xs)
  all-take zero xs all = tt
  all-take (suc n) [] all = all
  all-take (suc n) (x ∷ xs) all = (all.0, all-take n xs all.1)

  pub all-get : (xs : List X) (n : ℕ) (x : X) → slice_get xs n ≡ Some x → AllByRecursion P xs → P x
  all-get [] n x is all = cc
  all-get (y ∷ ys) zero x is all = let same : y ≡ x = cc in subst P same all.0
  all-get (y ∷ ys) (suc n) x is all = all-get ys n x is all.1

-- ---- entries whose keys N have a part K
module _ {K N V : Type 0} (part : N → K) where
  -- the entry by the part of its key
  abbrev pub plain_entry : N × V → K × V
  plain_entry e = (part e.0, e.1)

  abbrev pub plain : List (N × V) → List (K × V)
  plain es = map plain_entry es

  -- two tests, of a key and of its part
  module _ (test : N → Bool) (by_part : K → Bool) where
    -- answer alike at each entry
    abbrev pub Alike : List (N × V) → Type 0
    Alike es = AllByRecursion (λ (e : N × V). test e.0 ≡ by_part (part e.0)) es

    pub lookup-plain : (es : List (N × V)) → Alike es → lookup test es ≡ lookup by_part (plain es)
    lookup-plain [] alike = refl
    lookup-plain (e ∷ es) alike =
        ap (λ (b : Bool). cond b (Some e.1) (lookup test es)) alike.0
        ∙ ap (λ (o : Option V). cond (by_part (part e.0)) (Some e.1) o) (lookup-plain es alike.1)

    pub entry-plain : (es : List (N × V)) → Alike es → option_map plain_entry (lookup_entry test es) ≡ lookup_entry by_part (plain es)
    entry-plain [] alike = refl
    entry-plain (e ∷ es) alike = ap (λ (b : Bool). option_map plain_entry (cond b (Some e) (lookup_entry test es))) alike.0 ∙ by (by_part (part e.0)) (entry-plain es alike.1)
      where
        by : (b : Bool)
            → option_map plain_entry (lookup_entry test es) ≡ lookup_entry by_part (plain es)
            → option_map plain_entry (cond b (Some e) (lookup_entry test es)) ≡
            cond b (Some (plain_entry e)) (lookup_entry by_part (plain es))
        by true later = refl
        by false later = later

    pub remove-plain : (es : List (N × V)) → Alike es → plain (remove_entry test es) ≡ remove_entry by_part (plain es)
    remove-plain [] alike = refl
    remove-plain (e ∷ es) alike = ap (λ (b : Bool). plain (cond b es (e ∷ remove_entry test es))) alike.0 ∙ by (by_part (part e.0)) (remove-plain es alike.1)
      where
        by : (b : Bool)
            → plain (remove_entry test es) ≡ remove_entry by_part (plain es)
            → plain (cond b es (e ∷ remove_entry test es)) ≡ cond b (plain es) (plain_entry e ∷ remove_entry by_part (plain es))
        by true later = refl
        by false later = ap (λ (l : List (K × V)). plain_entry e ∷ l) later

    pub promoted-plain : (es : List (N × V)) → Alike es → plain (promoted test es) ≡ promoted by_part (plain es)
    promoted-plain es alike = by (lookup_entry test es) ∙ ap (λ (o : Option (K × V)). option_map_or (λ e. e ∷ remove_entry by_part (plain es)) o (plain es)) (entry-plain es alike)
      where
        by : (o : Option (N × V)) → plain (option_map_or (λ e. e ∷ remove_entry test es) o es) ≡ option_map_or (λ e. e ∷ remove_entry by_part (plain es)) (option_map plain_entry o) (plain es)
        by None = refl
        by (Some e) = ap (λ (l : List (K × V)). plain_entry e ∷ l) (remove-plain es alike)

-- ---- what isn't there after a step wasn't there before it
module _ {K V : Type 0} (by : K → Bool) where
  module _ (test : K → Bool) where
    unless_removed : (es : List (K × V)) (e : K × V) → lookup_entry test es ≡ Some e → by e.0 ≡ false → lookup by (remove_entry test es) ≡ None → lookup by es ≡ None
    unless_removed [] e is off none = refl
    unless_removed (f ∷ es) e is off none =
        (elim (test f.0) as
        (λ b. cond b (Some f) (lookup_entry test es) ≡ Some e → lookup by (cond b es (f ∷ remove_entry test es)) ≡ None →
        cond (by f.0) (Some f.1) (lookup by es) ≡ None) [
          | true ↦ λ is none.
              let same : f ≡ e = cc in
              ap (λ (b : Bool). cond {A = Option V} b (Some f.1) (lookup by es)) (ap (λ (g : K × V). by g.0) same ∙ off) ∙ none
          | false ↦ λ is none.
              (elim (by f.0) as
              (λ b. cond {A = Option V} b (Some f.1) (lookup by (remove_entry test es)) ≡ None →
              cond b (Some f.1) (lookup by es) ≡ None) [
                | true ↦ λ none. none
                | false ↦ λ none. unless_removed es e is off none
              ]) none
        ]) is none

    pub unless_promoted : (es : List (K × V)) → lookup by (promoted test es) ≡ None → lookup by es ≡ None
    unless_promoted es none = (elim (lookup_entry test es) as (λ o. lookup_entry test es ≡ o → lookup by (option_map_or (λ e. e ∷ remove_entry test es) o es) ≡ None → lookup by es ≡ None) [
      | None ↦ λ is none. none
      | Some e ↦ λ is none. (elim (by e.0) as (λ b. by e.0 ≡ b → cond {A = Option V} b (Some e.1) (lookup by (remove_entry test es)) ≡ None → lookup by es ≡ None) [
        | true ↦ λ t none. cc
        | false ↦ λ t none. unless_removed es e is t none
      ]) refl none
    ]) refl none

  -- what isn't among the first i of at most i + 1 entries is the last of them, if it is there
  pub unless_last : (i : ℕ) (es : List (K × V)) → length es ≤ suc i → lookup by (take i es) ≡ None → IfSome (slice_get es i) (λ e. by e.0 ≡ false) → lookup by es ≡ None
  unless_last i [] few none last = refl
  unless_last zero (e ∷ []) few none last = ap (λ (b : Bool). cond {A = Option V} b (Some e.1) None) last
  unless_last zero (e ∷ f ∷ es) few none last = absurd (omega arith)
  unless_last (suc i) (e ∷ es) few none last = (elim (by e.0) as (λ b. cond {A = Option V} b (Some e.1) (lookup by (take i es)) ≡ None → cond b (Some e.1) (lookup by es) ≡ None) [
    | true ↦ λ none. none
    | false ↦ λ none. unless_last i es (omega arith) none last
  ]) none

-- ---- what holds of each entry holds where one is moved or removed
module _ {N V : Type 0} (test : N → Bool) (P : N × V → Type 0) where
  pub all-removed : (es : List (N × V)) → AllByRecursion P es → AllByRecursion P (remove_entry test es)
  all-removed [] all = all
  all-removed (e ∷ es) all = elim (test e.0) as (λ b. AllByRecursion P (cond b es (e ∷ remove_entry test es))) [
    | true ↦ all.1
    | false ↦ (all.0, all-removed es all.1)
  ]

  pub all-entry : (es : List (N × V)) (f : N × V) → lookup_entry test es ≡ Some f → AllByRecursion P es → P f
  all-entry [] f is all = cc
  all-entry (e ∷ es) f is all = (elim (test e.0) as (λ b. cond b (Some e) (lookup_entry test es) ≡ Some f → P f) [
    | true ↦ λ is. let same : e ≡ f = cc in subst P same all.0
    | false ↦ λ is. all-entry es f is all.1
  ]) is

  pub all-promoted : (es : List (N × V)) → AllByRecursion P es → AllByRecursion P (promoted test es)
  all-promoted es all = (elim (lookup_entry test es) as (λ o. lookup_entry test es ≡ o → AllByRecursion P (option_map_or (λ e. e ∷ remove_entry test es) o es)) [
    | None ↦ λ is. all
    | Some f ↦ λ is. (all-entry es f is all, all-removed es all)
  ]) refl

-- ---- keys that differ
module _ {K V : Type 0} (same : K → K → Bool) (flips : (a b : K) → same a b ≡ false → same b a ≡ false) where
  pub distinct-take : (n : ℕ) (es : List (K × V)) → IsDistinct same (keys_of es) → IsDistinct same (keys_of (take n es))
  unfolding IsDistinct
  distinct-take zero es apart = tt
  distinct-take (suc n) [] apart = apart
  distinct-take (suc n) (e ∷ es) apart = (keys-take (λ y. same e.0 y ≡ false) n es apart.0, distinct-take n es apart.1)
    where
      keys-take : (P : K → Type 0) (n : ℕ) (es : List (K × V)) → AllByRecursion P (keys_of es) → AllByRecursion P (keys_of (take n es))
      keys-take P zero es all = tt
      keys-take P (suc n) [] all = all
      keys-take P (suc n) (e ∷ es) all = (all.0, keys-take P n es all.1)

  -- the first n entries are apart from that at n
  pub apart-from : (n : ℕ) (es : List (K × V)) (last : K × V) → IsDistinct same (keys_of es) → slice_get es n ≡ Some last → AllByRecursion (λ (e : K × V). same last.0 e.0 ≡ false) (take n es)
  unfolding IsDistinct
  apart-from zero es last apart is = tt
  apart-from (suc n) [] last apart is = tt
  apart-from (suc n) (e ∷ es) last apart is = (flips e.0 last.0 (at n es apart.0 is), apart-from n es last apart.1 is)
    where
      at : (n : ℕ) (es : List (K × V)) → AllByRecursion (λ y. same e.0 y ≡ false) (keys_of es) → slice_get es n ≡ Some last → same e.0 last.0 ≡ false
      at n [] all is = cc
      at zero (f ∷ fs) all is = let one : f ≡ last = cc in subst (λ (g : K × V). same e.0 g.0 ≡ false) one all.0
      at (suc n) (f ∷ fs) all is = at n fs all.1 is

  keys-removed : (test : K → Bool) (P : K → Type 0) (es : List (K × V)) → AllByRecursion P (keys_of es) → AllByRecursion P (keys_of (remove_entry test es))
  keys-removed test P [] all = all
  keys-removed test P (e ∷ es) all = elim (test e.0) as (λ b. AllByRecursion P (keys_of (cond b es (e ∷ remove_entry test es)))) [
    | true ↦ all.1
    | false ↦ (all.0, keys-removed test P es all.1)
  ]

  keys-entry : (test : K → Bool) (P : K → Type 0) (es : List (K × V)) (f : K × V) → lookup_entry test es ≡ Some f → AllByRecursion P (keys_of es) → P f.0
  keys-entry test P [] f is all = cc
  keys-entry test P (e ∷ es) f is all = (elim (test e.0) as (λ b. cond b (Some e) (lookup_entry test es) ≡ Some f → P f.0) [
    | true ↦ λ is. let one : e ≡ f = cc in subst (λ (g : K × V). P g.0) one all.0
    | false ↦ λ is. keys-entry test P es f is all.1
  ]) is

  pub distinct-removed : (test : K → Bool) (es : List (K × V)) → IsDistinct same (keys_of es) → IsDistinct same (keys_of (remove_entry test es))
  unfolding IsDistinct
  distinct-removed test [] apart = apart
  distinct-removed test (e ∷ es) apart = elim (test e.0) as (λ b. IsDistinct same (keys_of (cond b es (e ∷ remove_entry test es)))) [
    | true ↦ apart.1
    | false ↦ (keys-removed test (λ y. same e.0 y ≡ false) es apart.0, distinct-removed test es apart.1)
  ]

  -- an entry that is found is apart from the others
  apart-found : (test : K → Bool) (es : List (K × V)) (f : K × V)
      → lookup_entry test es ≡ Some f
      → IsDistinct same (keys_of es)
      → AllByRecursion (λ y. same f.0 y ≡ false) (keys_of (remove_entry test es))
  unfolding IsDistinct
  apart-found test [] f is apart = cc
  apart-found test (e ∷ es) f is apart =
      (elim (test e.0) as
      (λ b. cond b (Some e) (lookup_entry test es) ≡ Some f →
      AllByRecursion (λ y. same f.0 y ≡ false) (keys_of (cond b es (e ∷ remove_entry test es)))) [
        | true ↦ λ is.
            let one : e ≡ f = cc in subst (λ (g : K × V). AllByRecursion (λ y. same g.0 y ≡ false) (keys_of es)) one apart.0
        | false ↦ λ is. (flips e.0 f.0 (keys-entry test (λ y. same e.0 y ≡ false) es f is apart.0), apart-found test es f is apart.1)
      ]) is

  pub distinct-promoted : (test : K → Bool) (es : List (K × V)) → IsDistinct same (keys_of es) → IsDistinct same (keys_of (promoted test es))
  unfolding IsDistinct
  distinct-promoted test es apart = (elim (lookup_entry test es) as (λ o. lookup_entry test es ≡ o → IsDistinct same (keys_of (option_map_or (λ e. e ∷ remove_entry test es) o es))) [
    | None ↦ λ is. apart
    | Some f ↦ λ is. (apart-found test es f is apart, distinct-removed test es apart)
  ]) refl
