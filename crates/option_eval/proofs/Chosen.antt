-- A rule of a set, and what was made of it.
use Rattle.std.proofs.Common.{◌≡◌, ℕ, zero, suc, ◌<◌, ⊎_elim, List, [], ◌∷◌, ◌++◌, length, map, get_or, Option, Some, None, ◌≤◌, ◌==◌, ◌||◌, All, IsTrue, Contains, refl, sym, ap, subst, ◌∙◌, arith}
use Rattle.std.specs.List.{AllZip}
use Rattle.std.proofs.lemmas.Bool.Decides.{nat_tests}
use Rattle.std.proofs.lemmas.List.Elements.{All-nil, All-cons}
use Rattle.edge_io.specs.declared.pattern.Span.{Span}
use Rattle.rule_types.specs.declared.option.Opt.{Opt}
use Rattle.rule_types.specs.declared.option.Opt.TheVariants as opt
use Rattle.rule_types.specs.Sound.{IsOption, AreOptions, names_after_one}
use Rattle.option_eval.specs.Ready.{IsInRange}
use Rattle.option_eval.specs.RuleSet.{IsMade, SameMeaning}
use Rattle.option_eval.specs.Numbers.{Point}
use Rattle.option_eval.specs.Places.{Means, IsWay, start}
use Rattle.option_eval.specs.Sets.{point}
use Rattle.option_eval.specs.Walks.{MatchesFrom, MatchesFromOne}
use Rattle.option_eval.proofs.Sets.Rising.{contains_cases, contains_first}

module _ {X Y : Type 0} (R : X → Y → Type 0) where
  pub zip_length : (xs : List X) (ys : List Y) → AllZip R xs ys → length ys ≡ length xs
  zip_length [] [] h = refl
  zip_length (x ∷ xs) (y ∷ ys) h = ap suc (zip_length xs ys h.1)
  zip_length [] (y ∷ ys) h = absurd h
  zip_length (x ∷ xs) [] h = absurd h

  pub zip_at : (xs : List X) (ys : List Y) (k : ℕ) → AllZip R xs ys → k < length xs → (x : X) (y : Y) → x ≡ get_or xs k x → y ≡ get_or ys k y → R x y
  zip_at [] ys k h below x y is-x is-y = absurd (omega arith)
  zip_at (a ∷ xs) [] k h below x y is-x is-y = absurd h
  zip_at (a ∷ xs) (b ∷ ys) zero h below x y is-x is-y = subst (λ y'. R x y') (sym is-y) (subst (λ x'. R x' b) (sym is-x) h.0)
  zip_at (a ∷ xs) (b ∷ ys) (suc k) h below x y is-x is-y = zip_at xs ys k h.1 (omega arith) x y is-x is-y

module _ {X V Y : Type 0} (R : X → Y → Type 0) (f : V → Y) where
  pub zip_map_at : (xs : List X) (vs : List V) (k : ℕ) → AllZip R xs (map f vs) → k < length xs → (x : X) (v : V) → x ≡ get_or xs k x → v ≡ get_or vs k v → R x (f v)
  zip_map_at [] vs k h below x v is-x is-v = absurd (omega arith)
  zip_map_at (a ∷ xs) [] k h below x v is-x is-v = absurd h
  zip_map_at (a ∷ xs) (b ∷ vs) zero h below x v is-x is-v = subst (λ v'. R x (f v')) (sym is-v) (subst (λ x'. R x' (f b)) (sym is-x) h.0)
  zip_map_at (a ∷ xs) (b ∷ vs) (suc k) h below x v is-x is-v = zip_map_at xs vs k h.1 (omega arith) x v is-x is-v

pub same_at : {X : Type 0} (xs : List X) (k : ℕ) (x y : X) → k < length xs → x ≡ get_or xs k x → y ≡ get_or xs k y → x ≡ y
same_at [] k x y below is-x is-y = absurd (omega arith)
same_at (a ∷ xs) zero x y below is-x is-y = is-x ∙ sym is-y
same_at (a ∷ xs) (suc k) x y below is-x is-y = same_at xs k x y (omega arith) is-x is-y

-- some way leads through the options from the payload's start
pub way_start : (means : Means) (payload : List ℕ) (options : List Opt)
    → (((way : List Point) × IsWay means payload options start way) →
    MatchesFromOne means payload options (0 ∷ 0 ∷ []) (0 ∷ [])) ×
    (MatchesFromOne means payload options (0 ∷ 0 ∷ []) (0 ∷ []) → (way : List Point) × IsWay means payload options start way)
way_start means payload options = (
  λ m. (0, contains_first 0 [], m),
  λ m.
      let at : m.0 ≡ 0 = ⊎_elim (λ (same : m.0 ≡ 0). same) (λ (after : Contains [] m.0). absurd (omega (arith, after.1))) (contains_cases 0 [] m.0 m.1) in
      subst (λ (p : ℕ). MatchesFrom means payload options (point (0 ∷ 0 ∷ []) p)) at m.2,
)

-- one more pair at the end
pub zip_push : {X Y : Type 0} (R : X → Y → Type 0) (xs : List X) (ys : List Y) (x : X) (y : Y) → AllZip R xs ys → R x y → AllZip R (xs ++ x ∷ []) (ys ++ y ∷ [])
zip_push R [] [] x y h last = (last, tt)
zip_push R (a ∷ xs) (b ∷ ys) x y h last = (h.0, zip_push R xs ys x y h.1 last)
zip_push R [] (b ∷ ys) x y h last = absurd h
zip_push R (a ∷ xs) [] x y h last = absurd h

pub map_push : {X Y : Type 0} (f : X → Y) (xs : List X) (x : X) → map f (xs ++ x ∷ []) ≡ map f xs ++ f x ∷ []
map_push f [] x = refl
map_push f (y ∷ xs) x = ap (λ ys. f y ∷ ys) (map_push f xs x)

-- a maker that means the same made the same
pub made_same : {P : Type 0} (finds : P → List ℕ → Option Span) (means means' : Means) (option : Opt) (pattern : Option P)
    → SameMeaning means means'
    → IsMade finds means' option pattern
    → IsMade finds means option pattern
made_same finds means means' (opt.Pcre text flags relative negated) (Some pattern) same h = λ bytes. h bytes ∙ same text flags bytes
made_same finds means means' (opt.Pcre text flags relative negated) None same h = h
made_same finds means means' _ pattern same h = tt

-- the numbers of a sound rule's options lie in their ranges
in_range : (names : List ℕ) (option : Opt) → IsOption names option → IsInRange option
in_range names (opt.Content content) h = h.0.0
in_range names (opt.Pcre text flags relative negated) h = h.1
in_range names (opt.ByteTest fetch negated how value) h = h.0.0
in_range names (opt.ByteJump fetch times align beginning post) h = (h.0.0, h.1)
in_range names (opt.ByteExtract fetch name times align) h = (h.0.0, h.2, h.1, aligned align h.3)
  where
    aligned : (n : ℕ) → IsTrue (n == 0 || (n == 2 || n == 4)) → n ≤ 4
    aligned n h = grind (arith, nat_tests)
in_range names _ h = tt

pub all_in_range : (names : List ℕ) (options : List Opt) → AreOptions names options → All IsInRange options
all_in_range names [] h = All-nil IsInRange
all_in_range names (o ∷ options) h = All-cons IsInRange o options (in_range names o h.0) (all_in_range (names_after_one names o) options h.1)
