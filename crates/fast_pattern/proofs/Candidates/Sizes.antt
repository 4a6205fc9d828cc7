-- What is sought of a sound rule has small numbers.
use Rattle.std.proofs.Common.{◌≡◌, ℕ, ◌+◌, ◌<◌, ◌≤◌, Bool, true, false, cond, ltb, Option, Some, None, List, [], ◌∷◌, length, IfSome, sym, ap, subst, ◌∙◌, arith}
use Rattle.std.specs.Bool.{⊤}
use Rattle.std.specs.List.{find}
use Rattle.rule_types.specs.declared.option.Content.{Content}
use Rattle.rule_types.specs.declared.option.FastMode.{FastMode}
use Rattle.rule_types.specs.declared.option.FastMode.TheVariants as mode
use Rattle.rule_types.specs.declared.option.Opt.{Opt}
use Rattle.rule_types.specs.declared.option.Opt.TheVariants as opt
use Rattle.rule_types.specs.declared.rule.Rule.{Rule}
use Rattle.rule_types.specs.Sound.{IsContent, IsFast, IsOption, AreOptions, names_after_one, IsTriable}
use Rattle.fast_pattern.specs.declared.choice.Sought.{Sought}
use Rattle.fast_pattern.specs.FastPattern.{first_of, size_of, sought_at, sought_of, with, sought_from, longer, longest, or_else, chosen}

pub record IsSmall (most : ℕ) (sought : Sought) : Type 0 where
  pub place : sought.place < most
  pub from : sought.from ≤ 2048
  pub len : sought.len ≤ 2048

abbrev pub AllOf : (Sought → Type 0) → List Sought → Type 0
AllOf P [] = ⊤
AllOf P (x ∷ xs) = P x × AllOf P xs

content-small : (names : List ℕ) (place most : ℕ) (content : Content) (fast : FastMode)
    → place < most
    → length content.bytes ≤ 2048
    → IsFast content fast
    → (first_of fast ≤ 2048) × (size_of fast (length content.bytes) ≤ 2048)
content-small names place most content mode.No here short is = (omega arith, short)
content-small names place most content mode.Yes here short is = (omega arith, short)
content-small names place most content mode.Only here short is = (omega arith, short)
content-small names place most content (mode.Part from len) here short is = (omega (arith, is.1), omega (arith, is.1))

module _ (most : ℕ) where
  with-content : (names : List ℕ) (place : ℕ) (content : Content) (later : List Sought) (b : Bool)
      → place < most
      → IsContent names content
      → AllOf (IsSmall most) later
      → AllOf (IsSmall most) (with (cond b None (Some (sought_at place content))) later)
  with-content names place content later true here is rest = rest
  with-content names place content later false here is rest =
      let small = content-small names place most content content.fast here is.0.1 is.3 in
      (record { place = here; from = small.0; len = small.1 }, rest)

  with-option : (names : List ℕ) (place : ℕ) (option : Opt) (later : List Sought)
      → place < most
      → IsOption names option
      → AllOf (IsSmall most) later
      → AllOf (IsSmall most) (with (sought_of place option) later)
  with-option names place (opt.Content content) later here is rest = with-content names place content later content.negated here is rest
  with-option names place _ later here is rest = rest

  all-small : (names : List ℕ) (place : ℕ) (options : List Opt) → place + length options ≤ most → AreOptions names options → AllOf (IsSmall most) (sought_from place options)
  all-small names place [] h are = tt
  all-small names place (option ∷ rest) h are =
      with-option names place option (sought_from (place + 1) rest) (omega arith) are.0 (all-small (names_after_one names option) (place + 1) rest (omega arith) are.1)

module _ (P : Sought → Type 0) where
  found-cond : (b : Bool) (one : Sought) (other : Option Sought) → P one → IfSome other P → IfSome (cond b (Some one) other) P
  found-cond true one other p q = p
  found-cond false one other p q = q

  pub found : (test : Sought → Bool) (xs : List Sought) → AllOf P xs → IfSome (find test xs) P
  found test [] all = tt
  found test (x ∷ xs) all = found-cond (test x) x (find test xs) all.0 (found test xs all.1)

  longer-of : (one : Sought) (other : Option Sought) → P one → IfSome other P → IfSome (longer (Some one) other) P
  longer-of one None p q = p
  longer-of one (Some other) p q = found-cond (ltb one.len other.len) other (Some one) q p

  pub longest-of : (xs : List Sought) → AllOf P xs → IfSome (longest xs) P
  longest-of [] all = tt
  longest-of (x ∷ xs) all = longer-of x (longest xs) all.0 (longest-of xs all.1)

  pub either : (one other : Option Sought) → IfSome one P → IfSome other P → IfSome (or_else one other) P
  either None other p q = q
  either (Some one) other p q = p

pub chosen-small : (rule : Rule) → IsTriable rule → IfSome (chosen rule.opts) (IsSmall 64)
unfolding chosen
chosen-small rule sound =
    let all = all-small 64 [] 0 rule.opts (omega (arith, sound.count)) sound.options in
    either (IsSmall 64) (find (λ sought. sought.marked) (sought_from 0 rule.opts))
    (longest (sought_from 0 rule.opts))
    (found (IsSmall 64) (λ sought. sought.marked) (sought_from 0 rule.opts) all)
    (longest-of (IsSmall 64) (sought_from 0 rule.opts) all)

pub small-at : (rule : Rule) (sought : Sought) (options : List Opt) → IsTriable rule → options ≡ rule.opts → chosen options ≡ Some sought → IsSmall 64 sought
small-at rule sought options sound same is =
    let P : Option Sought → Type 0 = λ o. IfSome o (IsSmall 64) in
    subst P (sym (ap chosen same) ∙ is) (chosen-small rule sound)
