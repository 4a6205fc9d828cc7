-- What is kept of each flow, by the keys of a map.
use Rattle.std.proofs.Common.{◌≡◌, ℕ, ◌==◌, Bool, true, false, cond, List, [], ◌∷◌, Option, Some, None, unwrap_or, refl, sym, ap, ◌∙◌, arith}
use Rattle.std.specs.Map.{lookup}
use Rattle.std.proofs.lemmas.Bool.Decides.{nat_tests}
use Rattle.flow_lanes.specs.Kept.{Sets, kept_in}
use Rattle.flow_lanes.specs.LanesAfter.{KeptFlow}

same_test : (a b : ℕ) → (a == b) ≡ (b == a)
same_test a b = grind (arith, nat_tests)

-- a look-up is the same, whichever key comes first in its test
pub looked_up : (flow : ℕ) (flows : List (ℕ × KeptFlow)) → lookup (λ other. flow == other) flows ≡ kept_in flows flow
looked_up flow [] = refl
looked_up flow (entry ∷ flows) = λ i. cond (same_test flow entry.0 i) (Some entry.1) (looked_up flow flows i)

pub sets-from : (flow : ℕ) (kept : Option KeptFlow) (old new : List (ℕ × KeptFlow))
    → ((other : ℕ) → lookup (λ key. other == key) new ≡ cond (flow == other) kept (lookup (λ key. other == key) old)) → Sets flow kept old new
sets-from flow kept old new updates = λ other. sym (looked_up other new) ∙ updates other ∙ (λ i. cond (same_test flow other i) kept (looked_up other old i))

-- what is there where nothing was kept is what was put there
pub put-new : (flow : ℕ) (flows : List (ℕ × KeptFlow)) (found : Option KeptFlow) (put kept : KeptFlow) → found ≡ lookup (λ key. flow == key) flows
    → kept_in flows flow ≡ None → kept ≡ unwrap_or found put → kept ≡ put
put-new flow flows found put kept is none holds = holds ∙ ap (λ f. unwrap_or f put) (is ∙ looked_up flow flows ∙ none)

-- what is set last of a flow holds
pub sets-again : (flow : ℕ) (first last : Option KeptFlow) (old mid new : List (ℕ × KeptFlow)) → Sets flow first old mid → Sets flow last mid new → Sets flow last old new
sets-again flow first last old mid new sets again = λ other.
    again other ∙ ap (λ f. cond (other == flow) last f) (sets other) ∙ once (other == flow) (kept_in old other)
  where
    once : (b : Bool) (kept : Option KeptFlow) → cond b last (cond b first kept) ≡ cond b last kept
    once true kept = refl
    once false kept = refl

-- nothing is kept of a flow of which nothing was
pub sets-none : (flow : ℕ) (flows : List (ℕ × KeptFlow)) → kept_in flows flow ≡ None → Sets flow None flows flows
sets-none flow flows none = λ other. by_test other (other == flow) (λ e. let same : flow ≡ other = grind (arith, nat_tests) in sym (ap (λ f. kept_in flows f) same) ∙ none)
  where
    by_test : (other : ℕ) (b : Bool) → (b ≡ true → kept_in flows other ≡ None) → kept_in flows other ≡ cond b None (kept_in flows other)
    by_test other true is = is refl
    by_test other false is = refl
