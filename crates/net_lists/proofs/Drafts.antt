-- A fold's draft: at no part, and after the first.
use Rattle.std.proofs.Common.{◌≡◌, List, [], ◌∷◌, Result, Ok, Err, refl, ap}
use Rattle.edge_io.specs.OnResult.{◌>>=◌}
use Rattle.net_lists.specs.Folds.{draft_after}

module _ {D X K : Type 0} (step : D → X → Result D K) where
  pub draft_after-none : (draft : D) → draft_after step draft [] ≡ Ok draft
  unfolding draft_after
  draft_after-none draft = refl

  pub draft_after-ok : (draft next : D) (part : X) (parts : List X) → step draft part ≡ Ok next → draft_after step draft (part ∷ parts) ≡ draft_after step next parts
  unfolding draft_after
  draft_after-ok draft next part parts e = ap (λ r. r >>= λ n. draft_after step n parts) e

  pub draft_after-err : (draft : D) (kind : K) (part : X) (parts : List X) → step draft part ≡ Err kind → draft_after step draft (part ∷ parts) ≡ Err kind
  unfolding draft_after
  draft_after-err draft kind part parts e = ap (λ r. r >>= λ n. draft_after step n parts) e

pub ruleset draft_steps = (draft_after-none, draft_after-ok, draft_after-err)
