-- Laws of the trackers, for the crates that build on them.
use Rattle.std.proofs.Common.{◌≡◌, ℕ, List, [], ◌∷◌, ◌++◌}
use Rattle.std.proofs.lemmas.List.Sums.{fold-append}
use Rattle.frag3_core.specs.Trackers.{Fragment, after, state_after}

-- one fragment more is one step more
pub state_after-push : (most : ℕ) (fragments : List Fragment) (f : Fragment) → state_after most (fragments ++ f ∷ []) ≡ after (state_after most fragments) f
unfolding state_after
state_after-push most fragments f = fold-append after (record { max_frags = most; trackers = [] }) fragments (f ∷ [])
