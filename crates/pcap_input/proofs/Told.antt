-- What taken bytes say of the bytes that were told.
use Rattle.std.proofs.Common.{◌≡◌, ℕ, List, [], ◌++◌, Option, Some, None, take, refl, sym, ap, ◌∙◌}
use Rattle.std.proofs.lemmas.List.{append-nil}
use Rattle.edge_io.specs.Told.{before, NothingLeft}
use Rattle.edge_io.proofs.Told.{before-nil}

-- what was told is the taken bytes and what is told still
pub record Split (taken whole : List ℕ) (new : Option (List ℕ)) : Type 0 where
  pub rest : List ℕ
  pub still : new ≡ Some rest
  pub joined : whole ≡ taken ++ rest

pub split_told : (old new : Option (List ℕ)) (taken whole : List ℕ) → old ≡ before taken new → old ≡ Some whole → Split taken whole new
unfolding before
split_told old None taken whole took told = cc
split_told old (Some rest) taken whole took told = record { rest = rest; still = refl; joined = cc }

-- where nothing is left, the taken bytes are all that was told
pub all_taken : (old new : Option (List ℕ)) (taken whole : List ℕ) → old ≡ before taken new → NothingLeft new → old ≡ Some whole → whole ≡ taken
unfolding before
all_taken old None taken whole took nothing told = cc
all_taken old (Some rest) taken whole took nothing told =
    let joined : whole ≡ taken ++ rest = cc in
    joined ∙ ap (λ ys. taken ++ ys) nothing ∙ append-nil taken

-- no bytes were taken
pub none_taken : (old : Option (List ℕ)) → old ≡ before [] old
none_taken old = sym (before-nil old)

-- no bytes of a buffer were taken
pub none_same : (old new : Option (List ℕ)) (buf : List ℕ) (count : ℕ) → count ≡ 0 → old ≡ before (take count buf) new → old ≡ new
none_same old new buf count none took = took ∙ ap (λ (n : ℕ). before (take n buf) new) none ∙ before-nil new
