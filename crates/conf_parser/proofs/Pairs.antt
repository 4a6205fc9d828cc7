-- The settings that begin with a name.
use Rattle.std.proofs.Common.{◌≡◌, ℕ, Bool, true, false, cond, List, [], ◌∷◌, Option, Some, None, refl, ap}
use Rattle.conf_parser.specs.Options.{setting, paired}

module _ (test : List ℕ → Bool) (name : List ℕ) where
  pub paired-alone : (rest : List (List ℕ)) → test name ≡ true → paired test (name ∷ rest) ≡ setting name None ∷ paired test rest
  unfolding paired
  paired-alone [] e = refl
  paired-alone (value ∷ rest) e = ap (λ b. cond b (setting name None ∷ paired test (value ∷ rest)) (setting name (Some value) ∷ paired test rest)) e

  pub paired-value : (value : List ℕ) (rest : List (List ℕ)) → test name ≡ false → paired test (name ∷ value ∷ rest) ≡ setting name (Some value) ∷ paired test rest
  unfolding paired
  paired-value value rest e = ap (λ b. cond b (setting name None ∷ paired test (value ∷ rest)) (setting name (Some value) ∷ paired test rest)) e

  pub paired-last : paired test (name ∷ []) ≡ setting name None ∷ paired test []
  unfolding paired
  paired-last = refl

pub ruleset pairs = (paired-alone, paired-value, paired-last)
