-- How the keys of one protocol that live are kept: a tree has the number of each key's flow, and a cache, which
-- hashes those numbers, has the keys by their last touches.
use Rattle.std.specs.Prelude.{◌≡◌, ℕ, Bool, false, List, Option, Some, None, map}
use Rattle.std.specs.List.{AllByRecursion, IsDistinct}
use Rattle.std.specs.Map.{keys_of, lookup}
use Rattle.stream5_sessions.specs.declared.flow_numbers.FlowNumbers.{FlowNumbers}
use Rattle.stream5_sessions.specs.declared.key.Key.{Key}
use Rattle.stream5_sessions.specs.declared.lives.NumberedKey.{NumberedKey}
use Rattle.stream5_sessions.specs.Keys.{same_key}
use Rattle.stream5_sessions.specs.Trees.{number_in}

-- the keys that live with their flows' numbers, the latest touched first, and how many there may be
pub record LivesState : Type 0 where
  pub entries : List (Key × ℕ)
  pub cap : ℕ

abbrev pub lives_with : List (Key × ℕ) → ℕ → LivesState
lives_with entries cap = record { entries = entries; cap = cap }

-- the entries of the cache by their keys
abbrev pub entries_of : List (NumberedKey × ℕ) → List (Key × ℕ)
entries_of es = map (λ (e : NumberedKey × ℕ). (e.0.key, e.1)) es

-- the tree has the number of the key of each entry and of no other key, and no two keys are one
pub record IsIndexed (numbers : FlowNumbers) (es : List (NumberedKey × ℕ)) : Type 0 where
  pub found : AllByRecursion (λ (e : NumberedKey × ℕ). number_in numbers e.0.key ≡ Some e.0.number) es
  pub only : (q : Key) → lookup (same_key q) (entries_of es) ≡ None → number_in numbers q ≡ None
  pub apart : IsDistinct same_key (keys_of (entries_of es))

-- the entry that goes has this key
abbrev pub is_gone : Option (NumberedKey × ℕ) → Key → Bool
is_gone None q = false
is_gone (Some e) q = same_key e.0.key q
