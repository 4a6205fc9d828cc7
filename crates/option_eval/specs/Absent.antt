-- Which places a content reaches, and what a look at a payload from left to right has seen of it.
use Rattle.std.specs.Prelude.{◌≡◌, ℕ, ◌-◌, ◌<◌, ◌≤◌, ◌⊎◌, Bool, List, length}
use Rattle.option_eval.specs.Sets.{IsWithin, Occurs}
use Rattle.option_eval.specs.declared.absent.SeenSoFar.{SeenSoFar}
use Rattle.option_eval.specs.declared.reach.Reach.{Reach}

-- bytes occur within reach of a place
abbrev pub IsReached : Bool → List ℕ → List ℕ → Reach → ℕ → Type 0
IsReached nocase payload bytes reach place = (i : ℕ) × IsWithin reach (length bytes) place i × Occurs nocase payload bytes i

-- an occurrence that was looked at isn't after the last that was seen
abbrev pub IsNoted : SeenSoFar → ℕ → Type 0
IsNoted seen i = i < seen.done → i < seen.last

-- the places from `low` on and below `end` were looked at, up to the first occurrence
pub record SeesOn (occurs : ℕ → Type 0) (low end : ℕ) (old new : SeenSoFar) : Type 0 where
  pub found : (i : ℕ) → low ≤ i → i < end → occurs i → IsNoted old i → low < new.last
  pub noted : (i : ℕ) → low ≤ i → occurs i → IsNoted old i → IsNoted new i
  pub is_found : 0 < new.last → (new.last ≡ old.last) ⊎ (occurs (new.last - 1) × (new.last - 1 < end))
