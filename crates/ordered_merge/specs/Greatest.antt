-- Which of several ascending parts ends in the greatest number, as far as they have been looked at.
--
-- To try it on: of the parts with the numbers 1, 4 and 0, 2, the first ends in the greatest, 4.
use Rattle.std.specs.Prelude.{◌≡◌, [], ◌-◌, ◌<◌, ◌≤◌, ℕ, List, Option, Some, None, Vec, length, All, AllPairs}
use Rattle.std.specs.List.{AllWithin, HoldsAt}
use Rattle.ordered_merge.specs.declared.greatest.PartEnd.{PartEnd}
use Rattle.ordered_merge.specs.declared.numbered.Numbered.{Numbered}

-- no entry has a greater number than this
abbrev pub AtMost : {T : Type 0} → ℕ → List (Numbered T) → Type 0
AtMost number entries = All (λ entry. entry.number ≤ number) entries

-- there is a last entry, and it has this number
pub record EndsIn {T : Type 0} (number : ℕ) (entries : List (Numbered T)) : Type 0 where
  pub some : 0 < length entries
  pub numbered : HoldsAt (λ entry. entry.number ≡ number) entries (length entries - 1)

-- the part at this place ends in this number, and no entry of the first `seen` parts has a greater one
pub record IsGreatest {T A : Type 0} (parts : List (Vec (Numbered T) A)) (seen : ℕ) (end : PartEnd) : Type 0 where
  pub within : end.at < seen
  pub ends : HoldsAt (λ part. EndsIn end.number part.items) parts end.at
  pub above : AllWithin (λ part. AtMost end.number part.items) parts 0 seen

-- the greatest end of the first `seen` parts; none where they are all empty
abbrev pub GreatestUpTo : {T A : Type 0} → List (Vec (Numbered T) A) → ℕ → Option PartEnd → Type 0
GreatestUpTo parts seen None = AllWithin (λ part. part.items ≡ []) parts 0 seen
GreatestUpTo parts seen (Some end) = IsGreatest parts seen end

-- the numbers do not rise
abbrev pub Falls : {T : Type 0} → List (Numbered T) → Type 0
Falls entries = AllPairs (λ one other. other.number ≤ one.number) entries
