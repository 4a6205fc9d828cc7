-- What calls at the places of a part of a slice do, which begins at some place of the whole.
use Rattle.std.specs.Prelude.{◌≡◌, ℕ, ◌+◌, ◌^◌, ◌<◌, List, length, slice_index_or}
use Rattle.flow_lanes.specs.declared.spread.SlicePart.{SlicePart}

-- P holds of each place and of what is there
abbrev pub AcceptsFrom : {X : Type 0} → (ℕ → X → Type 0) → ℕ → List X → Type 0
AcceptsFrom {X} P base xs = (k : ℕ) (d : X) → k < length xs → P (base + k) (slice_index_or xs k d)

-- a part of a slice may be done: it ends below 2^64, is told of each place whether it is busy, and a call may be made at each
pub record IsReady {X : Type 0} (P : ℕ → X → Type 0) (part : SlicePart) (xs : List X) : Type 0 where
  pub room : part.base + length xs < 2 ^ 64
  pub same : length part.busy.now ≡ length xs
  pub accepts : AcceptsFrom P part.base xs

-- R holds at each place of what is there before and after
pub record ChangesFrom {X : Type 0} (R : ℕ → X → X → Type 0) (base : ℕ) (xs ys : List X) : Type 0 where
  pub len : length ys ≡ length xs
  pub each : (k : ℕ) (d : X) → k < length xs → R (base + k) (slice_index_or xs k d) (slice_index_or ys k d)
