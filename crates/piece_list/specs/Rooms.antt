-- What bounds the elements and the spare nodes.
use Rattle.std.specs.Prelude.{ℕ, ◌+◌, ◌^◌, ◌<◌, ◌≤◌, List, length}

module _ {T : Type 0} where
  -- there is room for one element, and the place is at it or after it
  pub record IsSingle (list : List T) (place spare : ℕ) : Type 0 where
    pub fits : length list + spare ≤ 1
    pub within : place ≤ length list

  -- there is room in the row for all elements and the spare ones, eight at most, and the place is among them or at the end
  pub record AreFew (list : List T) (place spare room : ℕ) : Type 0 where
    pub fits : length list + spare ≤ 8
    pub wide : 8 ≤ room
    pub within : place ≤ length list

  -- among the spare nodes there is room for those with an element too
  pub record AreCounted (list : List T) (spare room : ℕ) : Type 0 where
    pub fits : length list + spare ≤ room
    pub small : room < 2 ^ 63
