-- A line that is numbered.
--
-- To try it on: `host #` with the number 8 is `host 8`, and `#.#` with 10 is `10.10`.
use Rattle.std.specs.Prelude.{ℕ, List, [], ◌∷◌, ◌==◌, decimal, if◌then◌else◌}
use Rattle.std.specs.List.{flat_map}

-- a text for a `#`, and any other byte itself
abbrev pub byte_with : List ℕ → ℕ → List ℕ
byte_with number byte = if byte == 35 then number else byte ∷ []

-- the text in which a number takes the place of each `#`
abbrev pub numbered : ℕ → List ℕ → List ℕ
numbered number text = flat_map (byte_with (decimal number)) text
