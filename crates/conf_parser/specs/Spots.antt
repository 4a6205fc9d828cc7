-- Where a line is: what an include there depends on.
use Rattle.std.specs.Prelude.{ℕ, List}

pub record Spot : Type 0 where
  -- the name of its file
  pub file : List ℕ
  -- how many includes lie between the first file and its own
  pub depth : ℕ
  -- how many files were read, its own among them; a file counts each time it is read
  pub files : ℕ
