-- What was written of a text: all of it, or a beginning.
--
-- To try it on: after 10 told bytes, of the text `abc`, the 10 bytes and then `ab` are a part that was written; the 10
-- bytes and then `b` are none.
use Rattle.std.specs.Prelude.{◌≡◌, ℕ, List, Option}
use mathlib.Core.List.{IsPrefix}
use Rattle.edge_io.specs.Told.{grown}

-- after what was told a beginning of the text was written, and no other byte
unfoldable pub WritesPart : Option (List ℕ) → List ℕ → Option (List ℕ) → Type 0
WritesPart old text new = (part : List ℕ) × IsPrefix part text × (new ≡ grown old part)
