-- The parts of a text that are left, by what it is cut into.
use denote.Ref.{Bor}
use Rattle.std.specs.Prelude.{ℕ, Bool, Option, Some, None, List, []}
use Rattle.net_lists.specs.declared.parts.Cut.{Cut}
use Rattle.net_lists.specs.declared.parts.Cut.TheVariants as cut
pub use Rattle.net_lists.specs.declared.parts.Cut.TheVariants.{Commas}
use Rattle.net_lists.specs.Cutting.{is_blank, is_comma, is_blank_or_comma, words, settings, comma_parts}

-- the bytes that cut
abbrev pub cuts : Cut → ℕ → Bool
cuts cut.Words = is_blank
cuts cut.Settings = is_blank_or_comma
cuts cut.Commas = is_comma

-- the parts of a text
abbrev pub parts_of : Cut → List ℕ → List (List ℕ)
parts_of cut.Words = words
parts_of cut.Settings = settings
parts_of cut.Commas = comma_parts

-- the parts of what is left of a text, if anything is
abbrev pub parts_left : Cut → Option (Bor (List ℕ)) → List (List ℕ)
parts_left by None = []
parts_left by (Some text) = parts_of by text.now
