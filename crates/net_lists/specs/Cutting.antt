-- Cutting a text into words, settings and comma parts. A byte cuts only outside brackets, where no `[`
-- before it is still open.
--
-- Words are between blanks, settings between blanks and commas; comma parts between commas, without the
-- blanks around them, and each of them counts, also an empty one.
-- To try it on: `a [b, c]  d` has the words `a`, `[b, c]` and `d`; `x, [y,z] ,` has the comma parts `x`,
-- `[y,z]` and an empty one.
use Rattle.std.specs.Prelude.{ℕ, ◌+◌, ◌-◌, ◌==◌, ◌&&◌, ◌||◌, Bool, true, false, List, [], ◌∷◌, map, filter, take, drop, if◌then◌else◌}
use Rattle.std.specs.List.{onto_first}
pub use Rattle.edge_io.specs.Bytes.{is_blank}
use Rattle.edge_io.specs.Bytes.{without_front_blanks, trimmed}

-- a comma (44)
abbrev pub is_comma : ℕ → Bool
is_comma byte = byte == 44

-- a blank or a comma
abbrev pub is_blank_or_comma : ℕ → Bool
is_blank_or_comma byte = is_blank byte || is_comma byte

-- how many brackets are open after a byte, which may be `[` (91) or `]` (93)
abbrev pub depth_after : ℕ → ℕ → ℕ
depth_after depth byte = if byte == 91 then depth + 1 else if byte == 93 then depth - 1 else depth

-- what is between the bytes that cut, where `depth` brackets are open in front
unfoldable pub pieces_between : (ℕ → Bool) → ℕ → List ℕ → List (List ℕ)
pieces_between cuts depth [] = [] ∷ []
pieces_between cuts depth (byte ∷ rest) =
    if depth == 0 && cuts byte then [] ∷ pieces_between cuts 0 rest
    else onto_first byte (pieces_between cuts (depth_after depth byte) rest)

-- a text that is not empty
abbrev pub is_filled : List ℕ → Bool
is_filled [] = false
is_filled (first ∷ rest) = true

-- what is between the bytes that cut, each run of these taken as one
unfoldable pub words_between : (ℕ → Bool) → List ℕ → List (List ℕ)
words_between cuts text = filter is_filled (pieces_between cuts 0 text)

-- the words of a text
abbrev pub words : List ℕ → List (List ℕ)
words text = words_between is_blank text

-- the settings of a text
abbrev pub settings : List ℕ → List (List ℕ)
settings text = words_between is_blank_or_comma text

-- the comma parts of a text
unfoldable pub comma_parts : List ℕ → List (List ℕ)
comma_parts text = map trimmed (pieces_between is_comma 0 text)

-- how many bytes come before the first that cuts
unfoldable pub front_len : (ℕ → Bool) → ℕ → List ℕ → ℕ
front_len cuts depth [] = 0
front_len cuts depth (byte ∷ rest) = if depth == 0 && cuts byte then 0 else 1 + front_len cuts (depth_after depth byte) rest

-- the first word of a text, empty where there is none
unfoldable pub first_word : List ℕ → List ℕ
first_word text = take (front_len is_blank 0 (without_front_blanks text)) (without_front_blanks text)

-- what comes after the first word and the blanks after that
unfoldable pub after_word : List ℕ → List ℕ
after_word text = without_front_blanks (drop (front_len is_blank 0 (without_front_blanks text)) (without_front_blanks text))
