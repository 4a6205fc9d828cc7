-- Texts that are put together of pieces: bytes, numbers in decimal digits, and groups in hex digits.
--
-- To try it on: 7 in two digits is `07`, 253 in three digits is `253`, and the group 0xdb8 is `db8`.
use Rattle.std.specs.Prelude.{ℕ, zero, suc, ◌+◌, ◌/◌, ◌%◌, List, [], ◌∷◌, ◌++◌, codes, decimal, flat_map}
use Rattle.std.specs.Net.Text.{hex}
use Rattle.alert_fast.specs.declared.pieces.TextPiece.{TextPiece}
use Rattle.alert_fast.specs.declared.pieces.TextPiece.TheVariants.{Bytes, Number, Hex}

-- the last `count` decimal digits of a number, with zeros where it has fewer (the digit 0 is code 48)
unfoldable pub digits : ℕ → ℕ → List ℕ
digits zero number = []
digits (suc count) number = digits count (number / 10) ++ (48 + number % 10) ∷ []

-- what a piece stands for; `hex` writes lower-case digits without leading zeros
abbrev pub piece_text : TextPiece → List ℕ
piece_text (Bytes bytes) = bytes.now
piece_text (Number value) = decimal value
piece_text (Hex group) = hex group

-- pieces, one after another
abbrev pub pieces_text : List TextPiece → List ℕ
pieces_text [] = []
pieces_text (piece ∷ rest) = piece_text piece ++ pieces_text rest

-- groups, a colon before each
abbrev pub later_groups_text : List ℕ → List ℕ
later_groups_text groups = flat_map (λ group. codes ":" ++ hex group) groups
