-- What is inside the brackets of a list, cut into symbols: the four marks `[`, `]`, `,` and `!`, and
-- between them the words, each a longest stretch of bytes that are neither marks nor blanks. Blanks
-- (space and tab) stand for nothing, but no word goes on after one.
--
-- To try it on: `80, ![81 82]` is Word 80, Comma, Not, Open, Word 81, Word 82, Close, and two words side
-- by side are in no list.
use Rattle.std.specs.Prelude.{ℕ, ◌==◌, Bool, true, false, not, Option, Some, None, is_none, List, [], ◌∷◌, ◌&&◌, if◌then◌else◌}
use Rattle.edge_io.specs.Bytes.{is_blank}

-- a mark or a word
pub data Symbol : Type 0 where
  Open : Symbol
  Close : Symbol
  Comma : Symbol
  Not : Symbol
  Word : List ℕ → Symbol

-- the symbol that the byte is by itself: `[`, `]`, `,` or `!`
abbrev pub mark : ℕ → Option Symbol
mark byte = if byte == 91 then Some Open else if byte == 93 then Some Close else if byte == 44 then Some Comma
    else if byte == 33 then Some Not else None

-- neither a blank nor a mark
abbrev pub is_word_byte : ℕ → Bool
is_word_byte byte = not (is_blank byte) && is_none (mark byte)

-- a byte of a word is in front
abbrev pub begins_word : List ℕ → Bool
begins_word [] = false
begins_word (byte ∷ rest) = is_word_byte byte

-- a blank is in front
abbrev pub begins_blank : List ℕ → Bool
begins_blank [] = false
begins_blank (byte ∷ rest) = is_blank byte

-- a byte of a word before these symbols, to be joined to the first where that is a word right after it
abbrev pub joined : ℕ → Bool → List Symbol → List Symbol
joined byte true (Word word ∷ rest) = Word (byte ∷ word) ∷ rest
joined byte _ symbols = Word (byte ∷ []) ∷ symbols

-- a byte that is no blank before these symbols
abbrev pub put : ℕ → Option Symbol → Bool → List Symbol → List Symbol
put byte (Some alone) adjacent symbols = alone ∷ symbols
put byte None adjacent symbols = joined byte adjacent symbols

-- the symbols of a text
abbrev pub symbols : List ℕ → List Symbol
symbols [] = []
symbols (byte ∷ rest) = if is_blank byte then symbols rest else put byte (mark byte) (begins_word rest) (symbols rest)
