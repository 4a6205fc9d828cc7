-- Bytes as texts.
--
-- JSON is written in UTF-8 (RFC 8259, section 8.1); messages and names may be any bytes. Own: what is no
-- UTF-8 is taken for Latin-1 (ISO 8859-1), in which each byte is the character of its number.
-- To try it on: the bytes 63 61 66 e9 are no UTF-8, and stand for `café`, 63 61 66 c3 a9; of 61 00 62 0a
-- the printable text is `a.b` and a line feed.
use Rattle.std.specs.Prelude.{ℕ, ◌&&◌, ◌||◌, ◌==◌, Bool, nat_le, nat_lt, if◌then◌else◌, List, map}
use Rattle.std.specs.Str.{is_utf8, encode_utf8_all}

-- the text that bytes are, in UTF-8: themselves, or what they are in Latin-1
unfoldable pub text_of : List ℕ → List ℕ
text_of bytes = if is_utf8 bytes then bytes else encode_utf8_all bytes

-- a visible character of ASCII, a blank, or what ends a line
unfoldable pub is_printable : ℕ → Bool
is_printable byte = (nat_le 32 byte && nat_lt byte 127) || ((byte == 10) || (byte == 13))

-- the byte, or a full stop in its place
unfoldable pub printable : ℕ → ℕ
printable byte = if is_printable byte then byte else 46

-- the printable form of a payload
abbrev pub printable_text : List ℕ → List ℕ
printable_text payload = map printable payload
