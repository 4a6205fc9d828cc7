-- Words on bytes: blanks at the ends of a text, the bytes and numbers at places of it, and sums of words.
--
-- A blank is a space or a tab, as in the configuration files of the Snort manual. The most significant
-- byte of a number comes first (RFC 791, appendix B). A place past the end has the byte 0: a definition
-- that reads a number asks first whether its bytes are there. Bytes are paired to words of 16 bits as for
-- the internet checksum (RFC 1071, section 1).
-- To try it on: ` a b ` between blanks is `a b`; in the bytes 8, 0, 69 the number of two bytes at place 0
-- is 2048, and the slice from place 1 up to place 3 is 0, 69; their words 0800 and 4500 sum to 4d00.
use Rattle.std.specs.Prelude.{ℕ, ◌+◌, ◌-◌, ◌*◌, ◌==◌, ◌||◌, Bool, List, [], ◌∷◌, length, take, drop, slice_index}
use Rattle.std.specs.List.{prefix_len, suffix_len}
use Rattle.byteorder.specs.Endian.{big_from}

-- a blank: a space or a tab
abbrev pub is_blank : ℕ → Bool
is_blank byte = byte == 32 || byte == 9

-- the text without the blanks at its front
abbrev pub without_front_blanks : List ℕ → List ℕ
without_front_blanks text = drop (prefix_len is_blank text) text

-- the text without the blanks at its end
abbrev pub without_end_blanks : List ℕ → List ℕ
without_end_blanks text = take (length text - suffix_len is_blank text) text

-- the text without the blanks at both ends
unfoldable pub trimmed : List ℕ → List ℕ
trimmed text = without_end_blanks (without_front_blanks text)

-- the byte at a place
abbrev pub byte_at : List ℕ → ℕ → ℕ
byte_at bytes place = slice_index bytes place

-- the bytes from one place up to another
abbrev pub slice : List ℕ → ℕ → ℕ → List ℕ
slice bytes start stop = take (stop - start) (drop start bytes)

-- the number in the two bytes from a place
unfoldable pub be16 : List ℕ → ℕ → ℕ
be16 bytes place = big_from place 2 bytes

-- the number in the four bytes from a place
unfoldable pub be32 : List ℕ → ℕ → ℕ
be32 bytes place = big_from place 4 bytes

-- the plain sum of the 16-bit words of these bytes, an odd last byte with a zero byte after it
unfoldable pub word_sum : List ℕ → ℕ
word_sum [] = 0
word_sum (high ∷ []) = high * 256
word_sum (high ∷ low ∷ rest) = (high * 256 + low) + word_sum rest
