-- The internet checksum, as one checks it: RFC 1071, section 1, rules (1) and (3).
--
-- The bytes are paired to 16-bit words, an odd last byte with a zero byte after it; `word_sum` of
-- edge_io's specs/Bytes is their plain sum. The one's complement sum of the words, the checksum field
-- among them, is to be all ones, ffff. A one's complement sum adds each carry out of the 16 bits back in
-- at the low end, so it is the plain sum modulo 65535, where a multiple of 65535 is written as 0000 if
-- every word is 0, and else as ffff. So it is all ones exactly where the plain sum isn't 0 and is
-- divisible by 65535.
-- To try it on: RFC 1071, section 3: the words 0001, f203, f4f5, f6f7 have the plain sum 2ddf0, whose
-- one's complement sum is ddf2. With the checksum 220d among them the plain sum is 2fffd, three times
-- ffff, which is right.
-- The law `ones_sum-is_all_ones` of proofs/Carries says the same of the sum that adds carries back in.
use Rattle.std.specs.Prelude.{ℕ, zero, suc, ◌+◌, ◌*◌, ◌/◌, ◌%◌, List, Bool, ◌&&◌, nat_lt, ◌==◌}
use Rattle.edge_io.specs.declared.address.Addr.{Addr}
use Rattle.edge_io.specs.declared.address.Addr.TheVariants.{V4, V6}
use Rattle.edge_io.specs.Bytes.{word_sum}

-- the plain sum of the lowest `count` 16-bit words of a number
unfoldable pub words_of : ℕ → ℕ → ℕ
words_of zero number = 0
words_of (suc count) number = number % 65536 + words_of count (number / 65536)

-- the one's complement sum of words with this plain sum is all ones
unfoldable pub is_all_ones : ℕ → Bool
is_all_ones sum = nat_lt 0 sum && (sum % 65535 == 0)

-- the words that a sum in the machine's byte order stands for, the low byte of each first, sum to all
-- ones with those of these bytes
abbrev pub sums_to_all_ones : ℕ → List ℕ → Bool
sums_to_all_ones total bytes = is_all_ones (256 * total + word_sum bytes)

-- the plain sum of the words of an address: 4 bytes of version 4, or 16 of version 6
unfoldable pub address_sum : Addr → ℕ
address_sum (V4 number) = words_of 2 number
address_sum (V6 number) = words_of 8 number

-- the plain sum of the words of a pseudo header: source and destination, a zero byte and the protocol,
-- and the length of the segment (RFC 793, section 3.1, Checksum; RFC 768, Checksum Field). The length
-- is added as a number; it is the word of the pseudo header where it fits 16 bits, as it does in
-- every record.
unfoldable pub pseudo_sum : Addr → Addr → ℕ → ℕ → ℕ
pseudo_sum source destination protocol len = address_sum source + address_sum destination + protocol + len
