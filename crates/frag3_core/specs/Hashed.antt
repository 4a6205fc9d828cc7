-- What of a key is hashed: its numbers, each in its bits of a row of whole words, the lowest byte first.
--
-- Keys of one version that differ have different rows, and rows of the two versions have different lengths.
-- To try it on: the key of 0.0.0.1, 0.0.0.2, identification 3 and protocol 4 has the row of 16 bytes
-- 1 0 0 0, 2 0 0 0, 3 0 0 0, 4 0 0 0.
use Rattle.std.specs.Prelude.{ℕ, ◌+◌, ◌*◌, ◌^◌, List, ◌++◌, Option, None, Some}
use Rattle.std.specs.Hash as fed
use Rattle.edge_io.specs.declared.address.Addr.{Addr}
use Rattle.edge_io.specs.declared.address.Addr.TheVariants.{V4, V6}
use Rattle.frag3_core.specs.declared.key.DatagramKey.{DatagramKey}

-- the numbers of two addresses, where both are of version 4
abbrev pub pair_of_version_4 : Addr → Addr → Option (ℕ × ℕ)
pair_of_version_4 (V4 src) (V4 dst) = Some (src, dst)
pair_of_version_4 src dst = None

-- a key of version 4, as the number that its row of 16 bytes is
abbrev pub short_row : ℕ → ℕ → ℕ → ℕ → ℕ
short_row src dst id protocol = src + dst * 2 ^ 32 + id * 2 ^ 64 + protocol * 2 ^ 96

-- the number of an address
abbrev pub number_of : Addr → ℕ
number_of (V4 number) = number
number_of (V6 number) = number

-- what a key has beside its addresses, as the number that the last 8 bytes of a long row are
abbrev pub last_word : ℕ → ℕ → ℕ
last_word id protocol = id + protocol * 2 ^ 32

-- the writes of a key, where these are its addresses of version 4, if they are
abbrev pub writes_with : DatagramKey → Option (ℕ × ℕ) → List (List ℕ)
writes_with key (Some pair) = fed.u128 (short_row pair.0 pair.1 key.id key.protocol)
writes_with key None =
    fed.u128 (number_of key.src) ++ (fed.u128 (number_of key.dst) ++ fed.u64 (last_word key.id key.protocol))

-- what of a key is hashed, a list of bytes a write
abbrev pub key_writes : DatagramKey → List (List ℕ)
key_writes key = writes_with key (pair_of_version_4 key.src key.dst)
