-- The words of bytes: those of their front and of their rest.
use Rattle.std.proofs.Common.{◌≡◌, ℕ, ◌+◌, ◌*◌, ◌≤◌, List, [], ◌∷◌, length, take, drop, refl, arith, get_or}
use Rattle.byteorder.specs.Endian.{big_number}
use Rattle.edge_io.specs.Bytes.{word_sum}

-- two bytes as one number are a word
pub two : (total : ℕ) (bytes : List ℕ) → 2 ≤ length bytes → (total + big_number 2 (take 2 bytes)) + word_sum (drop 2 bytes) ≡ total + word_sum bytes
unfolding word_sum
two total (a ∷ b ∷ rest) long = omega arith
two total _ long = absurd (omega arith)

-- an odd last byte
pub last : (bytes : List ℕ) → length bytes ≡ 1 → word_sum bytes ≡ get_or bytes 0 0 * 256
unfolding word_sum
last (a ∷ []) one = refl
last _ one = absurd (omega arith)

-- nothing is left
pub nothing : (bytes : List ℕ) → length bytes ≡ 0 → word_sum bytes ≡ 0
unfolding word_sum
nothing [] zero_long = refl
nothing (a ∷ rest) zero_long = absurd (omega arith)
