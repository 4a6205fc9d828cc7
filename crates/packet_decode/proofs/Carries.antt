-- A one's complement sum with its carries is all ones exactly where the plain sum says so.
use Rattle.std.proofs.Common.{◌≡◌, ℕ, ◌+◌, ◌-◌, ◌*◌, ◌<◌, ◌≤◌, List, [], ◌∷◌, get_or, suc, nat_lt, ◌==◌, if◌then◌else◌, refl, sym, ap, ◌∙◌, arith, ⊎_elim, add-zero}
use Rattle.std.proofs.lemmas.Bool.{cases_lt, lt-ltb, le-ltb}
use Rattle.edge_io.specs.Bytes.{word_sum}
use Rattle.packet_decode.specs.Checksum.{is_all_ones}
use Rattle.packet_decode.proofs.Sums.{same_ones, folded}

-- one's complement addition of two 16-bit words: a carry out of the top comes back in at the low end
unfoldable pub ones_add : ℕ → ℕ → ℕ
ones_add a b = if nat_lt (a + b) 65536 then a + b else (a + b) - 65535

-- the one's complement sum of the 16-bit words of these bytes
unfoldable pub ones_sum : List ℕ → ℕ
ones_sum [] = 0
ones_sum (high ∷ []) = ones_add (high * 256) 0
ones_sum (high ∷ low ∷ rest) = ones_add (high * 256 + low) (ones_sum rest)

-- two words, added with their carry
added : (a b more : ℕ) → is_all_ones (ones_add a b + more) ≡ is_all_ones (a + b + more)
unfolding ones_add
added a b more =
    ⊎_elim
    (λ small. rw (lt-ltb (a + b) 65536 small) refl)
    (λ large. rw (le-ltb (a + b) 65536 large) (sym (same_ones (a + b + more) (a + b - 65535 + more) 1 (omega arith) (λ none. omega arith))))
    (cases_lt (a + b) 65536)

-- a sum of two words is a word
fits : (a b : ℕ) → a ≤ 65535 → b ≤ 65535 → ones_add a b ≤ 65535
unfolding ones_add
fits a b first second =
    ⊎_elim
    (λ small. rw (lt-ltb (a + b) 65536 small) (omega arith))
    (λ large. rw (le-ltb (a + b) 65536 large) (omega arith))
    (cases_lt (a + b) 65536)

-- words, added with their carries
same_sum : (bytes : List ℕ) (more : ℕ) → is_all_ones (ones_sum bytes + more) ≡ is_all_ones (word_sum bytes + more)
unfolding ones_sum word_sum
same_sum [] more = refl
same_sum (high ∷ []) more = added (high * 256) 0 more ∙ ap is_all_ones (omega arith)
same_sum (high ∷ low ∷ rest) more =
    added (high * 256 + low) (ones_sum rest) more
    ∙ ap is_all_ones (omega arith)
    ∙ same_sum rest (high * 256 + low + more)
    ∙ ap is_all_ones (omega arith)

-- a sum of words is a word
sum_fits : (bytes : List ℕ) → ((i : ℕ) → get_or bytes i 0 < 256) → ones_sum bytes ≤ 65535
unfolding ones_sum
sum_fits [] fit = omega arith
sum_fits (high ∷ []) fit = fits (high * 256) 0 (omega (arith, fit 0)) (omega arith)
sum_fits (high ∷ low ∷ rest) fit = fits (high * 256 + low) (ones_sum rest) (omega (arith, fit 0, fit 1)) (sum_fits rest (λ i. fit (suc (suc i))))

pub ones_sum-is_all_ones : (bytes : List ℕ) → ((i : ℕ) → get_or bytes i 0 < 256) → (ones_sum bytes == 65535) ≡ is_all_ones (word_sum bytes)
ones_sum-is_all_ones bytes fit =
    folded (ones_sum bytes) (sum_fits bytes fit)
    ∙ ap is_all_ones (sym (add-zero (ones_sum bytes)))
    ∙ same_sum bytes 0
    ∙ ap is_all_ones (add-zero (word_sum bytes))
