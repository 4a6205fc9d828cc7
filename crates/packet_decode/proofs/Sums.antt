-- Plain sums of words that have the same one's complement sum as far as all ones goes: a carry that
-- is added back in, wider words in place of 16-bit ones, and words whose bytes are exchanged.
use Rattle.std.proofs.Common.{◌≡◌, ℕ, zero, suc, ◌+◌, ◌-◌, ◌*◌, ◌/◌, ◌%◌, ◌^◌, ◌<◌, ◌≤◌, List, [], ◌∷◌, length, take, drop, bit_and, nat_lt, ◌==◌, refl, sym, ap, ◌∙◌, arith, get_or}
use Rattle.std.proofs.lemmas.Bool.Decides.{nat_tests}
use Rattle.std.proofs.Math.Nat.{add-mul-mod_self_right}
use Rattle.std.proofs.lemmas.Nat.{and_mask, div_below}
use Rattle.byteorder.specs.Endian.{little_number}
use Rattle.edge_io.specs.declared.address.Addr.{Addr}
use Rattle.edge_io.specs.declared.address.Addr.TheVariants.{V4, V6}
use Rattle.edge_io.specs.Bytes.{word_sum}
use Rattle.packet_decode.specs.Checksum.{words_of, is_all_ones, sums_to_all_ones, address_sum, pseudo_sum}

-- sums that differ by a multiple of 65535, and are 0 together
pub same_ones : (a b k : ℕ) → a ≡ b + k * 65535 → (b ≡ 0 → a ≡ 0) → is_all_ones a ≡ is_all_ones b
unfolding is_all_ones
same_ones a b k more zero_too =
    let remainders : a % 65535 ≡ b % 65535 = ap (λ n. n % 65535) more ∙ add-mul-mod_self_right b k 65535 in
    let signs : nat_lt 0 a ≡ nat_lt 0 b = grind (arith, nat_tests) in
    rw (signs, remainders) refl

-- a carry out of 16 bits goes back in at the low end
pub carry : (high low : ℕ) → is_all_ones (high * 65536 + low) ≡ is_all_ones (high + low)
carry high low = same_ones (high * 65536 + low) (high + low) high (omega arith) (λ none. omega arith)

-- a sum counts as its parts of 64 and 32 bits
pub parts : (high low : ℕ) → is_all_ones ((high + low / 2 ^ 32) + low % 2 ^ 32) ≡ is_all_ones (high * 2 ^ 64 + low)
parts high low =
    sym (same_ones (high * 2 ^ 64 + low) ((high + low / 2 ^ 32) + low % 2 ^ 32) (high * 281479271743489 + low / 2 ^ 32 * 65537) (omega arith) (λ none. omega arith))

-- a sum of words whose bytes are exchanged: 256 * 256 is 65536
pub exchanged : (sum : ℕ) → is_all_ones (256 * sum) ≡ is_all_ones sum
unfolding is_all_ones
exchanged sum = grind (arith, nat_tests)

-- a sum of 16 bits is folded
pub folded : (sum : ℕ) → sum ≤ 65535 → (sum == 65535) ≡ is_all_ones sum
unfolding is_all_ones
folded sum small = grind (arith, nat_tests)

-- eight bytes as one number, the low one first, count as their four words with exchanged bytes
pub eight : (total : ℕ) (bytes : List ℕ) → 8 ≤ length bytes → sums_to_all_ones (total + little_number 8 (take 8 bytes)) (drop 8 bytes) ≡ sums_to_all_ones total bytes
unfolding word_sum
eight total (a ∷ b ∷ c ∷ d ∷ e ∷ f ∷ g ∷ h ∷ rest) long =
    same_ones _ _ (b + d * 65536 + f * 4294967296 + h * 281474976710656 + (c * 256 + d) + (e * 256 + f) * 65537 + (g * 256 + h) * 4295032833) (omega arith) (λ none. omega arith)
eight total _ long = absurd (omega arith)

-- four bytes as one number
pub four : (total : ℕ) (bytes : List ℕ) → 4 ≤ length bytes → sums_to_all_ones (total + little_number 4 (take 4 bytes)) (drop 4 bytes) ≡ sums_to_all_ones total bytes
unfolding word_sum
four total (a ∷ b ∷ c ∷ d ∷ rest) long = same_ones _ _ (b + d * 65536 + (c * 256 + d)) (omega arith) (λ none. omega arith)
four total _ long = absurd (omega arith)

-- two bytes as one number
pub two : (total : ℕ) (bytes : List ℕ) → 2 ≤ length bytes → sums_to_all_ones (total + little_number 2 (take 2 bytes)) (drop 2 bytes) ≡ sums_to_all_ones total bytes
unfolding word_sum
two total (a ∷ b ∷ rest) long = same_ones _ _ b (omega arith) (λ none. omega arith)
two total _ long = absurd (omega arith)

-- an odd last byte
pub one : (total : ℕ) (bytes : List ℕ) → length bytes ≡ 1 → is_all_ones (total + get_or bytes 0 0) ≡ sums_to_all_ones total bytes
unfolding word_sum
one total (a ∷ []) long = sym (exchanged (total + a)) ∙ ap is_all_ones (omega arith)
one total _ long = absurd (omega arith)

-- no byte is left
pub none_left : (total : ℕ) (bytes : List ℕ) → length bytes ≡ 0 → is_all_ones total ≡ sums_to_all_ones total bytes
unfolding word_sum
none_left total [] long = sym (exchanged total) ∙ ap is_all_ones (omega arith)
none_left total (a ∷ rest) long = absurd (omega arith)

-- a number counts as its words
pub words : (count number more : ℕ) → number < 65536 ^ count → is_all_ones (number + more) ≡ is_all_ones (words_of count number + more)
unfolding words_of
words zero number more small = ap (λ n. is_all_ones (n + more)) (omega arith)
words (suc count) number more small =
    let high : number / 65536 < 65536 ^ count = div_below number 65536 (65536 ^ count) (omega arith) (omega arith) in
    ap is_all_ones (omega arith)
    ∙ carry (number / 65536) (number % 65536 + more)
    ∙ words count (number / 65536) (number % 65536 + more) high
    ∙ ap is_all_ones (omega arith)

-- an address of version 4 counts as its words
pub address_4 : (number more : ℕ) → number < 2 ^ 32 → is_all_ones (number + more) ≡ is_all_ones (address_sum (V4 number) + more)
unfolding address_sum
address_4 number more small = words 2 number more small

-- an address of version 6 counts as its words, also in two halves
pub address_6 : (number more : ℕ) → number < 2 ^ 128 → is_all_ones ((number / 2 ^ 64 + bit_and number (2 ^ 64 - 1)) + more) ≡ is_all_ones (address_sum (V6 number) + more)
unfolding address_sum
address_6 number more small =
    let low : bit_and number (2 ^ 64 - 1) ≡ number % 2 ^ 64 = and_mask number 64 in
    let halves : is_all_ones (number + more) ≡ is_all_ones ((number / 2 ^ 64 + number % 2 ^ 64) + more) =
    same_ones (number + more) ((number / 2 ^ 64 + number % 2 ^ 64) + more) (number / 2 ^ 64 * 281479271743489) (omega arith) (λ none. omega arith) in
    ap (λ n. is_all_ones ((number / 2 ^ 64 + n) + more)) low ∙ sym halves ∙ words 8 number more small

-- a pseudo header counts as its parts, 256 times where they are summed with exchanged bytes
pub pseudo : (source destination : Addr) (protocol len a b more : ℕ)
    → ((rest : ℕ) → is_all_ones (a + rest) ≡ is_all_ones (address_sum source + rest))
    → ((rest : ℕ) → is_all_ones (b + rest) ≡ is_all_ones (address_sum destination + rest))
    → is_all_ones (256 * ((((a + b) + protocol) + len) * 256) + more) ≡ is_all_ones (pseudo_sum source destination protocol len + more)
unfolding pseudo_sum
pseudo source destination protocol len a b more first second =
    same_ones _ (a + (b + (protocol + len + more))) (a + b + protocol + len) (omega arith) (λ none. omega arith)
    ∙ first (b + (protocol + len + more))
    ∙ ap is_all_ones (omega arith)
    ∙ second (address_sum source + (protocol + len + more))
    ∙ ap is_all_ones (omega arith)
