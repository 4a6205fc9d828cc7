-- Numbers at places of bytes: in a part of the bytes, and by their bytes.
use Rattle.std.proofs.Common.{◌≡◌, ℕ, zero, suc, ◌+◌, ◌-◌, ◌*◌, List, length, take, drop, refl, ap, ◌∙◌, arith}
use Rattle.std.proofs.lemmas.List.{get_or-drop, take_rest}
use Rattle.byteorder.specs.Endian.{big_from, little_from}
use Rattle.edge_io.specs.Bytes.{byte_at, be16, be32}

-- after the first bytes each place is further on by their number
pub little_from-drop : (i n place : ℕ) (bytes : List ℕ) → little_from i n (drop place bytes) ≡ little_from (place + i) n bytes
little_from-drop i zero place bytes = refl
little_from-drop i (suc n) place bytes =
    let byte = get_or-drop place bytes i 0 in
    let rest = little_from-drop (suc i) n place bytes in
    let step : place + suc i ≡ suc (place + i) = omega arith in
    rw (byte, rest, step) refl

pub big_from-drop : (i n place : ℕ) (bytes : List ℕ) → big_from i n (drop place bytes) ≡ big_from (place + i) n bytes
big_from-drop i zero place bytes = refl
big_from-drop i (suc n) place bytes =
    let byte = get_or-drop place bytes i 0 in
    let rest = big_from-drop (suc i) n place bytes in
    let step : place + suc i ≡ suc (place + i) = omega arith in
    rw (byte, rest, step) refl

-- the number at the front of the rest of the bytes, as a slice of them is written
pub little_from-rest : (n place : ℕ) (bytes : List ℕ) → little_from 0 n (take (length bytes - place) (drop place bytes)) ≡ little_from place n bytes
little_from-rest n place bytes =
    let at : place + 0 ≡ place = omega arith in
    ap (little_from 0 n) (take_rest bytes place) ∙ little_from-drop 0 n place bytes ∙ ap (λ (i : ℕ). little_from i n bytes) at

pub big_from-rest : (n place : ℕ) (bytes : List ℕ) → big_from 0 n (take (length bytes - place) (drop place bytes)) ≡ big_from place n bytes
big_from-rest n place bytes =
    let at : place + 0 ≡ place = omega arith in
    ap (big_from 0 n) (take_rest bytes place) ∙ big_from-drop 0 n place bytes ∙ ap (λ (i : ℕ). big_from i n bytes) at

pub ruleset numbers = (little_from-rest, big_from-rest)

-- a number by its bytes
pub be16-bytes : (bytes : List ℕ) (place : ℕ) → be16 bytes place ≡ byte_at bytes place * 256 + byte_at bytes (place + 1)
unfolding be16
be16-bytes bytes place =
    let next : suc place ≡ place + 1 = omega arith in
    let low = ap (byte_at bytes) next in
    omega (arith, low)

-- a number of four bytes by its halves
pub be32-halves : (bytes : List ℕ) (place : ℕ) → be32 bytes place ≡ be16 bytes place * 65536 + be16 bytes (place + 2)
unfolding be16 be32
be32-halves bytes place =
    let third = ap (byte_at bytes) (two_on place) in
    let fourth = ap (byte_at bytes) (three_on place) in
    omega (arith, third, fourth)
  where
    two_on : (n : ℕ) → suc (suc n) ≡ n + 2
    two_on n = omega arith

    three_on : (n : ℕ) → suc (suc (suc n)) ≡ suc (n + 2)
    three_on n = omega arith
