-- Numbers of `width` bytes each: what one list of bytes is split into, and what is read of it.
use Rattle.std.proofs.Common.{◌≡◌, ℕ, zero, suc, ◌+◌, ◌*◌, ◌/◌, ◌%◌, ◌^◌, ◌<◌, ◌≤◌, List, [], ◌∷◌, ◌++◌, length, take, drop, get_or, slice_index, refl, sym, ap, ◌∙◌, append_assoc, arith}
use Rattle.std.proofs.Math.Nat.{div-one, mul-suc, mul_assoc, mul-add-div_right, mul-add-mod_self_right, mod-eq_of_lt, one-le-pow, pow-succ'}
use Rattle.std.proofs.Math.Seq.{drop-cons}
use Rattle.std.proofs.lemmas.Nat.{div-mul-add}
use Rattle.std.proofs.lemmas.List.{drop_at, drop_all, drop-drop, get_or-drop, length-take, length-drop, take-append-drop, take_all}
use Rattle.std.proofs.lemmas.Grind.{get_or_default_zero}
use Rattle.std.specs.Int.{byte_at, bytes_high_first}
use Rattle.byteorder.specs.Endian.{big_from, big_number, IsRead}
use Rattle.byteorder.specs.Numbers.{big_from-cons, big_from-lt, big_from-take, big_number-reads_back, length-bytes_high_first}
use Rattle.unified2_out.specs.Records.{numbers, AllFit}

-- a list of bytes
abbrev pub AreBytes : List ℕ → Type 0
AreBytes bytes = (k : ℕ) → slice_index bytes k < 256

pub bytes-take : (n : ℕ) (bytes : List ℕ) → AreBytes bytes → AreBytes (take n bytes)
bytes-take zero bytes small k = omega arith
bytes-take (suc n) [] small k = omega arith
bytes-take (suc n) (byte ∷ bytes) small zero = small zero
bytes-take (suc n) (byte ∷ bytes) small (suc k) = bytes-take n bytes (λ j. small (suc j)) k

pub bytes-drop : (n : ℕ) (bytes : List ℕ) → AreBytes bytes → AreBytes (drop n bytes)
bytes-drop n bytes small k = omega (arith, get_or-drop n bytes k 0, small (n + k))

pub all-bytes : (bytes : List ℕ) → AreBytes bytes → AllFit 1 bytes
all-bytes bytes small k d h = omega (arith, get_or_default_zero bytes k d h, small k)

-- a byte of a number, by its place
byte_at-pow : (k number : ℕ) → byte_at k number ≡ number / 256 ^ k % 256
byte_at-pow zero number = ap (λ (n : ℕ). n % 256) (sym (div-one number))
byte_at-pow (suc k) number = refl

-- a power of 256 is above zero
pow_above : (n : ℕ) → zero < 256 ^ n
pow_above n = let h = one-le-pow n 256 (omega arith) in omega arith

-- what a number has above its lowest bytes doesn't show in them
bytes-above : (n high low : ℕ) → bytes_high_first n (high * 256 ^ n + low) ≡ bytes_high_first n low
bytes-above zero high low = refl
bytes-above (suc n) high low =
    let moved : high * 256 ^ suc n + low ≡ high * 256 * 256 ^ n + low =
    ap (λ (x : ℕ). x + low) (ap (λ (x : ℕ). high * x) (pow-succ' 256 n) ∙ sym (mul_assoc high 256 (256 ^ n))) in
    let top : byte_at n (high * 256 * 256 ^ n + low) ≡ byte_at n low =
    byte_at-pow n (high * 256 * 256 ^ n + low)
    ∙ ap (λ (x : ℕ). x % 256) (mul-add-div_right (pow_above n) (high * 256) low)
    ∙ mul-add-mod_self_right high 256 (low / 256 ^ n)
    ∙ sym (byte_at-pow n low) in
    let rest = bytes-above n (high * 256) low in
    ap (bytes_high_first (suc n)) moved ∙ rw (top, rest) refl

-- four bytes don't show what a number has above 2^32
pub words-modulo : (number : ℕ) → bytes_high_first 4 (number % 4294967296) ≡ bytes_high_first 4 number
words-modulo number =
    let parts : number / 4294967296 * 256 ^ 4 + number % 4294967296 ≡ number = omega arith in
    sym (bytes-above 4 (number / 4294967296) (number % 4294967296)) ∙ ap (bytes_high_first 4) parts

-- the bytes of the number that bytes are
pub bytes-number : (n : ℕ) (bytes : List ℕ) → AreBytes bytes → length bytes ≡ n → bytes_high_first n (big_from 0 n bytes) ≡ bytes
bytes-number zero [] small size = refl
bytes-number zero (byte ∷ bytes) small size = absurd (omega arith)
bytes-number (suc n) [] small size = absurd (omega arith)
bytes-number (suc n) (byte ∷ bytes) small size =
    let low = big_from 0 n bytes in
    let rest = bytes-number n bytes (λ k. small (suc k)) (omega arith) in
    let fits : low < 256 ^ n = big_from-lt 0 n bytes (λ k. small (suc k)) in
    let top : byte_at n (byte * 256 ^ n + low) ≡ byte =
    byte_at-pow n (byte * 256 ^ n + low) ∙ ap (λ (x : ℕ). x % 256) (div-mul-add byte (256 ^ n) low fits) ∙ mod-eq_of_lt (small 0) in
    ap (λ (x : ℕ). bytes_high_first (suc n) (byte * 256 ^ n + x)) (big_from-cons 0 n byte bytes)
    ∙ rw (top, bytes-above n byte low, rest) refl

-- the bytes of the number that the first bytes are
pub bytes-first : (n : ℕ) (bytes : List ℕ) → AreBytes bytes → n ≤ length bytes → bytes_high_first n (big_number n bytes) ≡ take n bytes
bytes-first n bytes small long =
    let size : length (take n bytes) ≡ n = omega (arith, length-take n bytes) in
    ap (bytes_high_first n) (sym (big_from-take 0 n n bytes (omega arith)))
    ∙ bytes-number n (take n bytes) (bytes-take n bytes small) size

-- the numbers that bytes are read as are these bytes
pub numbers-read : (width : ℕ) (bytes values : List ℕ) → AreBytes bytes → length bytes ≡ width * length values → IsRead big_number width bytes values → numbers width values ≡ bytes
numbers-read width bytes [] small size read =
    let none : width * 0 ≡ 0 = omega arith in
    take_all 0 bytes (omega arith)
numbers-read width bytes (value ∷ values) small size read =
    let more : width * suc (length values) ≡ width * length values + width = mul-suc width (length values) in
    let start : width * 0 ≡ 0 = omega arith in
    let first : value ≡ big_number width bytes = read 0 (omega arith) ∙ ap (λ (n : ℕ). big_number width (drop n bytes)) start in
    let front : bytes_high_first width value ≡ take width bytes =
    ap (bytes_high_first width) first ∙ bytes-first width bytes small (omega arith) in
    let read_after : IsRead big_number width (drop width bytes) values =
    λ (k : ℕ) (h : k < length values).
    read (suc k) (omega arith)
    ∙ ap (λ (n : ℕ). big_number width (drop n bytes)) (let e = mul-suc width k in omega arith)
    ∙ ap (big_number width) (sym (drop-drop (width * k) width bytes)) in
    let after = numbers-read width (drop width bytes) values (bytes-drop width bytes small) (omega (arith, length-drop width bytes)) read_after in
    rw (front, after) (take-append-drop width bytes)

-- numbers that are read of bytes fit
pub numbers-fit : (width : ℕ) (bytes values : List ℕ) → AreBytes bytes → IsRead big_number width bytes values → AllFit width values
numbers-fit width bytes values small read k d h =
    let fits = big_from-lt 0 width (drop (width * k) bytes) (bytes-drop (width * k) bytes small) in
    omega (arith, read k h, get_or_default_zero values k d h)

-- two numbers that fit, with the bytes after them, are equal where their bytes are
pub number-split : (width first second : ℕ) (rest more : List ℕ) → first < 256 ^ width → second < 256 ^ width
    → bytes_high_first width first ++ rest ≡ bytes_high_first width second ++ more → (first ≡ second) × (rest ≡ more)
number-split width first second rest more fits as_well same = (
  sym (big_number-reads_back width first rest fits)
      ∙ ap (big_from 0 width) same
      ∙ big_number-reads_back width second more as_well,
  sym (drop_at (bytes_high_first width first) rest width (length-bytes_high_first width first))
      ∙ ap (drop width) same
      ∙ drop_at (bytes_high_first width second) more width (length-bytes_high_first width second),
)

-- two lists of numbers that fit, with the bytes after them, are equal where their bytes are
pub numbers-split : (width : ℕ) (firsts seconds rest more : List ℕ) → AllFit width firsts → AllFit width seconds → length firsts ≡ length seconds
    → numbers width firsts ++ rest ≡ numbers width seconds ++ more → (firsts ≡ seconds) × (rest ≡ more)
numbers-split width [] [] rest more fit as_well sizes same = (refl, same)
numbers-split width [] (second ∷ seconds) rest more fit as_well sizes same = absurd (omega arith)
numbers-split width (first ∷ firsts) [] rest more fit as_well sizes same = absurd (omega arith)
numbers-split width (first ∷ firsts) (second ∷ seconds) rest more fit as_well sizes same =
    let moved = sym (append_assoc (bytes_high_first width first) (numbers width firsts) rest) ∙ same ∙ append_assoc (bytes_high_first width second) (numbers width seconds) more in
    let heads = number-split width first second (numbers width firsts ++ rest) (numbers width seconds ++ more) (fit 0 0 (omega arith)) (as_well 0 0 (omega arith)) moved in
    let tails = numbers-split width firsts seconds rest more (λ k d h. fit (suc k) d (omega arith)) (λ k d h. as_well (suc k) d (omega arith)) (omega arith) heads.1 in
    (rw (heads.0, tails.0) refl, tails.1)

-- the elements at this many places of a list, from a place on
abbrev pub places : ℕ → ℕ → List ℕ → List ℕ
places place zero values = []
places place (suc count) values = get_or values place 0 ∷ places (suc place) count values

-- up to its end these are the rest of the list
pub places-rest : (place count : ℕ) (values : List ℕ) → place + count ≡ length values → places place count values ≡ drop place values
places-rest place zero values all = sym (drop_all place values (omega arith))
places-rest place (suc count) values all =
    ap (λ (rest : List ℕ). get_or values place 0 ∷ rest) (places-rest (suc place) count values (omega arith))
    ∙ sym (drop-cons values place 0 (omega arith))
