-- Addresses and ports, and the only way to write them.
use Rattle.std.proofs.Common.{◌≡◌, ◌≢◌, ℕ, zero, suc, ◌+◌, ◌*◌, ◌/◌, ◌%◌, ◌^◌, ◌<◌, ◌≤◌, Bool, true, false, not, List, [], ◌∷◌}
use Rattle.std.proofs.Common.{◌++◌, Option, Some, None, is_some, length, get_or, fold, refl, sym, ap, subst, ◌∙◌, inl, inr, arith}
use Rattle.std.proofs.Common.{All, decimal, add-mul, mul_assoc, add_assoc}
use Rattle.std.specs.Prelude.{⊤}
use Rattle.std.proofs.Math.Arith.{mod-mul}
use Rattle.std.specs.Int.{w32, w128, to_be_bytes, from_be_bytes, bytes_high_first, byte_at, byte_worth, sum_through}
use Rattle.std.specs.Net.Addr.{segments_of, octets_of, ipv4_octets, ipv6_segments, ipv6_bits}
use Rattle.std.specs.Net.Grammar.{IsDotted, IsColonHex, IsIpv4Text, IsIpv6Text}
use Rattle.std.specs.declared.net.ipv4_addr.Ipv4Addr.{Ipv4Addr}
use Rattle.std.specs.declared.net.ipv6_addr.Ipv6Addr.{Ipv6Addr}
use Rattle.std.proofs.NetLemmas.Ipv6.{IsDotted-not_colon_hex}
use Rattle.std.proofs.NetLemmas.Theorems.{IsIpv4Text_unique, IsIpv6Text_unique}
use Rattle.std.proofs.NetLemmas.Texts.{AllSegments, IsColonHex-hex_groups_text}
use Rattle.std.proofs.NetLemmas.Alphabet.{IsHexOrColon, All-hex_groups_text}
use Rattle.edge_io.specs.declared.address.Addr.{Addr}
use Rattle.edge_io.specs.declared.address.Addr.TheVariants.{V4, V6}
use Rattle.alert_fast.specs.Fronts.{Lacks, IsWhole, NoWhole}
use Rattle.alert_fast.specs.Line.{dotted_text, colon_text, address_text}
use Rattle.alert_fast.specs.Told.{IsV4, IsV6, IsAddr}

-- the four bytes of an address
abbrev four : ℕ → List ℕ
four n = n / 2 ^ 24 ∷ n / 2 ^ 16 % 256 ∷ n / 2 ^ 8 % 256 ∷ n % 256 ∷ []

dotted_of : (n : ℕ) → IsV4 n → IsDotted (dotted_text n) (four n)
unfolding dotted_text
dotted_of n small = record {
  a = n / 2 ^ 24;
  b = n / 2 ^ 16 % 256;
  c = n / 2 ^ 8 % 256;
  d = n % 256;
  fit = (omega arith, omega arith, omega arith, omega arith);
  value = refl;
  spelled = refl;
}

-- an address as its four bytes make it
abbrev joined : List ℕ → ℕ
joined o = from_be_bytes w32 o

joined_four : (n : ℕ) → IsV4 n → joined (four n) ≡ n
joined_four n small = omega arith

pub v4_only : (word : List ℕ) (a : Ipv4Addr) (other : ℕ) → IsIpv4Text word a → IsV4 other → dotted_text other ≡ word → other ≡ from_be_bytes w32 (ipv4_octets a)
v4_only word a other is small e =
    let b : Ipv4Addr = record { octets = four other } in
    let same = IsIpv4Text_unique word b a (subst (λ (w : List ℕ). IsDotted w (four other)) e (dotted_of other small)) is in
    sym (joined_four other small) ∙ ap (λ (x : Ipv4Addr). from_be_bytes w32 (ipv4_octets x)) same

pub v4_whole : (word : List ℕ) (a : Ipv4Addr) → IsIpv4Text word a → IsWhole IsV4 dotted_text word (from_be_bytes w32 (ipv4_octets a))
unfolding dotted_text
v4_whole word a is =
    let n = joined (is.a ∷ is.b ∷ is.c ∷ is.d ∷ []) in
    let fit = is.fit in
    let first : n / 2 ^ 24 ≡ is.a = omega (arith, fit) in
    let second : n / 2 ^ 16 % 256 ≡ is.b = omega (arith, fit) in
    let third : n / 2 ^ 8 % 256 ≡ is.c = omega (arith, fit) in
    let fourth : n % 256 ≡ is.d = omega (arith, fit) in
    let small : IsV4 n = omega (arith, fit) in
    let same : joined (ipv4_octets a) ≡ n = ap joined is.value in
    record {
      fits = rw same small;
      spelled = rw (same, first, second, third, fourth) (sym is.spelled);
      only = λ other h e. v4_only word a other is h e;
    }

pub v4_none : (word : List ℕ) → ((a : Ipv4Addr) → ¬ (IsIpv4Text word a)) → NoWhole IsV4 dotted_text word
v4_none word none other small e = none (record { octets = four other }) (subst (λ (w : List ℕ). IsDotted w (four other)) e (dotted_of other small))

-- --- version 6

below_256 : (x : ℕ) → x % 256 < 256
below_256 x = omega arith

byte_small : (k n : ℕ) → byte_at k n < 256
byte_small zero n = below_256 n
byte_small (suc k) n = below_256 (n / 256 ^ suc k)

bytes_small : (k n i : ℕ) → get_or (bytes_high_first k n) i 0 < 256
bytes_small zero n i = omega arith
bytes_small (suc k) n zero = byte_small k n
bytes_small (suc k) n (suc i) = bytes_small k n i

segments_small : (xs : List ℕ) → ((i : ℕ) → get_or xs i 0 < 256) → AllSegments (segments_of xs)
segments_small [] h k = omega arith
segments_small (a ∷ []) h k = omega arith
segments_small (a ∷ b ∷ rest) h zero = omega (arith, h 0, h 1)
segments_small (a ∷ b ∷ rest) h (suc k) = segments_small rest (λ i. h (suc (suc i))) k

-- the eight segments of an address
abbrev pub eight : ℕ → List ℕ
eight n = segments_of (to_be_bytes w128 n)

pub eight_small : (n : ℕ) → AllSegments (eight n)
eight_small n = segments_small (to_be_bytes w128 n) (bytes_small 16 n)

colons_of : (n : ℕ) → IsColonHex (colon_text n) (eight n)
unfolding colon_text
colons_of n = IsColonHex-hex_groups_text (eight n) refl (eight_small n)

-- two bytes are one segment, and again two bytes
two_back : (a b : ℕ) → b < 256 → ((a * 256 + b) / 256 ≡ a) × ((a * 256 + b) % 256 ≡ b)
two_back a b small = (omega arith, omega arith)

abbrev IsEven : ℕ → Type 0
IsEven zero = ⊤
IsEven (suc zero) = ⊥
IsEven (suc (suc k)) = IsEven k

octets_back : (k n : ℕ) → IsEven k → octets_of (segments_of (bytes_high_first k n)) ≡ bytes_high_first k n
octets_back zero n even = refl
octets_back (suc zero) n even = absurd even
octets_back (suc (suc k)) n even =
    let first = two_back (byte_at (suc k) n) (byte_at k n) (byte_small k n) in
    let later = octets_back k n even in
    ap (λ (h : ℕ). h ∷ (((byte_at (suc k) n * 256 + byte_at k n) % 256) ∷ octets_of (segments_of (bytes_high_first k n)))) first.0
    ∙ ap (λ (h : ℕ). byte_at (suc k) n ∷ (h ∷ octets_of (segments_of (bytes_high_first k n)))) first.1
    ∙ ap (λ (t : List ℕ). byte_at (suc k) n ∷ (byte_at k n ∷ t)) later

-- bytes, the highest first, are the number again
abbrev onward : ℕ → ℕ → ℕ
onward value byte = value * 256 + byte

power : (k : ℕ) → 256 ^ suc k ≡ 256 * 256 ^ k
power k = omega arith

power_pos : (k : ℕ) → 0 < 256 ^ k
power_pos zero = omega arith
power_pos (suc k) = omega (arith, power_pos k, power k)

high_value : (v k n : ℕ) → fold onward v (bytes_high_first k n) ≡ v * 256 ^ k + n % 256 ^ k
high_value v zero n = omega arith
high_value v (suc k) n =
    let worth : byte_at k n ≡ n / 256 ^ k % 256 =
    elim k as (λ (j : ℕ). byte_at j n ≡ n / 256 ^ j % 256) [ zero ↦ omega arith | suc j ↦ refl ] in
    let split : n % 256 ^ suc k ≡ (n / 256 ^ k % 256) * 256 ^ k + n % 256 ^ k =
    ap (λ (p : ℕ). n % p) (power k) ∙ mod-mul n (omega arith) (power_pos k) in
    let outer : (v * 256 + byte_at k n) * 256 ^ k ≡ v * (256 * 256 ^ k) + byte_at k n * 256 ^ k =
    add-mul (v * 256) (byte_at k n) (256 ^ k) ∙ ap (λ (t : ℕ). t + byte_at k n * 256 ^ k) (mul_assoc v 256 (256 ^ k)) in
    high_value (v * 256 + byte_at k n) k n
    ∙ ap (λ (t : ℕ). t + n % 256 ^ k) outer
    ∙ add_assoc (v * (256 * 256 ^ k)) (byte_at k n * 256 ^ k) (n % 256 ^ k)
    ∙ ap (λ (t : ℕ). v * (256 * 256 ^ k) + t) (ap (λ (b : ℕ). b * 256 ^ k + n % 256 ^ k) worth ∙ sym split)
    ∙ ap (λ (p : ℕ). v * p + n % 256 ^ suc k) (sym (power k))

sixteen : (a b c d e f g h i j k l m n o p : ℕ)
    → from_be_bytes w128 (a ∷ b ∷ c ∷ d ∷ e ∷ f ∷ g ∷ h ∷ i ∷ j ∷ k ∷ l ∷ m ∷ n ∷ o ∷ p ∷ []) ≡
    fold onward 0 (a ∷ b ∷ c ∷ d ∷ e ∷ f ∷ g ∷ h ∷ i ∷ j ∷ k ∷ l ∷ m ∷ n ∷ o ∷ p ∷ [])
sixteen a b c d e f g h i j k l m n o p = omega arith

number_back : (n : ℕ) → IsV6 n → from_be_bytes w128 (octets_of (eight n)) ≡ n
number_back n small =
    let bytes = ap (from_be_bytes w128) (octets_back 16 n tt) in
    let whole : 0 * 256 ^ 16 + n % 256 ^ 16 ≡ n = omega arith in
    bytes ∙ sixteen _ _ _ _ _ _ _ _ _ _ _ _ _ _ _ _ ∙ high_value 0 16 n ∙ whole

pub v6_only : (word : List ℕ) (a : Ipv6Addr) (other : ℕ) → IsIpv6Text word a → IsV6 other → colon_text other ≡ word → other ≡ ipv6_bits a
unfolding ipv6_bits
v6_only word a other is small e =
    let b : Ipv6Addr = record { segments = eight other } in
    let same = IsIpv6Text_unique word b a (subst (λ (w : List ℕ). IsColonHex w (eight other)) e (colons_of other)) is in
    sym (number_back other small) ∙ ap (λ (x : Ipv6Addr). from_be_bytes w128 (octets_of (ipv6_segments x))) same

pub v6_whole : (word : List ℕ) (a : Ipv6Addr) (n : ℕ) → IsIpv6Text word a → n ≡ ipv6_bits a → IsV6 n → colon_text n ≡ word → IsWhole IsV6 colon_text word n
v6_whole word a n is bits small same = record {
  fits = small;
  spelled = same;
  only = λ other h e. v6_only word a other is h e ∙ sym bits;
}

pub v6_none : (word : List ℕ) → ((a : Ipv6Addr) → ¬ (IsIpv6Text word a)) → NoWhole IsV6 colon_text word
v6_none word none other small e = none (record { segments = eight other }) (subst (λ (w : List ℕ). IsColonHex w (eight other)) e (colons_of other))

pub v6_no : (word : List ℕ) (a : Ipv6Addr) (n : ℕ) → IsIpv6Text word a → n ≡ ipv6_bits a → colon_text n ≢ word → NoWhole IsV6 colon_text word
v6_no word a n is bits differs other small e = differs (ap colon_text (bits ∙ sym (v6_only word a other is small e)) ∙ e)

-- --- of either version

apart : (word : List ℕ) (a b : ℕ) → IsV4 a → dotted_text a ≡ word → colon_text b ≡ word → ⊥
apart word a b small e f =
    IsDotted-not_colon_hex word (four a) (eight b) (subst (λ (w : List ℕ). IsDotted w (four a)) e (dotted_of a small)) (subst (λ (w : List ℕ). IsColonHex w (eight b)) f (colons_of b))

pub address_v4 : (word : List ℕ) (n : ℕ) → IsWhole IsV4 dotted_text word n → IsWhole IsAddr address_text word (V4 n)
unfolding address_text
address_v4 word n h = record {
  fits = h.fits;
  spelled = h.spelled;
  only = λ other fits e. elim other as (λ (x : Addr). IsAddr x → address_text x ≡ word → x ≡ V4 n) [
    | V4 b ↦ (λ fits e. ap V4 (h.only b fits e))
    | V6 b ↦ (λ fits e. absurd (apart word n b h.fits h.spelled e))
  ] fits e;
}

pub address_v6 : (word : List ℕ) (n : ℕ) → NoWhole IsV4 dotted_text word → IsWhole IsV6 colon_text word n → IsWhole IsAddr address_text word (V6 n)
unfolding address_text
address_v6 word n nay h = record {
  fits = h.fits;
  spelled = h.spelled;
  only = λ other fits e. elim other as (λ (x : Addr). IsAddr x → address_text x ≡ word → x ≡ V6 n) [
    | V4 b ↦ (λ fits e. absurd (nay b fits e))
    | V6 b ↦ (λ fits e. ap V6 (h.only b fits e))
  ] fits e;
}

pub address_none : (word : List ℕ) → NoWhole IsV4 dotted_text word → NoWhole IsV6 colon_text word → NoWhole IsAddr address_text word
unfolding address_text
address_none word nay none (V4 a) fits e = nay a fits e
address_none word nay none (V6 a) fits e = none a fits e
