-- Texts of digits, of addresses and of printable characters are ASCII.
use Rattle.std.proofs.Common.{ℕ, zero, suc, ◌+◌, ◌/◌, ◌%◌, ◌<◌, ◌^◌, List, [], ◌∷◌, ◌++◌, length, get_or, All, arith, inl, inr}
use Rattle.std.specs.Prelude.{codes, decimal, IsAscii}
use Rattle.std.specs.Int.{w128, to_be_bytes, bytes_high_first, byte_at}
use Rattle.std.specs.Net.Addr.{segments_of}
use Rattle.std.proofs.lemmas.Bool.{cases_lt}
use Rattle.std.proofs.lemmas.Bool.Decides.{nat_tests}
use Rattle.std.proofs.lemmas.Fmt.{IsAscii-decimal}
use Rattle.std.proofs.lemmas.List.{get_or_past}
use Rattle.std.proofs.lemmas.Str.{IsAscii-append}
use Rattle.std.proofs.lemmas.Str.Ascii.{IsAscii-nil}
use Rattle.std.proofs.NetLemmas.Alphabet.{IsHexOrColon, All-hex_groups_text}
use Rattle.std.proofs.NetLemmas.Texts.{AllSegments}
use Rattle.edge_io.specs.declared.address.Addr.TheVariants.{V4, V6}
use Rattle.alert_fast.specs.Calendar.{CivilDate, date_of}
use Rattle.alert_fast.specs.Pieces.{digits}
use Rattle.alert_fast.specs.Line.{clock_text, dotted_text, colon_text, address_text}
use Rattle.alert_json.specs.Texts.{is_printable, printable, printable_text}
use Rattle.alert_json.specs.Stamps.{full_date_text, timestamp_text}

pub IsAscii-cons : (x : ℕ) (xs : List ℕ) → x < 128 → IsAscii xs → IsAscii (x ∷ xs)
IsAscii-cons x xs small rest zero = small
IsAscii-cons x xs small rest (suc i) = rest i

-- in a record, so that antt reads the lists off a goal
record Plain (xs : List ℕ) : Type 0 where
  ascii : IsAscii xs

join : {xs ys : List ℕ} → Plain xs → Plain ys → Plain (xs ++ ys)
join {xs} {ys} h k = record { ascii = IsAscii-append xs ys h.ascii k.ascii }

mark : {xs : List ℕ} (x : ℕ) → x < 128 → Plain xs → Plain (x ∷ xs)
mark {xs} x small h = record { ascii = IsAscii-cons x xs small h.ascii }

from_all : (xs : List ℕ) → All (λ (b : ℕ). b < 128) xs → IsAscii xs
from_all xs h i = elim (cases_lt i (length xs)) [ inl lt ↦ h i 0 lt | inr le ↦ omega (arith, get_or_past xs i 0 le) ]

from_hex : (xs : List ℕ) → All IsHexOrColon xs → IsAscii xs
from_hex xs h = from_all xs (λ i d lt. elim (h i d lt) [ inl r ↦ omega (arith, r.1) | inr r ↦ omega (arith, r.1) ])

below_256 : (x : ℕ) → x % 256 < 256
below_256 x = omega arith

byte_small : (k n : ℕ) → byte_at k n < 256
byte_small zero n = below_256 n
byte_small (suc k) n = below_256 (n / 256 ^ suc k)

bytes_small : (k n i : ℕ) → get_or (bytes_high_first k n) i 0 < 256
bytes_small zero n i = omega arith
bytes_small (suc k) n zero = byte_small k n
bytes_small (suc k) n (suc i) = bytes_small k n i

segments_small : (xs : List ℕ) → ((i : ℕ) → get_or xs i 0 < 256) → AllSegments (segments_of xs)
segments_small [] h k = omega arith
segments_small (a ∷ []) h k = omega arith
segments_small (a ∷ b ∷ rest) h zero = omega (arith, h 0, h 1)
segments_small (a ∷ b ∷ rest) h (suc k) = segments_small rest (λ i. h (suc (suc i))) k

pub IsAscii-colon : (address : ℕ) → IsAscii (address_text (V6 address))
unfolding address_text colon_text
IsAscii-colon address = from_hex _ (All-hex_groups_text _ (segments_small (to_be_bytes w128 address) (bytes_small 16 address)))

sign : (x : ℕ) → x < 128 → Plain (x ∷ [])
sign x small = record { ascii = IsAscii-cons x [] small IsAscii-nil }

pub IsAscii-dotted : (address : ℕ) → address < 2 ^ 32 → IsAscii (address_text (V4 address))
unfolding address_text dotted_text
IsAscii-dotted address small =
    let part : (n : ℕ) → n < 2 ^ 64 → Plain (decimal n) = λ n h. record { ascii = IsAscii-decimal n h } in
    let a = part (address / 2 ^ 24) (omega arith) in
    let b = part (address / 2 ^ 16 % 256) (omega arith) in
    let c = part (address / 2 ^ 8 % 256) (omega arith) in
    let d = part (address % 256) (omega arith) in
    let dot = sign 46 (omega arith) in
    (join (join (join (join (join (join a dot) b) dot) c) dot) d).ascii

digits_ascii : (count number : ℕ) → IsAscii (digits count number)
unfolding digits
digits_ascii zero number = IsAscii-nil
digits_ascii (suc count) number =
    IsAscii-append (digits count (number / 10)) ((48 + number % 10) ∷ []) (digits_ascii count (number / 10)) (IsAscii-cons (48 + number % 10) [] (omega arith) IsAscii-nil)

shown : (count number : ℕ) → Plain (digits count number)
shown count number = record { ascii = digits_ascii count number }

date_ascii : (date : CivilDate) → Plain (full_date_text date)
unfolding full_date_text
date_ascii date =
    let dash = sign 45 (omega arith) in
    join (join (join (join (shown 4 date.year) dash) (shown 2 date.month)) dash) (shown 2 date.day)

clock_ascii : (nanos : ℕ) → Plain (clock_text nanos)
unfolding clock_text
clock_ascii nanos =
    let colon = sign 58 (omega arith) in
    let dot = sign 46 (omega arith) in
    let hour = shown 2 (nanos / 3_600_000_000_000 % 24) in
    let minute = shown 2 (nanos / 60_000_000_000 % 60) in
    let second = shown 2 (nanos / 1_000_000_000 % 60) in
    join (join (join (join (join (join hour colon) minute) colon) second) dot) (shown 6 (nanos / 1_000 % 1_000_000))

zone_ascii : Plain (codes "+0000")
zone_ascii =
    let zero_digit : 48 < 128 = omega arith in
    mark 43 (omega arith) (mark 48 zero_digit (mark 48 zero_digit (mark 48 zero_digit (sign 48 zero_digit))))

pub IsAscii-timestamp : (nanos : ℕ) → IsAscii (timestamp_text nanos)
unfolding timestamp_text
IsAscii-timestamp nanos =
    let letter = sign 84 (omega arith) in
    (join (join (join (date_ascii (date_of (nanos / 86_400_000_000_000))) letter) (clock_ascii nanos)) zone_ascii).ascii

printable_small : (byte : ℕ) → printable byte < 128
unfolding printable is_printable
printable_small byte = grind (arith, nat_tests)

pub IsAscii-printable : (payload : List ℕ) → IsAscii (printable_text payload)
IsAscii-printable [] = IsAscii-nil
IsAscii-printable (byte ∷ bytes) = IsAscii-cons _ _ (printable_small byte) (IsAscii-printable bytes)
