-- The texts of times and of addresses of version 4, by their digits.
use Rattle.std.proofs.Common.{◌≡◌, ℕ, ◌+◌, ◌/◌, ◌%◌, ◌<◌, ◌≤◌, List, [], ◌∷◌, ◌++◌, get_or, refl, sym, ap, ◌∙◌, append_assoc, append-nil, arith}
use Rattle.std.specs.Prelude.{decimal}
use Rattle.std.proofs.lemmas.Fmt.{decimal_digit, decimal_step}
use Rattle.alert_fast.specs.Calendar.{date_of}
use Rattle.alert_fast.specs.Pieces.{digits}
use Rattle.alert_fast.specs.Line.{clock_text, dotted_text}
use Rattle.alert_json.specs.Stamps.{full_date_text, timestamp_text}

-- a day has this many nanoseconds
abbrev DAY : ℕ
DAY = 86_400_000_000_000

-- four digits are two and two
pub digits-4 : (number : ℕ) → number < 10000 → digits 4 number ≡ digits 2 (number / 100) ++ digits 2 (number % 100)
unfolding digits
digits-4 number small =
    let first : number / 10 / 10 / 10 % 10 ≡ number / 100 / 10 % 10 = omega arith in
    let second : number / 10 / 10 % 10 ≡ number / 100 % 10 = omega arith in
    let third : number / 10 % 10 ≡ number % 100 / 10 % 10 = omega arith in
    let fourth : number % 10 ≡ number % 100 % 10 = omega arith in
    rw (first, second, third, fourth)

-- the time of a record by its digits and signs
pub timestamp-items : (nanos : ℕ) (year month day hour minute second micro : List ℕ) → year ≡ digits 4 (date_of (nanos / DAY)).year → month ≡ digits 2 (date_of (nanos / DAY)).month
    → day ≡ digits 2 (date_of (nanos / DAY)).day → hour ≡ digits 2 (nanos / 3_600_000_000_000 % 24) → minute ≡ digits 2 (nanos / 60_000_000_000 % 60)
    → second ≡ digits 2 (nanos / 1_000_000_000 % 60) → micro ≡ digits 6 (nanos / 1_000 % 1_000_000)
    → get_or year 0 0 ∷ get_or year 1 0 ∷ get_or year 2 0 ∷ get_or year 3 0 ∷ 45 ∷ get_or month 0 0 ∷ get_or month 1 0 ∷ 45 ∷ get_or day 0 0 ∷ get_or day 1 0 ∷ 84
    ∷ get_or hour 0 0 ∷ get_or hour 1 0 ∷ 58 ∷ get_or minute 0 0 ∷ get_or minute 1 0 ∷ 58 ∷ get_or second 0 0 ∷ get_or second 1 0 ∷ 46
    ∷ get_or micro 0 0 ∷ get_or micro 1 0 ∷ get_or micro 2 0 ∷ get_or micro 3 0 ∷ get_or micro 4 0 ∷ get_or micro 5 0 ∷ 43 ∷ 48 ∷ 48 ∷ 48 ∷ 48 ∷ []
    ≡ timestamp_text nanos
unfolding timestamp_text full_date_text clock_text digits
timestamp-items nanos year month day hour minute second micro y m d h n s u = rw (y, m, d, h, n, s, u) refl

-- a byte in one, two or three digits
pub octet-1 : (octet : ℕ) → octet < 10 → (48 + octet) ∷ [] ≡ decimal octet
octet-1 octet small = sym (decimal_digit octet small)

two-digits : (octet : ℕ) → 10 ≤ octet → octet < 100 → decimal octet ≡ (48 + octet / 10) ∷ (48 + octet % 10) ∷ []
two-digits octet large small =
    decimal_step octet large (omega arith) ∙ ap (λ (x : List ℕ). x ++ ((48 + octet % 10) ∷ [])) (decimal_digit (octet / 10) (omega arith))

pub octet-2 : (octet : ℕ) → 10 ≤ octet → octet < 100 → (48 + octet / 10) ∷ (48 + octet % 10) ∷ [] ≡ decimal octet
octet-2 octet large small = sym (two-digits octet large small)

pub octet-3 : (octet : ℕ) → 100 ≤ octet → octet < 1000 → (48 + octet / 100) ∷ (48 + octet / 10 % 10) ∷ (48 + octet % 10) ∷ [] ≡ decimal octet
octet-3 octet large small =
    let hundreds : octet / 10 / 10 ≡ octet / 100 = omega arith in
    sym (decimal_step octet (omega arith) (omega arith)
    ∙ ap (λ (x : List ℕ). x ++ ((48 + octet % 10) ∷ [])) (two-digits (octet / 10) (omega arith) (omega arith) ∙ ap (λ (n : ℕ). (48 + n) ∷ (48 + octet / 10 % 10) ∷ []) hundreds))

-- the four numbers with dots between them, appended one after another
pub dots-appended : (old a b c d e f new bytes : List ℕ) (address : ℕ)
    → decimal (get_or bytes 0 0) ++ (46 ∷ (decimal (get_or bytes 1 0) ++ (46 ∷ (decimal (get_or bytes 2 0) ++ (46 ∷ (decimal (get_or bytes 3 0) ++ [])))))) ≡ dotted_text address
    → a ≡ old ++ decimal (get_or bytes 0 0) → b ≡ a ++ 46 ∷ [] → c ≡ b ++ decimal (get_or bytes 1 0) → d ≡ c ++ 46 ∷ []
    → e ≡ d ++ decimal (get_or bytes 2 0) → f ≡ e ++ 46 ∷ [] → new ≡ f ++ decimal (get_or bytes 3 0) → new ≡ old ++ dotted_text address
dots-appended old a b c d e f new bytes address whole h1 h2 h3 h4 h5 h6 h7 =
    rw (h7, h6, h5, h4, h3, h2, h1) (rw (sym whole) (simp (append_assoc, append-nil)))
