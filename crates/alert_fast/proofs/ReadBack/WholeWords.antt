-- The number that digits spell, and the only way to write it.
use Rattle.std.proofs.Common.{◌≡◌, ◌≢◌, ℕ, zero, suc, ◌+◌, ◌-◌, ◌*◌, ◌/◌, ◌%◌, ◌^◌, ◌<◌, ◌≤◌, Bool, false, List, [], ◌∷◌, ◌++◌, length, fold, refl, sym, ap, ◌∙◌, arith, decimal}
use Rattle.std.specs.Prelude.{⊤}
use Rattle.std.specs.Str.Parse.{AllDigits, digits_value, digits_value_after}
use Rattle.std.specs.Char.{digit_value, is_ascii_digit}
use Rattle.std.proofs.lemmas.Bool.Decides.{nat_tests}
use Rattle.std.proofs.lemmas.Fmt.{decimal_is_IsNumeral}
use Rattle.alert_fast.specs.Fronts.{Lacks, IsWhole, NoWhole}
use Rattle.alert_fast.specs.Pieces.{digits}
use Rattle.alert_fast.specs.Words.{read_value, IsNumber, IsPort, IsTwo, IsMicros, IsNoDigit}
use Rattle.alert_fast.proofs.PaddedDigits.{digits-2, digits-3, digits-6}
use Rattle.alert_fast.proofs.ReadBack.Fronts.{lacks-append}

abbrev step : ℕ → ℕ → ℕ
step value digit = (10 * value + (digit - 48)) % 2 ^ 32

-- digits make a number larger
digits_value_after-least : (n : ℕ) (ds : List ℕ) → n ≤ digits_value_after 10 n ds
digits_value_after-least n [] = omega arith
digits_value_after-least n (d ∷ ds) = omega (arith, digits_value_after-least (n * 10 + digit_value d) ds)

digit_value-digit : (d : ℕ) → digit_value d < 10 → digit_value d ≡ d - 48
digit_value-digit d h = grind (arith, nat_tests)

after_digits : (n : ℕ) (ds : List ℕ) → AllDigits 10 ds → digits_value_after 10 n ds < 2 ^ 32 → fold step n ds ≡ digits_value_after 10 n ds
after_digits n [] all small = refl
after_digits n (d ∷ ds) all small =
    let own = digit_value-digit d all.0 in
    let least = digits_value_after-least (n * 10 + digit_value d) ds in
    let next : step n d ≡ n * 10 + digit_value d = omega (arith, own, least, small) in
    ap (λ (v : ℕ). fold step v ds) next ∙ after_digits (n * 10 + digit_value d) ds all.1 small

-- a number is what its digits spell
pub value_of_decimal : (n : ℕ) → n < 2 ^ 32 → read_value (decimal n) ≡ n
unfolding read_value
value_of_decimal n small =
    let is = decimal_is_IsNumeral n (omega arith) in
    after_digits 0 (decimal n) is.0.1 (omega (arith, is.1)) ∙ is.1

pub value_of_port : (n : ℕ) → n < 2 ^ 16 → read_value (decimal n) ≡ n
value_of_port n small = value_of_decimal n (omega (arith, small))

pub value_of_two : (n : ℕ) → n < 100 → read_value (digits 2 n) ≡ n
unfolding read_value
value_of_two n small = rw (digits-2 n small) (omega arith)

three_digits : (v n : ℕ) → v < 1000 → n < 1000 → fold step v (digits 3 n) ≡ 1000 * v + n
three_digits v n h small = rw (digits-3 n small) (omega arith)

fold-append : (v : ℕ) (x y : List ℕ) → fold step v (x ++ y) ≡ fold step (fold step v x) y
fold-append v [] y = refl
fold-append v (a ∷ x) y = fold-append (step v a) x y

pub value_of_three : (n : ℕ) → n < 1000 → read_value (digits 3 n) ≡ n
unfolding read_value
value_of_three n small =
    let same : 1000 * 0 + n ≡ n = omega arith in
    three_digits 0 n (omega arith) small ∙ same

pub value_of_six : (n : ℕ) → n < 1_000_000 → read_value (digits 6 n) ≡ n
unfolding read_value
value_of_six n small =
    let high : n / 1000 < 1000 = omega arith in
    let low : n % 1000 < 1000 = omega arith in
    let same : 1000 * 0 + n / 1000 ≡ n / 1000 = omega arith in
    let first = three_digits 0 (n / 1000) (omega arith) high ∙ same in
    let whole : 1000 * (n / 1000) + n % 1000 ≡ n = omega arith in
    ap (fold step 0) (digits-6 n small) ∙ fold-append 0 (digits 3 (n / 1000)) (digits 3 (n % 1000))
    ∙ ap (λ (v : ℕ). fold step v (digits 3 (n % 1000))) first
    ∙ three_digits (n / 1000) (n % 1000) high low ∙ whole

-- digits are no other bytes
not_digit : (byte : ℕ) → IsNoDigit byte → (d : ℕ) → d < 10 → 48 + d ≢ byte
not_digit byte nay d small e = absurd (grind (arith, nat_tests))

pub lacks_digits : (byte : ℕ) → IsNoDigit byte → (count n : ℕ) → Lacks byte (digits count n)
unfolding digits
lacks_digits byte nay zero n = tt
lacks_digits byte nay (suc count) n = lacks-append byte (digits count (n / 10)) _ (lacks_digits byte nay count (n / 10)) (not_digit byte nay (n % 10) (omega arith), tt)

pub free_two : (byte : ℕ) → IsNoDigit byte → (n : ℕ) → IsTwo n → Lacks byte (digits 2 n)
free_two byte nay n h = lacks_digits byte nay 2 n

pub free_six : (byte : ℕ) → IsNoDigit byte → (n : ℕ) → IsMicros n → Lacks byte (digits 6 n)
free_six byte nay n h = lacks_digits byte nay 6 n

lacks_all : (byte : ℕ) → IsNoDigit byte → (ds : List ℕ) → AllDigits 10 ds → Lacks byte ds
lacks_all byte nay [] all = tt
lacks_all byte nay (d ∷ ds) all = (λ e. absurd (grind (arith, nat_tests)), lacks_all byte nay ds all.1)

pub free_number : (byte : ℕ) → IsNoDigit byte → (n : ℕ) → IsNumber n → Lacks byte (decimal n)
free_number byte nay n h = lacks_all byte nay (decimal n) (decimal_is_IsNumeral n (omega arith)).0.1

module _ (Fits : ℕ → Type 0) (spell : ℕ → List ℕ) (back : (n : ℕ) → Fits n → read_value (spell n) ≡ n) where
  -- what is written so is the value of the digits
  pub whole : (word : List ℕ) (value : ℕ) → Fits value → spell value ≡ word → IsWhole Fits spell word value
  whole word value fits same = record {
    fits = fits;
    spelled = same;
    only = λ other h e. sym (back other h) ∙ ap read_value (e ∙ sym same) ∙ back value fits;
  }

  pub no_whole : (word : List ℕ) (value : ℕ) → ((n : ℕ) → Fits n → n ≡ read_value word → n ≡ value) → spell value ≢ word → NoWhole Fits spell word
  no_whole word value read differs other h e =
      let same = read other h (sym (back other h) ∙ ap read_value e) in
      differs (ap spell (sym same) ∙ e)
