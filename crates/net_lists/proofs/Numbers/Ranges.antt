-- A number that is held at a cap past its bounds is refused as the number itself is.
use Rattle.std.proofs.Common.{◌≡◌, ℕ, ◌<◌, min, List, Option, Some, None, refl, sym, ap, ◌∙◌, arith, ℤ, pos, neg_ℤ, ◌<ℤ◌}
use Rattle.std.specs.Option.{option_map, option_and_then}
use Rattle.std.proofs.lemmas.Bool.Decides.{nat_tests}
use Rattle.std.proofs.lemmas.Int.{ints}
use Rattle.net_lists.specs.Numbers.{whole_number, kept_in, number_in, after_minus, number_signed, signed_number, signed_kept_in, signed_in}

kept_in-min : (least most cap number : ℕ) → most < cap → kept_in least most (min number cap) ≡ kept_in least most number
kept_in-min least most cap number h = grind (arith, nat_tests)

kept-mapped : (least most cap : ℕ) → most < cap → (o : Option ℕ) → option_and_then (kept_in least most) (option_map (λ number. min number cap) o) ≡ option_and_then (kept_in least most) o
kept-mapped least most cap h None = refl
kept-mapped least most cap h (Some number) = kept_in-min least most cap number h

-- a number that was read with a cap
pub number_in-some : (least most cap number : ℕ) (text : List ℕ) → most < cap → Some number ≡ option_map (λ n. min n cap) (whole_number text) → kept_in least most number ≡ number_in least most text
unfolding number_in
number_in-some least most cap number text h e = ap (option_and_then (kept_in least most)) e ∙ kept-mapped least most cap h (whole_number text)

pub number_in-none : (least most cap : ℕ) (text : List ℕ) → most < cap → None ≡ option_map (λ n. min n cap) (whole_number text) → None ≡ number_in least most text
unfolding number_in
number_in-none least most cap text h e = ap (option_and_then (kept_in least most)) e ∙ kept-mapped least most cap h (whole_number text)

positive-min : (least most : ℤ) (cap number : ℕ) → most <ℤ pos cap → signed_kept_in least most (pos (min number cap)) ≡ signed_kept_in least most (pos number)
positive-min least most cap number h = grind (arith, ints, nat_tests)

negative-min : (least most : ℤ) (cap number : ℕ) → neg_ℤ (pos cap) <ℤ least → signed_kept_in least most (neg_ℤ (pos (min number cap))) ≡ signed_kept_in least most (neg_ℤ (pos number))
negative-min least most cap number h = grind (arith, ints, nat_tests)

positives : (least most : ℤ) (cap : ℕ)
    → most <ℤ pos cap
    → (o : Option ℕ)
    → option_and_then (signed_kept_in least most) (option_map (λ n. pos (min n cap)) o) ≡
    option_and_then (signed_kept_in least most) (option_map pos o)
positives least most cap h None = refl
positives least most cap h (Some number) = positive-min least most cap number h

negatives : (least most : ℤ) (cap : ℕ)
    → neg_ℤ (pos cap) <ℤ least
    → (o : Option ℕ)
    → option_and_then (signed_kept_in least most) (option_map (λ n. neg_ℤ (pos (min n cap))) o) ≡
    option_and_then (signed_kept_in least most) (option_map (λ n. neg_ℤ (pos n)) o)
negatives least most cap h None = refl
negatives least most cap h (Some number) = negative-min least most cap number h

map-map : {A B C : Type 0} (f : B → C) (g : A → B) (o : Option A) → option_map f (option_map g o) ≡ option_map (λ x. f (g x)) o
map-map f g None = refl
map-map f g (Some x) = refl

module _ (least most : ℤ) (cap : ℕ) (low : neg_ℤ (pos cap) <ℤ least) (high : most <ℤ pos cap) (text : List ℕ) where
  plain : after_minus text ≡ None → signed_in least most text ≡ option_and_then (signed_kept_in least most) (option_map pos (whole_number text))
  unfolding signed_in signed_number
  plain e = ap (λ o. option_and_then (signed_kept_in least most) (number_signed text o)) e

  after : (digits : List ℕ) → after_minus text ≡ Some digits → signed_in least most text ≡ option_and_then (signed_kept_in least most) (option_map (λ n. neg_ℤ (pos n)) (whole_number digits))
  unfolding signed_in signed_number
  after digits e = ap (λ o. option_and_then (signed_kept_in least most) (number_signed text o)) e

  -- a number without a sign that was read with a cap, or none
  pub signed_in-plain : (read : Option ℕ)
      → None ≡ after_minus text
      → read ≡ option_map (λ n. min n cap) (whole_number text)
      → option_and_then (signed_kept_in least most) (option_map pos read) ≡ signed_in least most text
  signed_in-plain read e r =
      ap (λ o. option_and_then (signed_kept_in least most) (option_map pos o)) r
      ∙ ap (option_and_then (signed_kept_in least most)) (map-map pos (λ n. min n cap) (whole_number text))
      ∙ positives least most cap high (whole_number text) ∙ sym (plain (sym e))

  -- the number after a `-`, or none
  pub signed_in-minus : (read : Option ℕ) (digits : List ℕ)
      → Some digits ≡ after_minus text
      → read ≡ option_map (λ n. min n cap) (whole_number digits)
      → option_and_then (signed_kept_in least most) (option_map (λ n. neg_ℤ (pos n)) read) ≡ signed_in least most text
  signed_in-minus read digits e r =
      ap (λ o. option_and_then (signed_kept_in least most) (option_map (λ n. neg_ℤ (pos n)) o)) r
      ∙ ap (option_and_then (signed_kept_in least most)) (map-map (λ n. neg_ℤ (pos n)) (λ n. min n cap) (whole_number digits))
      ∙ negatives least most cap low (whole_number digits) ∙ sym (after digits (sym e))
