-- What a rule's options can cost, by its own numbers and the payload's length.
use Rattle.std.proofs.Common.{◌≡◌, ℕ, suc, ◌+◌, ◌*◌, ◌^◌, ◌<◌, ◌≤◌, ⊎_elim, Bool, true, false, cond, List, [], ◌∷◌, length, Some, None, refl, sym, ap, subst, ◌∙◌, arith}
use Rattle.std.specs.Prelude.{All, min, nat_le}
use Rattle.std.specs.List.{count_by}
use Rattle.std.proofs.Math.Nat.{one-le-pow, pow-succ'}
use Rattle.std.proofs.lemmas.Bool.{cases_lt}
use Rattle.std.proofs.lemmas.Bool.Decides.{nat_tests}
use Rattle.std.proofs.lemmas.List.Sums.{sum_by-cons}
use Rattle.std.proofs.lemmas.Nat.{mul-le}
use Rattle.rule_types.specs.declared.option.Opt.{Opt}
use Rattle.option_eval.specs.Numbers.{Point}
use Rattle.option_eval.specs.Places.{Means, is_payload_option, is_extract, start}
use Rattle.option_eval.specs.Values.{extracted_count, reads_both, list_count, point_count, most_visits}
use Rattle.option_eval.specs.Walks.{HasValues, HasEachValueList, visits_of, visits_apart, part_points}
use Rattle.option_eval.proofs.Costs.Values.{values_few}
use Rattle.option_eval.proofs.Walks.Walking.{visits_next}

-- where nothing is listed, the lists alone are asked
pub unlisted : (means : Means) (payload : List ℕ) (lists : List (List ℕ)) (listed : List Point) (options : List Opt) (before : Point)
    → HasValues means payload lists (Some listed) options before → HasValues means payload lists None options before
unlisted means payload lists listed [] before has = tt
unlisted means payload lists listed (o ∷ os) before has = λ after leads.
    let there = has after leads in
    (there.0, λ extracts. tt, unlisted means payload lists listed os after there.2)

-- more lists cost no less
if_more : (b : Bool) (a c m n each : ℕ) → m ≤ n → a ≤ c → each + cond b (m * a) a ≤ each + cond b (n * c) c
if_more true a c m n each less rest = omega (arith, mul-le m a n c less rest)
if_more false a c m n each less rest = omega (arith, rest)

pub apart_more : (m n : ℕ) (options : List Opt) (size : ℕ) → m ≤ n → visits_apart m options size ≤ visits_apart n options size
apart_more m n [] size less = omega arith
apart_more m n (o ∷ os) size less =
    if_more (is_extract o) (visits_apart m os size) (visits_apart n os size) m n (cond (is_payload_option o) (size + 1) 0) less (apart_more m n os size less)

both_ways : (old now a b : ℕ) → now ≤ old + a → now ≤ old + b → now ≤ old + min a b
both_ways old now a b one other = ⊎_elim (λ (less : a < b). omega (arith, less, one)) (λ (more : b ≤ a). omega (arith, more, other)) (cases_lt a b)

module _ (means : Means) (payload : List ℕ) (options : List Opt) (old now : ℕ) where
  -- the two bounds by lists of values, as bounds by the options and the length alone
  abbrev Together : Type 0
  Together = (lists : List (List ℕ)) (listed : List Point) → HasEachValueList means payload options lists (Some listed) → length listed ≤ part_points
      → now ≤ old + length lists * visits_of options (length payload)

  abbrev Apart : Type 0
  Apart = (lists : List (List ℕ)) → HasEachValueList means payload options lists None → now ≤ old + visits_apart (length lists) options (length payload)

  module _ (lists : List (List ℕ)) (listed : List Point) (has : HasEachValueList means payload options lists (Some listed))
      (few : length lists ≤ list_count options (length payload)) (few_listed : length listed ≤ point_count options (length payload)) where
    in_parts : Apart → now ≤ old + visits_apart (list_count options (length payload)) options (length payload)
    in_parts apart =
        let once = apart lists (has.0, unlisted means payload lists listed options start has.1) in
        omega (arith, once, apart_more (length lists) (list_count options (length payload)) options (length payload) few)

    at_once : Together → point_count options (length payload) ≤ part_points → now ≤ old + list_count options (length payload) * visits_of options (length payload)
    at_once together fits =
        let once = together lists listed has (omega (arith, few_listed, fits)) in
        let each = visits_of options (length payload) in
        omega (arith, once, mul-le (length lists) each (list_count options (length payload)) each few (omega arith))

    by_count : (b : Bool)
        → nat_le (point_count options (length payload)) part_points ≡ b
        → Together → Apart
        → now ≤
        old +
        cond b
        (min (list_count options (length payload) * visits_of options (length payload))
        (visits_apart (list_count options (length payload)) options (length payload)))
        (visits_apart (list_count options (length payload)) options (length payload))
    by_count true is together apart =
        both_ways old now (list_count options (length payload) * visits_of options (length payload))
        (visits_apart (list_count options (length payload)) options (length payload))
        (at_once together (grind (arith, nat_tests, is)))
        (in_parts apart)
    by_count false is together apart = in_parts apart

  pub visits_few : All (λ byte. byte < 256) payload → Together → Apart → now ≤ old + most_visits options (length payload)
  unfolding most_visits
  visits_few bytes together apart =
      let few = values_few means payload options bytes in
      by_count few.0 few.1 few.2 few.3 few.4 (nat_le (point_count options (length payload)) part_points) refl together apart

-- ---- in closed form

-- the lists, once for each extraction
closed_step : (b : Bool) (lists e c rest v : ℕ) → 1 ≤ lists → rest ≤ lists ^ e * v → c + cond b (lists * rest) rest ≤ lists ^ (cond b 1 0 + e) * (c + v)
closed_step true lists e c rest v some less =
    let times : lists * rest ≤ lists * (lists ^ e * v) = mul-le lists rest lists (lists ^ e * v) (omega arith) less in
    let once : c ≤ lists ^ (1 + e) * c = omega (arith, mul-le 1 c (lists ^ (1 + e)) c (one-le-pow (1 + e) lists some) (omega arith)) in
    let spread : lists ^ (1 + e) * (c + v) ≡ lists ^ (1 + e) * c + lists ^ (1 + e) * v = omega arith in
    let one_more : 1 + e ≡ suc e = omega arith in
    let power : lists ^ (1 + e) * v ≡ (lists * lists ^ e) * v = ap (λ (n : ℕ). n * v) (ap (λ (n : ℕ). lists ^ n) one_more ∙ pow-succ' lists e) in
    let regroup : (lists * lists ^ e) * v ≡ lists * (lists ^ e * v) = omega arith in
    omega (arith, times, once, spread, power, regroup)
closed_step false lists e c rest v some less =
    let once : c ≤ lists ^ e * c = omega (arith, mul-le 1 c (lists ^ e) c (one-le-pow e lists some) (omega arith)) in
    let spread : lists ^ e * (c + v) ≡ lists ^ e * c + lists ^ e * v = omega arith in
    let power : lists ^ (0 + e) ≡ lists ^ e = ap (λ (n : ℕ). lists ^ n) (omega arith) in
    let sum : c + rest ≤ lists ^ e * (c + v) = omega (arith, less, once, spread) in
    subst (λ (p : ℕ). c + rest ≤ p * (c + v)) (sym power) sum

pub apart_closed : (lists : ℕ) (options : List Opt) (size : ℕ) → 1 ≤ lists → visits_apart lists options size ≤ lists ^ count_by is_extract options * visits_of options size
apart_closed lists [] size some = omega arith
apart_closed lists (o ∷ os) size some =
    let here = cond (is_payload_option o) (size + 1) 0 in
    let step = closed_step (is_extract o) lists (count_by is_extract os) here (visits_apart lists os size) (visits_of os size) some (apart_closed lists os size some) in
    let same : lists ^ (cond (is_extract o) 1 0 + count_by is_extract os) * (here + visits_of os size) ≡ lists ^ count_by is_extract (o ∷ os) * visits_of (o ∷ os) size =
    ap (λ (n : ℕ). lists ^ (cond (is_extract o) 1 0 + count_by is_extract os) * n) (visits_next o os size)
    ∙ ap (λ (n : ℕ). lists ^ n * visits_of (o ∷ os) size) (sym (sum_by-cons (λ (x : Opt). cond (is_extract x) 1 0) o os)) in
    omega (arith, step, same)

some_lists : (b : Bool) (x y : ℕ) → 1 ≤ cond b ((1 + x) * (1 + y)) (1 + (x + y))
some_lists true x y = mul-le 1 1 (1 + x) (1 + y) (omega arith) (omega arith)
some_lists false x y = omega arith

one_list : (options : List Opt) (size : ℕ) → 1 ≤ list_count options size
unfolding list_count
one_list options size = some_lists (reads_both options) (extracted_count 0 options size) (extracted_count 1 options size)

most_is : (b : Bool) (x y m : ℕ) → y ≤ m → cond b (min x y) y ≤ m
most_is true x y m less = ⊎_elim (λ (below : x < y). omega (arith, below, less)) (λ (above : y ≤ x). omega (arith, above, less)) (cases_lt x y)
most_is false x y m less = less

pub visits_closed : (options : List Opt) (size : ℕ) → most_visits options size ≤ list_count options size ^ count_by is_extract options * visits_of options size
unfolding most_visits
visits_closed options size =
    most_is (nat_le (point_count options size) part_points)
    (list_count options size * visits_of options size)
    (visits_apart (list_count options size) options size)
    (list_count options size ^ count_by is_extract options * visits_of options size)
    (apart_closed (list_count options size) options size (one_list options size))
