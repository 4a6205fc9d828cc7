-- The groups of an address of version 6, as they are read.
use Rattle.std.proofs.Common.{◌≡◌, ℕ, zero, suc, ◌+◌, ◌-◌, ◌*◌, ◌^◌, ◌<◌, ◌≤◌, ◌==◌, ◌&&◌, ltb, leb, Bool, true, false, not, cond}
use Rattle.std.proofs.Common.{min, List, [], ◌∷◌, ◌++◌, length, take, drop, replicate, Option, Some, None, refl, sym, ap, subst}
use Rattle.std.proofs.Common.{◌∙◌, arith, add-one, zero-add, codes, nat_eq, length-append}
use Rattle.std.specs.Option.{option_map, option_and_then}
use Rattle.std.specs.List.{fold, list_all, slice_split, onto_first, position, position_or_len, prefix_len, starts_with}
use Rattle.std.specs.Char.{is_ascii_hexdigit}
use Rattle.std.proofs.lemmas.Bool.{false≢true, le-leb, lt-leb, leb-true, leb-false, ltb-true, ltb-false, eqb-true, ne_eqb}
use Rattle.std.proofs.lemmas.Bool.Decides.{nat_tests}
use Rattle.std.proofs.lemmas.List.{at_drop_more, drop_all, length-replicate}
use Rattle.std.proofs.lemmas.List.Splits.{slice_split_first}
use Rattle.std.proofs.lemmas.Nat.{pow-add, mul-add-lt}
use Rattle.std.proofs.Math.Pow.{pow_mono}
use Rattle.std.proofs.Math.Nat.{add-mul, mul_assoc, mul_comm}
use Rattle.std.proofs.lemmas.List.Sums.{fold-append}
use Rattle.net_lists.specs.declared.address6.AddrGroups.{AddrGroups}
use Rattle.net_lists.specs.Addresses.{hex_digit, hex_value, is_group, group, groups_of, groups, groups_value, gap_place, gap, address_of, address_around, colons}
use Rattle.net_lists.specs.Groups.{with_group, joined, groups_upto, whole, around}

first_so : (a b : Bool) → (a && b) ≡ true → a ≡ true
first_so true b e = refl
first_so false b e = e

second_so : (a b : Bool) → (a && b) ≡ true → b ≡ true
second_so true b e = e
second_so false b e = absurd (false≢true e)

hex_digit_small : (digit : ℕ) → is_ascii_hexdigit digit ≡ true → hex_digit digit < 16
hex_digit_small digit e = grind (arith, nat_tests)

hex_value_small : (digits : List ℕ) → length digits ≤ 4 → list_all is_ascii_hexdigit digits ≡ true → hex_value digits < 65536
unfolding hex_value
hex_value_small [] h e = omega arith
hex_value_small (a ∷ []) h e = omega (arith, hex_digit_small a (first_so _ _ e))
hex_value_small (a ∷ b ∷ []) h e =
    let more = second_so _ _ e in
    omega (arith, hex_digit_small a (first_so _ _ e), hex_digit_small b (first_so _ _ more))
hex_value_small (a ∷ b ∷ c ∷ []) h e =
    let more = second_so _ _ e in
    let most = second_so _ _ more in
    omega (arith, hex_digit_small a (first_so _ _ e), hex_digit_small b (first_so _ _ more), hex_digit_small c (first_so _ _ most))
hex_value_small (a ∷ b ∷ c ∷ d ∷ []) h e =
    let more = second_so _ _ e in
    let most = second_so _ _ more in
    let all = second_so _ _ most in
    omega (arith, hex_digit_small a (first_so _ _ e), hex_digit_small b (first_so _ _ more), hex_digit_small c (first_so _ _ most), hex_digit_small d (first_so _ _ all))
hex_value_small (a ∷ b ∷ c ∷ d ∷ f ∷ rest) h e = absurd (omega arith)

-- what is read of a group's digits is the group, or none
pub group-some : (text : List ℕ) (value : ℕ) → is_group text ≡ true → value ≡ min (hex_value text) 65535 → Some value ≡ group text
unfolding group
group-some text value h e =
    let few = leb-true (length text) 4 (second_so (leb 1 (length text)) (leb (length text) 4) (first_so _ _ h)) in
    let small = hex_value_small text few (second_so (leb 1 (length text) && leb (length text) 4) (list_all is_ascii_hexdigit text) h) in
    let same : value ≡ hex_value text = omega (arith, e, small) in
    ap Some same ∙ sym (ap (λ b. cond b (Some (hex_value text)) None) h)

pub group-none : (text : List ℕ) → is_group text ≡ false → None ≡ group text
unfolding group
group-none text h = sym (ap (λ b. cond b (Some (hex_value text)) None) h)

pub group_small : (text : List ℕ) (value : ℕ) → is_group text ≡ true → value ≡ min (hex_value text) 65535 → value < 65536
group_small text value h e = omega arith

pub ruleset hex_groups = (group-some, group-none, group_small)

-- the first piece, where there is a colon and where there is none
slice_split-only : {X : Type 0} (p : X → Bool) (xs : List X) → length xs ≤ position_or_len p xs → slice_split p xs ≡ xs ∷ []
slice_split-only p [] h = refl
slice_split-only p (x ∷ xs) h = go (p x) h (slice_split-only p xs)
  where
    go : (b : Bool)
        → length (x ∷ xs) ≤ cond (not b) (1 + prefix_len (λ y. not (p y)) xs) 0
        → (length xs ≤ prefix_len (λ y. not (p y)) xs → slice_split p xs ≡ xs ∷ [])
        → cond b ([] ∷ slice_split p xs) (onto_first x (slice_split p xs)) ≡ (x ∷ xs) ∷ []
    go true less more = absurd (omega arith)
    go false less more = ap (onto_first x) (more (omega arith))

pub first_piece-some : (text : List ℕ) (place : ℕ) → Some place ≡ position (λ b. b == 58) text → slice_split (λ b. b == 58) text ≡ take place text ∷ slice_split (λ b. b == 58) (drop (place + 1) text)
first_piece-some text place e = go (ltb (position_or_len (λ b. b == 58) text) (length text)) refl e
  where
    n : ℕ
    n = position_or_len (λ b. b == 58) text

    At : ℕ → Type 0
    At k = slice_split (λ b. b == 58) text ≡ take k text ∷ slice_split (λ b. b == 58) (drop (k + 1) text)

    go : (b : Bool) → ltb n (length text) ≡ b → Some place ≡ cond b (Some n) None → At place
    go true h s = let same : n ≡ place = cc in subst At same (slice_split_first (λ b. b == 58) text 0 (ltb-true n (length text) h))
    go false h s = cc

pub first_piece-none : (text : List ℕ) → None ≡ position (λ b. b == 58) text → slice_split (λ b. b == 58) text ≡ text ∷ []
first_piece-none text e = go (ltb (position_or_len (λ b. b == 58) text) (length text)) refl e
  where
    n : ℕ
    n = position_or_len (λ b. b == 58) text

    go : (b : Bool) → ltb n (length text) ≡ b → None ≡ cond b (Some n) None → slice_split (λ b. b == 58) text ≡ text ∷ []
    go true h s = cc
    go false h s = slice_split-only (λ b. b == 58) text (ltb-false n (length text) h)

-- one group more stays small
pub shift_more : (count : ℕ) → 2 ^ (16 * (count + 1)) ≡ 2 ^ (16 * count) * 65536
shift_more count = let e : 16 * (count + 1) ≡ 16 * count + 16 = omega arith in ap (λ k. 2 ^ k) e ∙ pow-add 2 (16 * count) 16

pub grown_small : (count value next : ℕ) → value < 2 ^ (16 * count) → next < 65536 → value * 65536 + next < 2 ^ (16 * (count + 1))
grown_small count value next h n = omega (arith, shift_more count)

pub all_fit : (count : ℕ) → count ≤ 8 → 2 ^ (16 * count) ≤ 2 ^ 128
all_fit count h = let fits : 16 * count ≤ 128 = omega arith in pow_mono fits

-- `count` groups that make this number
made : ℕ → ℕ → Option AddrGroups
made count value = Some (record { count = count; value = value })

-- the groups so far and those of more pieces
kept : ℕ → ℕ → List ℕ → Option AddrGroups
kept count value gs = cond (leb (count + length gs) 8) (Some (record { count = count + length gs; value = fold (λ v g. v * 65536 + g) value gs })) None

below : (count : ℕ) → count ≤ 8 → (count == 8) ≡ false → count + 1 ≤ 8
below count h e = grind (arith, nat_tests)

joined_from : (count value : ℕ) → count ≤ 8 → (pieces : List (List ℕ)) → joined (record { count = count; value = value }) pieces ≡ option_and_then (kept count value) (groups_of pieces)
unfolding joined groups_of kept made
joined_from count value h [] =
    let none : count ≡ count + 0 = omega arith in
    ap (λ n. made (n) (value)) none
    ∙ sym (ap (λ b. cond b (made (count + 0) (value)) None) (le-leb (count + 0) 8 (omega arith)))
joined_from count value h (piece ∷ pieces) = go (group piece) (count == 8) refl (λ v few. joined_from (count + 1) v few pieces)
  where
    past : (next : ℕ) (o : Option (List ℕ)) → count ≡ 8 → None ≡ option_and_then (kept count value) (option_and_then (λ others. Some (next ∷ others)) o)
    past next None e = refl
    past next (Some others) e =
        sym (ap
        (λ b. cond b (made (count + suc (length others)) (fold (λ v g. v * 65536 + g) (value * 65536 + next) others)) None)
        (lt-leb (count + suc (length others)) 8 (omega arith)))

    on : (next : ℕ) (o : Option (List ℕ)) → option_and_then (kept (count + 1) (value * 65536 + next)) o ≡ option_and_then (kept count value) (option_and_then (λ others. Some (next ∷ others)) o)
    on next None = refl
    on next (Some others) =
        let more : count + 1 + length others ≡ count + suc (length others) = omega arith in
        ap (λ n. cond (leb n 8) (made (n) (fold (λ v g. v * 65536 + g) (value * 65536 + next) others)) None) more

    go : (o : Option ℕ) (b : Bool)
        → (count == 8) ≡ b
        → ((v : ℕ) → count + 1 ≤ 8 →
        joined (record { count = count + 1; value = v }) pieces ≡ option_and_then (kept (count + 1) v) (groups_of pieces))
        → option_and_then (λ next. option_and_then (λ more. joined more pieces)
        (cond b None (Some (record { count = count + 1; value = value * 65536 + next })))) o ≡
        option_and_then (kept count value)
        (option_and_then (λ first. option_and_then (λ others. Some (first ∷ others)) (groups_of pieces)) o)
    go None b e more = refl
    go (Some next) true e more = past next (groups_of pieces) (eqb-true count 8 e)
    go (Some next) false e more = more (value * 65536 + next) (below count h e) ∙ on next (groups_of pieces)

-- eight groups at most are read as the list of them
pub joined_groups : (pieces : List (List ℕ)) → joined (record { count = 0; value = 0 }) pieces ≡ groups_upto (groups_of pieces)
unfolding kept made groups_value
joined_groups pieces = joined_from 0 0 (omega arith) pieces ∙ go (groups_of pieces)
  where
    go : (o : Option (List ℕ)) → option_and_then (kept 0 0) o ≡ groups_upto o
    go None = refl
    go (Some gs) =
        let none : 0 + length gs ≡ length gs = omega arith in
        ap (λ n. cond (leb n 8) (made (n) (fold (λ v g. v * 65536 + g) 0 gs)) None) none

scaled : (value next size wide rest : ℕ) → wide ≡ size * 65536 → (value * 65536 + next) * size + rest ≡ value * wide + ((0 * 65536 + next) * size + rest)
scaled value next size wide rest e =
    let a : (value * 65536 + next) * size ≡ value * 65536 * size + next * size = add-mul (value * 65536) next size in
    let b : value * 65536 * size ≡ value * (65536 * size) = mul_assoc value 65536 size in
    let c : (0 * 65536 + next) * size ≡ next * size = ap (λ n. n * size) (zero-add next) in
    let d : value * wide ≡ value * (65536 * size) = ap (λ w. value * w) (e ∙ mul_comm size 65536) in
    omega (arith, a, b, c, d)

-- the number of groups after others
fold_from : (value : ℕ) (gs : List ℕ) → fold (λ v g. v * 65536 + g) value gs ≡ value * 2 ^ (16 * length gs) + groups_value gs
unfolding groups_value
fold_from value [] = omega arith
fold_from value (next ∷ gs) =
    let shift : 2 ^ (16 * suc (length gs)) ≡ 2 ^ (16 * length gs) * 65536 =
    ap (λ k. 2 ^ (16 * k)) (sym (add-one (length gs))) ∙ shift_more (length gs) in
    let here : fold (λ v g. v * 65536 + g) (value * 65536 + next) gs
    ≡ (value * 65536 + next) * 2 ^ (16 * length gs) + groups_value gs = fold_from (value * 65536 + next) gs in
    let alone : fold (λ v g. v * 65536 + g) (0 * 65536 + next) gs ≡ (0 * 65536 + next) * 2 ^ (16 * length gs) + groups_value gs =
    fold_from (0 * 65536 + next) gs in
    let step : (value * 65536 + next) * 2 ^ (16 * length gs) + groups_value gs
    ≡ value * 2 ^ (16 * suc (length gs)) + ((0 * 65536 + next) * 2 ^ (16 * length gs) + groups_value gs) =
    scaled value next (2 ^ (16 * length gs)) (2 ^ (16 * suc (length gs))) (groups_value gs) shift in
    here ∙ step ∙ ap (λ v. value * 2 ^ (16 * suc (length gs)) + v) (sym alone)

zeros_value : (n : ℕ) → fold (λ v g. v * 65536 + g) 0 (replicate n 0) ≡ 0
zeros_value zero = refl
zeros_value (suc n) = zeros_value n

pub around_value : (front back : List ℕ) (n : ℕ)
    → n + length front + length back ≡ 8
    → groups_value (front ++ (replicate n 0 ++ back)) ≡ groups_value front * 2 ^ (16 * (8 - length front)) + groups_value back
unfolding groups_value
around_value front back n e =
    let len : length (replicate n 0 ++ back) ≡ 8 - length front = omega (arith, length-append {A = ℕ} (replicate n 0) back, length-replicate {A = ℕ} n 0) in
    fold-append (λ v g. v * 65536 + g) 0 front (replicate n 0 ++ back)
    ∙ fold_from (groups_value front) (replicate n 0 ++ back)
    ∙ ap (λ k. groups_value front * 2 ^ (16 * k) + groups_value (replicate n 0 ++ back)) len
    ∙ ap (λ v. groups_value front * 2 ^ (16 * (8 - length front)) + v) (fold-append (λ v g. v * 65536 + g) 0 (replicate n 0) back ∙ ap (λ v. fold (λ w g. w * 65536 + g) v back) (zeros_value n))

pub sides_read : (fo bo : Option (List ℕ))
    → option_and_then (λ front. option_and_then (λ back. around front back) (groups_upto bo)) (groups_upto fo) ≡
    option_and_then (λ front. option_and_then (λ back. address_around front back) bo) fo
unfolding address_around
sides_read None bo = refl
sides_read (Some front) None = go (leb (length front) 8)
  where
    go : (b : Bool) → option_and_then (λ f. option_and_then (λ back. around f back) None) (cond b (Some (record { count = length front; value = groups_value front })) None) ≡ None
    go true = refl
    go false = refl
sides_read (Some front) (Some back) = go (leb (length front) 8) refl (leb (length back) 8) refl (leb (length front + length back) 7) refl
  where
    spelled : List ℕ
    spelled = front ++ (replicate (8 - (length front + length back)) 0 ++ back)

    go : (a : Bool)
        → leb (length front) 8 ≡ a
        → (b : Bool)
        → leb (length back) 8 ≡ b
        → (c : Bool)
        → leb (length front + length back) 7 ≡ c
        → option_and_then
        (λ f. option_and_then (λ g. around f g) (cond b (Some (record { count = length back; value = groups_value back })) None))
        (cond a (Some (record { count = length front; value = groups_value front })) None) ≡
        cond c (Some (groups_value spelled)) None
    go true e true f true g =
        let few = leb-true (length front + length back) 7 g in
        ap (λ d. cond d (Some (groups_value front * 2 ^ (16 * (8 - length front)) + groups_value back)) None) g
        ∙ ap Some (sym (around_value front back (8 - (length front + length back)) (omega arith)))
    go true e true f false g = ap (λ d. cond d (Some (groups_value front * 2 ^ (16 * (8 - length front)) + groups_value back)) None) g
    go true e false f true g = absurd (omega (arith, leb-false (length back) 8 f, leb-true (length front + length back) 7 g))
    go true e false f false g = refl
    go false e b f true g = absurd (omega (arith, leb-false (length front) 8 e, leb-true (length front + length back) 7 g))
    go false e b f false g = refl

pub whole_read : (o : Option (List ℕ)) → option_and_then whole (groups_upto o) ≡ option_and_then address_of o
unfolding address_of
whole_read None = refl
whole_read (Some gs) = go (leb (length gs) 8) refl
  where
    go : (b : Bool) → leb (length gs) 8 ≡ b → option_and_then whole (cond b (Some (record { count = length gs; value = groups_value gs })) None) ≡ cond (length gs == 8) (Some (groups_value gs)) None
    go true e = refl
    go false e = sym (ap (λ d. cond d (Some (groups_value gs)) None) (ne_eqb (length gs) 8 (λ same. omega (arith, leb-false (length gs) 8 e))))

-- the number around a gap is one of 128 bits
pub around_fits : (f b v w : ℕ) → f + b ≤ 8 → v < 2 ^ (16 * f) → w < 2 ^ (16 * b) → v * 2 ^ (16 * (8 - f)) + w < 2 ^ 128
around_fits f b v w few h k =
    let shift = 2 ^ (16 * (8 - f)) in
    let bits : 16 * (8 - f) + 16 * f ≡ 128 = omega arith in
    let size : shift * 2 ^ (16 * f) ≡ 2 ^ 128 = sym (pow-add 2 (16 * (8 - f)) (16 * f)) ∙ ap (λ n. 2 ^ n) bits in
    let less : 16 * b ≤ 16 * (8 - f) = omega arith in
    let wide : 2 ^ (16 * b) ≤ shift = pow_mono less in
    omega (arith, mul-add-lt v shift w (2 ^ (16 * f)) h (omega (arith, wide)), size)

-- the place of the first `::`, from a place on
pub gap_place-here : (text : List ℕ) (i : ℕ) → i < length text → starts_with nat_eq (drop i text) (codes "::") ≡ true → gap_place (drop i text) ≡ Some 0
unfolding gap_place
gap_place-here text i h e =
    at_drop_more gap_place text i 0 h
    ∙ ap (λ b. cond b (Some 0) (option_map (λ place. 1 + place) (gap_place (drop (i + 1) text))))
    (sym (at_drop_more (λ xs. starts_with nat_eq xs (codes "::")) text i 0 h) ∙ e)

pub gap_place-on : (text : List ℕ) (i : ℕ)
    → i < length text
    → starts_with nat_eq (drop i text) (codes "::") ≡ false
    → gap_place (drop i text) ≡ option_map (λ place. 1 + place) (gap_place (drop (i + 1) text))
unfolding gap_place
gap_place-on text i h e =
    at_drop_more gap_place text i 0 h
    ∙ ap (λ b. cond b (Some 0) (option_map (λ place. 1 + place) (gap_place (drop (i + 1) text))))
    (sym (at_drop_more (λ xs. starts_with nat_eq xs (codes "::")) text i 0 h) ∙ e)

pub gap_place-end : (text : List ℕ) (i : ℕ) → length text ≤ i → gap_place (drop i text) ≡ None
unfolding gap_place
gap_place-end text i h = ap gap_place (drop_all i text h)

gap_mapped : (i j : ℕ) → j ≡ i + 1 → (o : Option ℕ) → option_map (λ n. i + n) (option_map (λ place. 1 + place) o) ≡ option_map (λ n. j + n) o
gap_mapped i j e None = refl
gap_mapped i j e (Some n) = let same : i + (1 + n) ≡ j + n = omega arith in ap Some same

module _ (text : List ℕ) (i : ℕ) (whole_place : Option ℕ) (so_far : whole_place ≡ option_map (λ n. i + n) (gap_place (drop i text))) where
  pub gap_found : i < length text → starts_with nat_eq (drop i text) (codes "::") ≡ true → Some i ≡ whole_place
  gap_found h e = let same : i ≡ i + 0 = omega arith in ap Some same ∙ sym (so_far ∙ ap (option_map (λ n. i + n)) (gap_place-here text i h e))

  pub gap_goes_on : i < length text → starts_with nat_eq (drop i text) (codes "::") ≡ false → whole_place ≡ option_map (λ n. i + 1 + n) (gap_place (drop (i + 1) text))
  gap_goes_on h e = so_far ∙ ap (option_map (λ n. i + n)) (gap_place-on text i h e) ∙ gap_mapped i (i + 1) refl (gap_place (drop (i + 1) text))

  pub gap_ends : length text ≤ i → None ≡ whole_place
  gap_ends h = sym (so_far ∙ ap (option_map (λ n. i + n)) (gap_place-end text i h))

module _ (so_far : AddrGroups) (piece : List ℕ) (pieces all : List (List ℕ)) (first : all ≡ piece ∷ pieces) where
  pub joined-stop : None ≡ group piece → None ≡ joined so_far all
  unfolding joined
  joined-stop e = sym (ap (joined so_far) first ∙ ap (λ o. option_and_then (λ next. option_and_then (λ more. joined more pieces) (with_group so_far next)) o) (sym e))

  pub joined-full : (next : ℕ) → Some next ≡ group piece → None ≡ with_group so_far next → None ≡ joined so_far all
  unfolding joined
  joined-full next e f =
      sym (ap (joined so_far) first ∙ ap (λ o. option_and_then (λ next. option_and_then (λ more. joined more pieces) (with_group so_far next)) o) (sym e)
      ∙ ap (λ o. option_and_then (λ more. joined more pieces) o) (sym f))

  pub joined-on : (next : ℕ) (more : AddrGroups) → Some next ≡ group piece → Some more ≡ with_group so_far next → joined so_far all ≡ joined more pieces
  unfolding joined
  joined-on next more e f =
      ap (joined so_far) first ∙ ap (λ o. option_and_then (λ next. option_and_then (λ more. joined more pieces) (with_group so_far next)) o) (sym e)
      ∙ ap (λ o. option_and_then (λ more. joined more pieces) o) (sym f)

pub joined-end : (so_far : AddrGroups) → joined so_far [] ≡ Some so_far
unfolding joined
joined-end so_far = refl

-- an empty text has no groups, and another the groups that are read of it
pub groups-empty : (text : List ℕ) → length text ≡ 0 → Some (record { count = 0; value = 0 }) ≡ groups_upto (groups text)
unfolding groups groups_value
groups-empty [] e = refl
groups-empty (byte ∷ rest) e = absurd (omega arith)

pub groups-some : (text : List ℕ) → 0 < length text → joined (record { count = 0; value = 0 }) (slice_split (λ b. b == 58) text) ≡ groups_upto (groups text)
unfolding groups
groups-some [] h = absurd (omega arith)
groups-some (byte ∷ rest) h = joined_groups (slice_split (λ b. b == 58) (byte ∷ rest))

-- an address with a gap, and one without
pub colons-gap : (text front back : List ℕ)
    → Some (front, back) ≡ gap text
    → colons text ≡
    option_and_then (λ f. option_and_then (λ b. around f b) (groups_upto (groups back))) (groups_upto (groups front))
unfolding colons
colons-gap text front back e =
    ap (λ o. elim o as (λ _. Option ℕ) [
      | None ↦ option_and_then address_of (groups text)
      | Some sides ↦
          option_and_then (λ front. option_and_then (λ back. address_around front back) (groups sides.1)) (groups sides.0)
    ]) (sym e)
    ∙ sym (sides_read (groups front) (groups back))

pub colons-whole : (text : List ℕ) → None ≡ gap text → colons text ≡ option_and_then whole (groups_upto (groups text))
unfolding colons
colons-whole text e =
    ap (λ o. elim o as (λ _. Option ℕ) [
      | None ↦ option_and_then address_of (groups text)
      | Some sides ↦
          option_and_then (λ front. option_and_then (λ back. address_around front back) (groups sides.1)) (groups sides.0)
    ]) (sym e)
    ∙ sym (whole_read (groups text))
