-- A part is no `any`, and begins with no `!` and no `[`.
use Rattle.std.proofs.Common.{◌≡◌, ℕ, suc, ◌+◌, ◌≤◌, ◌==◌, ◌⊎◌, inl, inr, ltb, leb, Bool, true, false, not, cond, ◌&&◌, List, []}
use Rattle.std.proofs.Common.{◌∷◌, length, take, drop, Option, Some, None, refl, sym, ap, ◌∙◌, arith, codes, nat_eq}
use Rattle.std.specs.Option.{option_map, option_and_then}
use Rattle.std.specs.List.{list_all, prefix_len, slice_split, onto_first, starts_with}
use Rattle.std.specs.Char.{is_ascii_digit, is_ascii_hexdigit}
use Rattle.std.proofs.lemmas.Bool.{eqb-true, eqb-false, ne_eqb, false≢true}
use Rattle.std.proofs.Math.Dec.{eqb-suc-zero}
use Rattle.std.proofs.lemmas.Bool.Decides.{nat_tests}
use Rattle.net_lists.specs.Numbers.{are_digits, decimal_value, digits_upto, has_leading_zero, whole_number, kept_in, number_in}
use Rattle.edge_io.specs.declared.address.Addr.{Addr}
use Rattle.edge_io.specs.declared.address.Addr.TheVariants.{V4, V6}
use Rattle.net_lists.specs.declared.part.ValueBounds.{ValueBounds}
use Rattle.net_lists.specs.declared.part.AddrBounds.{AddrBounds}
use Rattle.net_lists.specs.declared.network.Network.{Network}
use Rattle.net_lists.specs.Addresses.{cut, hex_value, octet, dotted, group, groups_of, groups, gap_place, gap, address_of}
use Rattle.net_lists.specs.Addresses.{address_around, colons, address, bits_of, network_at, network, address_bounds}
use Rattle.net_lists.specs.Parts.{port_end, between_ends, port_bounds}

-- a digit, or a byte after the digits and before the letters
record IsStart (byte : ℕ) : Type 0 where
  low : 48 ≤ byte
  high : byte ≤ 58

-- a byte that is no `!` (33) and no `[` (91)
pub record IsPlain (byte : ℕ) : Type 0 where
  pub no_not : byte ≡ 33 → ⊥
  pub no_bracket : byte ≡ 91 → ⊥

-- what the reader of parts says of its texts
pub record AreParts {B : Type 0} (reads : List ℕ → Option B) : Type 0 where
  pub starts : (byte : ℕ) (rest : List ℕ) (bounds : B) → reads (byte ∷ rest) ≡ Some bounds → IsPlain byte
  pub no_any : reads (codes "any") ≡ None

plain_start : (byte : ℕ) → IsStart byte → IsPlain byte
plain_start byte s = record { no_not = λ e. omega (arith, s.low, s.high); no_bracket = λ e. omega (arith, s.low, s.high) }

pub none_some : {A : Type 0} {x : A} → None ≡ Some x → ⊥
none_some e = cc

-- a step that gave something
bound : {A B : Type 0} (f : A → Option B) (o : Option A) (y : B) → option_and_then f o ≡ Some y → (x : A) × (o ≡ Some x) × (f x ≡ Some y)
bound f None y e = absurd (none_some e)
bound f (Some x) y e = (x, refl, e)

pub mapped : {A B : Type 0} (f : A → B) (o : Option A) (y : B) → option_map f o ≡ Some y → (x : A) × (o ≡ Some x)
mapped f None y e = absurd (none_some e)
mapped f (Some x) y e = (x, refl)

pub taken : {A : Type 0} (b : Bool) (o : Option A) (y : A) → cond b o None ≡ Some y → (b ≡ true) × (o ≡ Some y)
taken true o y e = (refl, e)
taken false o y e = absurd (none_some e)

refused : {A : Type 0} (b : Bool) (o : Option A) (y : A) → cond b None o ≡ Some y → o ≡ Some y
refused true o y e = absurd (none_some e)
refused false o y e = e

pub first_so : (a b : Bool) → (a && b) ≡ true → a ≡ true
first_so true b e = refl
first_so false b e = e

pub second_so : (a b : Bool) → (a && b) ≡ true → b ≡ true
second_so true b e = e
second_so false b e = absurd (false≢true e)

digit_start : (byte : ℕ) → is_ascii_digit byte ≡ true → IsStart byte
digit_start byte e = record { low = grind (arith, nat_tests); high = grind (arith, nat_tests) }

digits_start : (most byte : ℕ) (rest : List ℕ) (value : ℕ) → digits_upto most (byte ∷ rest) ≡ Some value → IsStart byte
unfolding digits_upto
digits_start most byte rest value e =
    let digits : are_digits (byte ∷ rest) ≡ true = first_so (are_digits (byte ∷ rest)) (leb (decimal_value (byte ∷ rest)) most) (taken _ _ _ e).0 in
    let all : list_all is_ascii_digit (byte ∷ rest) ≡ true = second_so (not (length (byte ∷ rest) == 0)) (list_all is_ascii_digit (byte ∷ rest)) digits in
    digit_start byte (first_so (is_ascii_digit byte) (list_all is_ascii_digit rest) all)

no_digits : (most value : ℕ) → digits_upto most [] ≡ Some value → ⊥
unfolding digits_upto
no_digits most value e = none_some e

whole_start : (byte : ℕ) (rest : List ℕ) (value : ℕ) → whole_number (byte ∷ rest) ≡ Some value → IsStart byte
unfolding whole_number
whole_start byte rest value e =
    let digits : are_digits (byte ∷ rest) ≡ true = first_so (are_digits (byte ∷ rest)) (not (has_leading_zero (byte ∷ rest))) (taken _ _ _ e).0 in
    let all : list_all is_ascii_digit (byte ∷ rest) ≡ true = second_so (not (length (byte ∷ rest) == 0)) (list_all is_ascii_digit (byte ∷ rest)) digits in
    digit_start byte (first_so (is_ascii_digit byte) (list_all is_ascii_digit rest) all)

number_start : (least most byte : ℕ) (rest : List ℕ) (value : ℕ) → number_in least most (byte ∷ rest) ≡ Some value → IsStart byte
unfolding number_in
number_start least most byte rest value e = let number = bound (kept_in least most) (whole_number (byte ∷ rest)) value e in whole_start byte rest number.0 number.1

octet_start : (byte : ℕ) (rest : List ℕ) (value : ℕ) → octet (byte ∷ rest) ≡ Some value → IsStart byte
unfolding octet
octet_start byte rest value e = digits_start 255 byte rest value (taken _ _ _ e).1

no_octet : (value : ℕ) → octet [] ≡ Some value → ⊥
unfolding octet
no_octet value e = no_digits 255 value e

-- parts that a text is cut into at a place
split : List ℕ → ℕ → List ℕ × List ℕ
split text place = (take place text, drop (place + 1) text)

at_place : (text : List ℕ) (place : ℕ) (within : Bool) (parts : List ℕ × List ℕ)
    → option_map (λ n. (take n text, drop (n + 1) text)) (cond within (Some place) None) ≡ Some parts
    → take place text ≡ parts.0
at_place text place true parts e = cc
at_place text place false parts e = absurd (none_some e)

-- the first byte of a text is that of what comes before a byte, unless that byte comes first
cut_head : (at byte : ℕ) (rest : List ℕ) (parts : List ℕ × List ℕ) → cut at (byte ∷ rest) ≡ Some parts → ((parts.0 ≡ []) × (byte ≡ at)) ⊎ ((front : List ℕ) × (parts.0 ≡ byte ∷ front))
unfolding cut
cut_head at byte rest parts e = go (byte == at) refl e
  where
    go : (b : Bool)
        → (byte == at) ≡ b
        → option_map (λ place. (take place (byte ∷ rest), drop (place + 1) (byte ∷ rest)))
        (cond (ltb (cond (not b) (1 + prefix_len (λ x. not (x == at)) rest) 0) (length (byte ∷ rest)))
        (Some (cond (not b) (1 + prefix_len (λ x. not (x == at)) rest) 0)) None) ≡
        Some parts
        → ((parts.0 ≡ []) × (byte ≡ at)) ⊎ ((front : List ℕ) × (parts.0 ≡ byte ∷ front))
    go true same h = inl (sym (at_place (byte ∷ rest) 0 (ltb 0 (length (byte ∷ rest))) parts h), eqb-true byte at same)
    go false same h =
        let n = prefix_len (λ x. not (x == at)) rest in
        let one_more : 1 + n ≡ suc n = omega arith in
        inr (take n rest, sym (at_place (byte ∷ rest) (1 + n) (ltb (1 + n) (length (byte ∷ rest))) parts h) ∙ ap (λ k. take k (byte ∷ rest)) one_more)

no_cut : (at : ℕ) (parts : List ℕ × List ℕ) → cut at [] ≡ Some parts → ⊥
unfolding cut
no_cut at parts e = none_some e

first_octet : (byte : ℕ) (rest front : List ℕ) (value : ℕ) → ((front ≡ []) × (byte ≡ 46)) ⊎ ((more : List ℕ) × (front ≡ byte ∷ more)) → octet front ≡ Some value → IsStart byte
first_octet byte rest front value (inl h) e = absurd (no_octet value (ap octet (sym h.0) ∙ e))
first_octet byte rest front value (inr h) e = octet_start byte h.0 value (ap octet (sym h.1) ∙ e)

dotted_start : (byte : ℕ) (rest : List ℕ) (value : ℕ) → dotted (byte ∷ rest) ≡ Some value → IsStart byte
unfolding dotted
dotted_start byte rest value e =
    let first = bound _ (cut 46 (byte ∷ rest)) value e in
    let second = bound _ (cut 46 first.0.1) value first.2 in
    let third = bound _ (cut 46 second.0.1) value second.2 in
    let number = bound _ (octet first.0.0) value third.2 in
    first_octet byte rest first.0.0 number.0 (cut_head 46 byte rest first.0 first.1) number.1

no_dotted : (value : ℕ) → dotted [] ≡ Some value → ⊥
unfolding dotted
no_dotted value e = let first = bound _ (cut 46 []) value e in no_cut 46 first.0 first.1

groups_of_refused : (piece : List ℕ) (pieces : List (List ℕ)) → group piece ≡ None → groups_of (piece ∷ pieces) ≡ None
unfolding groups_of
groups_of_refused piece pieces e = ap (option_and_then (λ first. option_and_then (λ others. Some (first ∷ others)) (groups_of pieces))) e

-- a text that begins with no hexadecimal digit and no colon has no groups
group_refused : (byte : ℕ) (rest : List ℕ) → is_ascii_hexdigit byte ≡ false → group (byte ∷ rest) ≡ None
unfolding group
group_refused byte rest e =
    ap (λ h. cond ((leb 1 (length (byte ∷ rest)) && leb (length (byte ∷ rest)) 4) && (h && list_all is_ascii_hexdigit rest))
    (Some (hex_value (byte ∷ rest))) None) e
    ∙ go (leb 1 (length (byte ∷ rest)) && leb (length (byte ∷ rest)) 4)
  where
    go : (b : Bool) → cond (b && false) (Some (hex_value (byte ∷ rest))) None ≡ None
    go true = refl
    go false = refl

groups_refused : (byte : ℕ) (rest : List ℕ) → (byte == 58) ≡ false → is_ascii_hexdigit byte ≡ false → groups (byte ∷ rest) ≡ None
unfolding groups
groups_refused byte rest c h = ap (λ b. groups_of (cond b ([] ∷ slice_split (λ x. x == 58) rest) (onto_first byte (slice_split (λ x. x == 58) rest)))) c ∙ go (slice_split (λ x. x == 58) rest)
  where
    first : (piece : List ℕ) (pieces : List (List ℕ)) → groups_of ((byte ∷ piece) ∷ pieces) ≡ None
    first piece pieces = groups_of_refused (byte ∷ piece) pieces (group_refused byte piece h)

    go : (pieces : List (List ℕ)) → groups_of (onto_first byte pieces) ≡ None
    go [] = first [] []
    go (piece ∷ pieces) = first piece pieces

no_gap : (byte : ℕ) (rest : List ℕ) → (byte == 58) ≡ false → starts_with nat_eq (byte ∷ rest) (codes "::") ≡ false
no_gap byte rest c = ap (λ b. b && starts_with nat_eq rest (codes ":")) (ne_eqb 58 byte (λ e. eqb-false byte 58 c (sym e)))

colons_refused : (byte : ℕ) (rest : List ℕ) → (byte == 58) ≡ false → is_ascii_hexdigit byte ≡ false → colons (byte ∷ rest) ≡ None
unfolding colons gap gap_place
colons_refused byte rest c h =
    ap (λ b. elim
    (option_map {T = ℕ} {U = List ℕ × List ℕ} (λ place. (take place (byte ∷ rest), drop (place + 2) (byte ∷ rest)))
    (cond b (Some 0) (option_map (λ place. 1 + place) (gap_place rest))))
    as (λ _. Option ℕ) [
      | None ↦ option_and_then address_of (groups (byte ∷ rest))
      | Some sides ↦
          option_and_then (λ front. option_and_then (λ back. address_around front back) (groups sides.1)) (groups sides.0)
    ])
    (no_gap byte rest c)
    ∙ go (gap_place rest)
  where
    go : (o : Option ℕ)
        → elim (option_map {T = ℕ} {U = List ℕ × List ℕ} (λ place. (take place (byte ∷ rest), drop (place + 2) (byte ∷ rest)))
        (option_map (λ place. 1 + place) o)) as (λ _. Option ℕ) [
          | None ↦ option_and_then address_of (groups (byte ∷ rest))
          | Some sides ↦
              option_and_then (λ front. option_and_then (λ back. address_around front back) (groups sides.1)) (groups sides.0)
        ] ≡
        None
    go None = ap (option_and_then address_of) (groups_refused byte rest c h)
    go (Some n) =
        let one_more : 1 + n ≡ suc n = omega arith in
        ap
        (option_and_then (λ front. option_and_then (λ back. address_around front back) (groups (drop (1 + n + 2) (byte ∷ rest)))))
        (ap (λ k. groups (take k (byte ∷ rest))) one_more ∙ groups_refused byte (take n rest) c h)

colons_start : (byte : ℕ) (rest : List ℕ) (value : ℕ) → colons (byte ∷ rest) ≡ Some value → IsPlain byte
colons_start byte rest value e = record {
  no_not = λ s. none_some (sym (colons_refused byte rest (ap (λ b. b == 58) s) (ap is_ascii_hexdigit s)) ∙ e);
  no_bracket = λ s. none_some (sym (colons_refused byte rest (ap (λ b. b == 58) s) (ap is_ascii_hexdigit s)) ∙ e);
}

no_colons : (value : ℕ) → colons [] ≡ Some value → ⊥
unfolding colons gap gap_place groups address_of
no_colons value e = none_some e

address_start : (byte : ℕ) (rest : List ℕ) (value : Addr) → address (byte ∷ rest) ≡ Some value → IsPlain byte
unfolding address
address_start byte rest value e = go (dotted (byte ∷ rest)) refl e
  where
    go : (o : Option ℕ) → dotted (byte ∷ rest) ≡ o → elim o as (λ _. Option Addr) [ Some v ↦ Some (V4 v) | None ↦ option_map V6 (colons (byte ∷ rest)) ] ≡ Some value → IsPlain byte
    go (Some v) d h = plain_start byte (dotted_start byte rest v d)
    go None d h = let found = mapped V6 (colons (byte ∷ rest)) value h in colons_start byte rest found.0 found.1

no_address : (value : Addr) → address [] ≡ Some value → ⊥
unfolding address
no_address value e = go (dotted []) refl e
  where
    go : (o : Option ℕ) → dotted [] ≡ o → elim o as (λ _. Option Addr) [ Some v ↦ Some (V4 v) | None ↦ option_map V6 (colons []) ] ≡ Some value → ⊥
    go (Some v) d h = no_dotted v d
    go None d h = let found = mapped V6 (colons []) value h in no_colons found.0 found.1

prefixed : (byte : ℕ) (rest front : List ℕ) (value : Addr) → ((front ≡ []) × (byte ≡ 47)) ⊎ ((more : List ℕ) × (front ≡ byte ∷ more)) → address front ≡ Some value → IsPlain byte
prefixed byte rest front value (inl h) e = absurd (no_address value (ap address (sym h.0) ∙ e))
prefixed byte rest front value (inr h) e = address_start byte h.0 value (ap address (sym h.1) ∙ e)

network_start : (byte : ℕ) (rest : List ℕ) (net : Network) → network (byte ∷ rest) ≡ Some net → IsPlain byte
unfolding network
network_start byte rest net e = go (cut 47 (byte ∷ rest)) refl e
  where
    go : (o : Option (List ℕ × List ℕ))
        → cut 47 (byte ∷ rest) ≡ o
        → elim o as (λ _. Option Network) [
          | None ↦ option_map (λ whole. network_at whole (bits_of whole)) (address (byte ∷ rest))
          | Some part ↦
              option_and_then (λ whole. option_map (network_at whole) (number_in 0 (bits_of whole) part.1)) (address part.0)
        ] ≡
        Some net
        → IsPlain byte
    go None c h = let found = mapped _ (address (byte ∷ rest)) net h in address_start byte rest found.0 found.1
    go (Some part) c h = let found = bound _ (address part.0) net h in prefixed byte rest part.0 found.0 (cut_head 47 byte rest part c) found.1

address_bounds_start : (byte : ℕ) (rest : List ℕ) (bounds : AddrBounds) → address_bounds (byte ∷ rest) ≡ Some bounds → IsPlain byte
unfolding address_bounds
address_bounds_start byte rest bounds e = let found = mapped _ (network (byte ∷ rest)) bounds e in network_start byte rest found.0 found.1

-- the parts of address lists
pub address_parts : AreParts address_bounds
unfolding address_bounds network cut address dotted colons gap gap_place groups groups_of group
address_parts = record { starts = address_bounds_start; no_any = refl }

one_end : (byte : ℕ) (rest : List ℕ) (value : ℕ) → port_end 0 (byte ∷ rest) ≡ Some value → number_in 0 65535 (byte ∷ rest) ≡ Some value
unfolding port_end
one_end byte rest value e = rw eqb-suc-zero at e

end_start : (byte : ℕ) (rest front : List ℕ) (value : ℕ) → ((front ≡ []) × (byte ≡ 58)) ⊎ ((more : List ℕ) × (front ≡ byte ∷ more)) → port_end 0 front ≡ Some value → IsStart byte
unfolding port_end
end_start byte rest front value (inl h) e = record { low = omega (arith, h.1); high = omega (arith, h.1) }
end_start byte rest front value (inr h) e = number_start 0 65535 byte h.0 value (one_end byte h.0 value (ap (port_end 0) (sym h.1) ∙ e))

-- a port part begins with a digit or a colon
port_bounds_start : (byte : ℕ) (rest : List ℕ) (bounds : ValueBounds ℕ) → port_bounds (byte ∷ rest) ≡ Some bounds → IsStart byte
unfolding port_bounds between_ends
port_bounds_start byte rest bounds e = go (cut 58 (byte ∷ rest)) refl e
  where
    go : (o : Option (List ℕ × List ℕ))
        → cut 58 (byte ∷ rest) ≡ o
        → elim o as (λ _. Option (ValueBounds ℕ)) [
          | None ↦ option_map (λ port. record { low = port; high = port }) (number_in 0 65535 (byte ∷ rest))
          | Some part ↦ between_ends part
        ] ≡
        Some bounds
        → IsStart byte
    go None c h = let port = mapped _ (number_in 0 65535 (byte ∷ rest)) bounds h in number_start 0 65535 byte rest port.0 port.1
    go (Some part) c h = let low = bound _ (port_end 0 part.0) bounds h in end_start byte rest part.0 low.0 (cut_head 58 byte rest part c) low.1

-- the parts of port lists
pub port_parts : AreParts port_bounds
unfolding port_bounds cut number_in whole_number
port_parts = record { starts = λ byte rest bounds e. plain_start byte (port_bounds_start byte rest bounds e); no_any = refl }
