-- What pieces in a row tell of a place.
use Rattle.std.proofs.Common.{◌≡◌, ℕ, ◌+◌, ◌-◌, ◌<◌, ◌≤◌, ◌⊎◌, inl, inr, List, [], ◌∷◌, ◌++◌, Some, None, Bool, true, false, cond}
use Rattle.std.proofs.Common.{nat_lt, nat_le, length, max, get_or, refl, ap, sym, subst, ◌∙◌, arith, length-drop}
use Rattle.std.proofs.lemmas.Bool.{cases_lt}
use Rattle.std.proofs.lemmas.Bool.Decides.{nat_tests}
use Rattle.std.proofs.lemmas.List.{length-take-le, get_or-take, get_or-drop}
use Rattle.overlap_core.specs.declared.segment.Bounds.{Bounds}
use Rattle.overlap_core.specs.Pieces.{has_place, IsRow, Kept, kept_in, kept_of, Piece, piece_end}
use Rattle.overlap_core.specs.Rows.{BeginBelow, BeginFrom, cut_row, IsCutAt, IsRecut, left_part, parts, raised, right_part}
use Rattle.overlap_core.proofs.Rows.Places.{parts-before, parts-after, parts-inside}

pub IsRow-lower : (low lower high : ℕ) (pieces : List Piece) → lower ≤ low → IsRow low pieces high → IsRow lower pieces high
IsRow-lower low lower high [] order row = omega (arith, row)
IsRow-lower low lower high (piece ∷ pieces) order row = (omega (arith, row.0), row.1, row.2)

pub IsRow-higher : (low high higher : ℕ) (pieces : List Piece) → high ≤ higher → IsRow low pieces high → IsRow low pieces higher
IsRow-higher low high higher [] order row = omega (arith, row)
IsRow-higher low high higher (piece ∷ pieces) order row = (row.0, row.1, IsRow-higher (piece_end piece) high higher pieces order row.2)

-- one piece
pub kept_in-here : (piece : Piece) (pieces : List Piece) (place : ℕ) → piece.start ≤ place → place < piece_end piece → kept_in (piece ∷ pieces) place ≡ Some (kept_of place piece)
kept_in-here piece pieces place from to = let holds : has_place piece place ≡ true = grind (arith, nat_tests) in ap (λ b. cond b (Some (kept_of place piece)) (kept_in pieces place)) holds

pub kept_in-ahead : (piece : Piece) (pieces : List Piece) (place : ℕ) → place < piece.start → kept_in (piece ∷ pieces) place ≡ kept_in pieces place
kept_in-ahead piece pieces place ahead = let fails : has_place piece place ≡ false = grind (arith, nat_tests) in ap (λ b. cond b (Some (kept_of place piece)) (kept_in pieces place)) fails

pub kept_in-after : (piece : Piece) (pieces : List Piece) (place : ℕ) → piece_end piece ≤ place → kept_in (piece ∷ pieces) place ≡ kept_in pieces place
kept_in-after piece pieces place beyond = let fails : has_place piece place ≡ false = grind (arith, nat_tests) in ap (λ b. cond b (Some (kept_of place piece)) (kept_in pieces place)) fails

-- a row tells nothing of places before it and after it
pub kept_in-before_row : (low high : ℕ) (pieces : List Piece) (place : ℕ) → IsRow low pieces high → place < low → kept_in pieces place ≡ None
kept_in-before_row low high [] place row before = refl
kept_in-before_row low high (piece ∷ pieces) place row before =
    kept_in-ahead piece pieces place (omega (arith, row.0)) ∙ kept_in-before_row (piece_end piece) high pieces place row.2 (omega (arith, row.0))

pub end-below : (low high : ℕ) (pieces : List Piece) → IsRow low pieces high → low ≤ high
end-below low high [] row = row
end-below low high (piece ∷ pieces) row = let later = end-below (piece_end piece) high pieces row.2 in omega (arith, later, row.0)

pub kept_in-after_row : (low high : ℕ) (pieces : List Piece) (place : ℕ) → IsRow low pieces high → high ≤ place → kept_in pieces place ≡ None
kept_in-after_row low high [] place row beyond = refl
kept_in-after_row low high (piece ∷ pieces) place row beyond =
    kept_in-after piece pieces place (let later = end-below (piece_end piece) high pieces row.2 in omega (arith, later)) ∙ kept_in-after_row (piece_end piece) high pieces place row.2 beyond

-- two rows, one after the other
pub IsRow-append : (low mid high : ℕ) (front rest : List Piece) → IsRow low front mid → IsRow mid rest high → IsRow low (front ++ rest) high
IsRow-append low mid high [] rest before beyond = IsRow-lower mid low high rest before beyond
IsRow-append low mid high (piece ∷ front) rest before beyond = (before.0, before.1, IsRow-append (piece_end piece) mid high front rest before.2 beyond)

pub kept_in-front : (front rest : List Piece) (place : ℕ) → kept_in rest place ≡ None → kept_in (front ++ rest) place ≡ kept_in front place
kept_in-front [] rest place none = none
kept_in-front (piece ∷ front) rest place none = ap (λ later. cond (has_place piece place) (Some (kept_of place piece)) later) (kept_in-front front rest place none)

rest_by_test : (piece : Piece) (front rest : List Piece) (place : ℕ) (b : Bool)
    → has_place piece place ≡ b
    → kept_in (piece ∷ front) place ≡ None
    → (kept_in front place ≡ None → kept_in (front ++ rest) place ≡ kept_in rest place)
    → kept_in (piece ∷ front ++ rest) place ≡ kept_in rest place
rest_by_test piece front rest place true is none later = let clash : Some (kept_of place piece) ≡ None = sym (ap (λ b. cond b (Some (kept_of place piece)) (kept_in front place)) is) ∙ none in cc
rest_by_test piece front rest place false is none later =
    ap (λ b. cond b (Some (kept_of place piece)) (kept_in (front ++ rest) place)) is
    ∙ later (sym (ap (λ b. cond b (Some (kept_of place piece)) (kept_in front place)) is) ∙ none)

pub kept_in-rest : (front rest : List Piece) (place : ℕ) → kept_in front place ≡ None → kept_in (front ++ rest) place ≡ kept_in rest place
kept_in-rest [] rest place none = refl
kept_in-rest (piece ∷ front) rest place none = rest_by_test piece front rest place (has_place piece place) refl none (kept_in-rest front rest place)

-- a part of a piece
length-left : (at : ℕ) (piece : Piece) → piece.start < at → at < piece_end piece → length (left_part at piece).bytes ≡ at - piece.start
length-left at piece from to = length-take-le (at - piece.start) piece.bytes (omega arith)

length-right : (at : ℕ) (piece : Piece) → length (right_part at piece).bytes ≡ length piece.bytes - (at - piece.start)
length-right at piece = length-drop (at - piece.start) piece.bytes

abbrev kept_by : Bounds → ℕ → Kept
kept_by whole byte = record { whole = whole; byte = byte }

kept_of-left : (at : ℕ) (piece : Piece) (place : ℕ) → place - piece.start < at - piece.start → kept_of place (left_part at piece) ≡ kept_of place piece
kept_of-left at piece place below = ap (λ b. kept_by piece.whole b) (get_or-take (at - piece.start) piece.bytes (place - piece.start) 0 below)

kept_of-right : (at : ℕ) (piece : Piece) (place : ℕ) → piece.start ≤ at → at ≤ place → kept_of place (right_part at piece) ≡ kept_of place piece
kept_of-right at piece place from to =
    let same : (at - piece.start) + (place - at) ≡ place - piece.start = omega arith in
    ap (λ b. kept_by piece.whole b) (get_or-drop (at - piece.start) piece.bytes (place - at) 0 ∙ ap (λ n. get_or piece.bytes n 0) same)

-- a piece in front of others that tell the same
pub kept_in-cons : (piece : Piece) (pieces others : List Piece) (place : ℕ) → kept_in pieces place ≡ kept_in others place → kept_in (piece ∷ pieces) place ≡ kept_in (piece ∷ others) place
kept_in-cons piece pieces others place same = ap (λ later. cond (has_place piece place) (Some (kept_of place piece)) later) same

-- the two parts tell what the piece told
halves_tell : (at : ℕ) (piece : Piece) (pieces : List Piece) (place : ℕ)
    → piece.start < at
    → at < piece_end piece
    → kept_in (left_part at piece ∷ right_part at piece ∷ pieces) place ≡ kept_in (piece ∷ pieces) place
halves_tell at piece pieces place from to =
    let left = length-left at piece from to in
    let right = length-right at piece in
    elim (cases_lt place piece.start) as
    (λ _. kept_in (left_part at piece ∷ right_part at piece ∷ pieces) place ≡ kept_in (piece ∷ pieces) place) [
      | inl ahead ↦
          kept_in-ahead (left_part at piece) (right_part at piece ∷ pieces) place ahead
          ∙ kept_in-ahead (right_part at piece) pieces place (omega arith)
          ∙ sym (kept_in-ahead piece pieces place ahead)
      | inr after ↦
          elim (cases_lt place at) as
          (λ _. kept_in (left_part at piece ∷ right_part at piece ∷ pieces) place ≡ kept_in (piece ∷ pieces) place) [
            | inl below ↦
                kept_in-here (left_part at piece) (right_part at piece ∷ pieces) place after (omega (arith, left))
                ∙ ap Some (kept_of-left at piece place (omega arith))
                ∙ sym (kept_in-here piece pieces place after (omega arith))
            | inr above ↦
                elim (cases_lt place (piece_end piece)) as
                (λ _. kept_in (left_part at piece ∷ right_part at piece ∷ pieces) place ≡ kept_in (piece ∷ pieces) place) [
                  | inl within ↦
                      kept_in-after (left_part at piece) (right_part at piece ∷ pieces) place (omega (arith, left))
                      ∙ kept_in-here (right_part at piece) pieces place above (omega (arith, right))
                      ∙ ap Some (kept_of-right at piece place (omega arith) above) ∙ sym (kept_in-here piece pieces place after within)
                  | inr beyond ↦
                      kept_in-after (left_part at piece) (right_part at piece ∷ pieces) place (omega (arith, left))
                      ∙ kept_in-after (right_part at piece) pieces place (omega (arith, right))
                      ∙ sym (kept_in-after piece pieces place beyond)
                ]
          ]
    ]

-- whether a place lies inside a piece
data_inside : (at : ℕ) (piece : Piece) → ((piece.start < at) × (at < piece_end piece)) ⊎ (parts at piece ≡ piece ∷ [])
data_inside at piece = elim (cases_lt piece.start at) as (λ _. ((piece.start < at) × (at < piece_end piece)) ⊎ (parts at piece ≡ piece ∷ [])) [
  | inl from ↦ elim (cases_lt at (piece_end piece)) as (λ _. ((piece.start < at) × (at < piece_end piece)) ⊎ (parts at piece ≡ piece ∷ [])) [
    | inl to ↦ inl (from, to)
    | inr before ↦ inr (parts-before at piece before)
  ]
  | inr beyond ↦ inr (parts-after at piece beyond)
]

-- a cut changes nothing that is told
pub cut_row-tells : (at : ℕ) (pieces : List Piece) (place : ℕ) → kept_in (cut_row at pieces) place ≡ kept_in pieces place
cut_row-tells at [] place = refl
cut_row-tells at (piece ∷ pieces) place =
    elim (data_inside at piece) as (λ _. kept_in (parts at piece ++ cut_row at pieces) place ≡ kept_in (piece ∷ pieces) place) [
      | inl inside ↦
          ap (λ ps. kept_in (ps ++ cut_row at pieces) place) (parts-inside at piece inside.0 inside.1)
          ∙ halves_tell at piece (cut_row at pieces) place inside.0 inside.1
          ∙ kept_in-cons piece (cut_row at pieces) pieces place (cut_row-tells at pieces place)
      | inr whole ↦
          ap (λ ps. kept_in (ps ++ cut_row at pieces) place) whole
          ∙ kept_in-cons piece (cut_row at pieces) pieces place (cut_row-tells at pieces place)
    ]

-- pieces in a row are in a row when they are cut
pub cut_row-row : (at low high : ℕ) (pieces : List Piece) → IsRow low pieces high → IsRow low (cut_row at pieces) high
cut_row-row at low high [] row = row
cut_row-row at low high (piece ∷ pieces) row =
    elim (data_inside at piece) as (λ _. IsRow low (parts at piece ++ cut_row at pieces) high) [
      | inl inside ↦
          let left = length-left at piece inside.0 inside.1 in
          let right = length-right at piece in
          let ends : piece_end piece ≡ piece_end (right_part at piece) = omega (arith, right, inside.0, inside.1) in
          let later : IsRow (piece_end (right_part at piece)) (cut_row at pieces) high =
          subst (λ n. IsRow n (cut_row at pieces) high) ends (cut_row-row at (piece_end piece) high pieces row.2) in
          let halves : IsRow low (left_part at piece ∷ right_part at piece ∷ cut_row at pieces) high = (
            row.0,
            omega (arith, left, inside.0),
            (omega (arith, left, inside.0), omega (arith, right, inside.0, inside.1), later),
          ) in
          subst (λ ps. IsRow low (ps ++ cut_row at pieces) high) (sym (parts-inside at piece inside.0 inside.1)) halves
      | inr whole ↦
          let same : IsRow low (piece ∷ cut_row at pieces) high = (
            row.0,
            row.1,
            cut_row-row at (piece_end piece) high pieces row.2,
          ) in
          subst (λ ps. IsRow low (ps ++ cut_row at pieces) high) (sym whole) same
    ]

pub cut_row-recut : (at low high : ℕ) (pieces : List Piece) → IsRow low pieces high → IsRecut low high pieces (cut_row at pieces)
cut_row-recut at low high pieces row = record { row = cut_row-row at low high pieces row; same = cut_row-tells at pieces }

-- pieces that are cut at a place are cut there
pub cut_row-cut : (at : ℕ) (pieces : List Piece) → IsCutAt at (cut_row at pieces)
cut_row-cut at [] = tt
cut_row-cut at (piece ∷ pieces) = elim (cases_lt piece.start at) as (λ _. IsCutAt at (parts at piece ++ cut_row at pieces)) [
  | inl from ↦ elim (cases_lt at (piece_end piece)) as (λ _. IsCutAt at (parts at piece ++ cut_row at pieces)) [
    | inl to ↦
        let left = length-left at piece from to in
        let halves : IsCutAt at (left_part at piece ∷ right_part at piece ∷ cut_row at pieces) = (
          λ _. omega (arith, left),
          (λ below. absurd (omega (arith, below)), cut_row-cut at pieces),
        ) in
        subst (λ ps. IsCutAt at (ps ++ cut_row at pieces)) (sym (parts-inside at piece from to)) halves
    | inr before ↦
        let same : IsCutAt at (piece ∷ cut_row at pieces) = (λ _. before, cut_row-cut at pieces) in
        subst (λ ps. IsCutAt at (ps ++ cut_row at pieces)) (sym (parts-before at piece before)) same
  ]
  | inr beyond ↦
      let same : IsCutAt at (piece ∷ cut_row at pieces) = (
        λ below. absurd (omega (arith, below, beyond)),
        cut_row-cut at pieces,
      ) in
      subst (λ ps. IsCutAt at (ps ++ cut_row at pieces)) (sym (parts-after at piece beyond)) same
]

-- pieces that are cut at one place stay cut there when they are cut at another
pub cut_row-keeps : (at other : ℕ) (pieces : List Piece) → IsCutAt other pieces → IsCutAt other (cut_row at pieces)
cut_row-keeps at other [] is = tt
cut_row-keeps at other (piece ∷ pieces) is =
    elim (data_inside at piece) as (λ _. IsCutAt other (parts at piece ++ cut_row at pieces)) [
      | inl inside ↦
          let left = length-left at piece inside.0 inside.1 in
          let right = length-right at piece in
          let halves : IsCutAt other (left_part at piece ∷ right_part at piece ∷ cut_row at pieces) = (
            λ below. let whole = is.0 below in omega (arith, left, whole, inside.1),
            (
              λ below. let whole = is.0 (omega (arith, below, inside.0)) in omega (arith, right, whole, inside.0, inside.1),
              cut_row-keeps at other pieces is.1,
            ),
          ) in
          subst (λ ps. IsCutAt other (ps ++ cut_row at pieces)) (sym (parts-inside at piece inside.0 inside.1)) halves
      | inr whole ↦
          let same : IsCutAt other (piece ∷ cut_row at pieces) = (is.0, cut_row-keeps at other pieces is.1) in
          subst (λ ps. IsCutAt other (ps ++ cut_row at pieces)) (sym whole) same
    ]

-- a row that is cut at a place is two rows
pub front-row : (at low high : ℕ) (front rest : List Piece) → IsRow low (front ++ rest) high → BeginBelow at front → IsCutAt at (front ++ rest) → low ≤ at → IsRow low front at
front-row at low high [] rest row below is order = order
front-row at low high (piece ∷ front) rest row below is order = (row.0, row.1, front-row at (piece_end piece) high front rest row.2 below.1 is.1 (is.0 below.0))

from-row : (at low high : ℕ) (rest : List Piece) → IsRow low rest high → BeginFrom at rest → IsRow at rest (max at high)
from-row at low high [] row from = omega arith
from-row at low high (piece ∷ rest) row from = (from.0, row.1, IsRow-higher (piece_end piece) high (max at high) rest (omega arith) row.2)

pub rest-row : (at low high : ℕ) (front rest : List Piece) → IsRow low (front ++ rest) high → BeginFrom at rest → IsRow at rest (max at high)
rest-row at low high [] rest row from = from-row at low high rest row from
rest-row at low high (piece ∷ front) rest row from = rest-row at (piece_end piece) high front rest row.2 from

pub rest-cut : (at : ℕ) (front rest : List Piece) → IsCutAt at (front ++ rest) → IsCutAt at rest
rest-cut at [] rest is = is
rest-cut at (piece ∷ front) rest is = rest-cut at front rest is.1

-- a later floor
pub raised-row : (below low high : ℕ) (pieces : List Piece) → IsRow low pieces high → IsRow below (raised below pieces) (max below high)
raised-row below low high [] row = omega arith
raised-row below low high (piece ∷ pieces) row =
    elim (cases_lt below (piece_end piece)) as (λ _. IsRow below (raised below (piece ∷ pieces)) (max below high)) [
      | inl reaches ↦
          let stays : nat_le (piece_end piece) below ≡ false = grind (arith, nat_tests) in
          let first : raised below (piece ∷ pieces)
          ≡ cond (nat_lt piece.start below) (right_part below piece ∷ pieces) (piece ∷ pieces) =
          ap (λ b. cond b (raised below pieces) (cond (nat_lt piece.start below) (right_part below piece ∷ pieces) (piece ∷ pieces)))
          stays in
          subst (λ ps. IsRow below ps (max below high)) (sym first)
          (elim (cases_lt piece.start below) as
          (λ _. IsRow below (cond (nat_lt piece.start below) (right_part below piece ∷ pieces) (piece ∷ pieces)) (max below high)) [
            | inl before ↦
                let test : nat_lt piece.start below ≡ true = grind (arith, nat_tests) in
                let right = length-right below piece in
                let ends : piece_end piece ≡ piece_end (right_part below piece) = omega (arith, right, before, reaches) in
                let later : IsRow (piece_end (right_part below piece)) pieces (max below high) =
                subst (λ n. IsRow n pieces (max below high)) ends
                (IsRow-higher (piece_end piece) high (max below high) pieces (omega arith) row.2) in
                let whole : IsRow below (right_part below piece ∷ pieces) (max below high) = (
                  omega arith,
                  omega (arith, right, before, reaches),
                  later,
                ) in
                subst (λ b. IsRow below (cond b (right_part below piece ∷ pieces) (piece ∷ pieces)) (max below high)) (sym test) whole
            | inr from ↦
                let test : nat_lt piece.start below ≡ false = grind (arith, nat_tests) in
                let whole : IsRow below (piece ∷ pieces) (max below high) = (
                  from,
                  row.1,
                  IsRow-higher (piece_end piece) high (max below high) pieces (omega arith) row.2,
                ) in
                subst (λ b. IsRow below (cond b (right_part below piece ∷ pieces) (piece ∷ pieces)) (max below high)) (sym test) whole
          ])
      | inr gone ↦
          let test : nat_le (piece_end piece) below ≡ true = grind (arith, nat_tests) in
          subst (λ b. IsRow below
          (cond b (raised below pieces) (cond (nat_lt piece.start below) (right_part below piece ∷ pieces) (piece ∷ pieces)))
          (max below high)) (sym test) (raised-row below (piece_end piece) high pieces row.2)
    ]

pub raised-tells : (below : ℕ) (pieces : List Piece) (place : ℕ) → below ≤ place → kept_in (raised below pieces) place ≡ kept_in pieces place
raised-tells below [] place from = refl
raised-tells below (piece ∷ pieces) place from =
    elim (cases_lt below (piece_end piece)) as
    (λ _. kept_in (raised below (piece ∷ pieces)) place ≡ kept_in (piece ∷ pieces) place) [
      | inl reaches ↦
          let stays : nat_le (piece_end piece) below ≡ false = grind (arith, nat_tests) in
          ap (λ b. kept_in
          (cond b (raised below pieces) (cond (nat_lt piece.start below) (right_part below piece ∷ pieces) (piece ∷ pieces))) place)
          stays
          ∙ (elim (cases_lt piece.start below) as
          (λ _. kept_in (cond (nat_lt piece.start below) (right_part below piece ∷ pieces) (piece ∷ pieces)) place ≡
          kept_in (piece ∷ pieces) place) [
            | inl before ↦
                let test : nat_lt piece.start below ≡ true = grind (arith, nat_tests) in
                let right = length-right below piece in
                ap (λ b. kept_in (cond b (right_part below piece ∷ pieces) (piece ∷ pieces)) place) test
                ∙ (elim (cases_lt place (piece_end piece)) as
                (λ _. kept_in (right_part below piece ∷ pieces) place ≡ kept_in (piece ∷ pieces) place) [
                  | inl within ↦
                      kept_in-here (right_part below piece) pieces place from (omega (arith, right, before, reaches, within))
                      ∙ ap Some (kept_of-right below piece place (omega (arith, before)) from)
                      ∙ sym (kept_in-here piece pieces place (omega (arith, before, from)) within)
                  | inr beyond ↦
                      kept_in-after (right_part below piece) pieces place (omega (arith, right, before, reaches, beyond))
                      ∙ sym (kept_in-after piece pieces place beyond)
                ])
            | inr at ↦
                let test : nat_lt piece.start below ≡ false = grind (arith, nat_tests) in
                ap (λ b. kept_in (cond b (right_part below piece ∷ pieces) (piece ∷ pieces)) place) test
          ])
      | inr gone ↦
          let test : nat_le (piece_end piece) below ≡ true = grind (arith, nat_tests) in
          ap (λ b. kept_in
          (cond b (raised below pieces) (cond (nat_lt piece.start below) (right_part below piece ∷ pieces) (piece ∷ pieces))) place)
          test
          ∙ raised-tells below pieces place from ∙ sym (kept_in-after piece pieces place (omega (arith, gone, from)))
    ]

pub recut-refl : (low high : ℕ) (pieces : List Piece) → IsRow low pieces high → IsRecut low high pieces pieces
recut-refl low high pieces row = record { row = row; same = λ place. refl }
