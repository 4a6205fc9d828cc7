-- What pieces tell once a segment is laid over them.
use Rattle.std.proofs.Common.{◌≡◌, ℕ, ◌+◌, ◌-◌, ◌<◌, ◌≤◌, List, [], ◌∷◌, ◌++◌, Option, Some, None, Bool, true, false, ◌&&◌, cond}
use Rattle.std.proofs.Common.{nat_lt, nat_le, length, max, min, drop, get_or, refl, ap, sym, subst, ◌∙◌, arith, length-drop, inl}
use Rattle.std.proofs.Common.{inr}
use Rattle.std.proofs.lemmas.Bool.{cases_lt}
use Rattle.std.proofs.lemmas.Bool.Decides.{nat_tests}
use Rattle.std.proofs.lemmas.List.{length-take-le, get_or-take, get_or-drop}
use Rattle.edge_io.specs.declared.policy.Preference.{Preference}
use Rattle.overlap_core.specs.declared.segment.Bounds.{Bounds}
use Rattle.overlap_core.specs.Segments.{Segment}
use Rattle.overlap_core.specs.Overlap.{bounds_of, covers, end_of, wins}
use Rattle.overlap_core.specs.Pieces.{HoldChosen, IsRow, Kept, kept_at, kept_in, kept_of, Piece, piece_end}
use Rattle.overlap_core.specs.Rows.{BeginBelow, BeginFrom, gap_piece, IsCutAt, laid, overlaid, part_of}
use Rattle.overlap_core.proofs.Segments.Arrivals.{kept_after, kept_after-snoc, stronger_kept}
use Rattle.overlap_core.proofs.Rows.Telling.{end-below, front-row, IsRow-append, IsRow-higher, IsRow-lower, kept_in-ahead}
use Rattle.overlap_core.proofs.Rows.Telling.{kept_in-before_row, kept_in-after, kept_in-after_row, kept_in-front, kept_in-here}
use Rattle.overlap_core.proofs.Rows.Telling.{kept_in-rest, rest-cut, rest-row}

length-part : (new : Segment) (low high : ℕ) → new.start ≤ low → low ≤ high → high ≤ end_of new → length (part_of new low high).bytes ≡ high - low
length-part new low high from order to = length-take-le (high - low) (drop (low - new.start) new.bytes) (omega (arith, length-drop (low - new.start) new.bytes))

abbrev kept_by : Bounds → ℕ → Kept
kept_by whole byte = record { whole = whole; byte = byte }

-- a part of the segment tells what the segment tells
kept_of-part : (new : Segment) (low high place : ℕ) → new.start ≤ low → low ≤ place → place < high → kept_of place (part_of new low high) ≡ kept_at place new
kept_of-part new low high place from here below =
    let within : place - low < high - low = omega arith in
    let same : (low - new.start) + (place - low) ≡ place - new.start = omega arith in
    ap (λ b. kept_by (bounds_of new) b)
    (get_or-take (high - low) (drop (low - new.start) new.bytes) (place - low) 0 within ∙ get_or-drop (low - new.start) new.bytes (place - low) 0 ∙ ap (λ n. get_or new.bytes n 0) same)

-- a gap that is filled, before other pieces
gap-in : (new : Segment) (low high place : ℕ) (pieces : List Piece)
    → new.start ≤ low
    → high ≤ end_of new
    → low ≤ place
    → place < high
    → kept_in (gap_piece new low high ++ pieces) place ≡ Some (kept_at place new)
gap-in new low high place pieces from to here below =
    let some : nat_lt low high ≡ true = grind (arith, nat_tests) in
    let long = length-part new low high from (omega arith) to in
    ap (λ b. kept_in (cond b (part_of new low high ∷ []) [] ++ pieces) place) some
    ∙ kept_in-here (part_of new low high) pieces place here (omega (arith, long)) ∙ ap Some (kept_of-part new low high place from here below)

gap-out : (new : Segment) (low high place : ℕ) (pieces : List Piece) → new.start ≤ low → high ≤ end_of new → high ≤ place → kept_in (gap_piece new low high ++ pieces) place ≡ kept_in pieces place
gap-out new low high place pieces from to beyond = elim (cases_lt low high) as (λ _. kept_in (gap_piece new low high ++ pieces) place ≡ kept_in pieces place) [
  | inl some ↦
      let test : nat_lt low high ≡ true = grind (arith, nat_tests) in
      let long = length-part new low high from (omega arith) to in
      ap (λ b. kept_in (cond b (part_of new low high ∷ []) [] ++ pieces) place) test ∙ kept_in-after (part_of new low high) pieces place (omega (arith, long, some, beyond))
  | inr none ↦
      let test : nat_lt low high ≡ false = grind (arith, nat_tests) in
      ap (λ b. kept_in (cond b (part_of new low high ∷ []) [] ++ pieces) place) test
]

gap-row : (new : Segment) (low high top : ℕ) (pieces : List Piece) → new.start ≤ low → high ≤ end_of new → IsRow (max low high) pieces top → IsRow low (gap_piece new low high ++ pieces) top
gap-row new low high top pieces from to row = elim (cases_lt low high) as (λ _. IsRow low (gap_piece new low high ++ pieces) top) [
  | inl some ↦
      let test : nat_lt low high ≡ true = grind (arith, nat_tests) in
      let long = length-part new low high from (omega arith) to in
      let ends : max low high ≡ piece_end (part_of new low high) = omega (arith, long, some) in
      let whole : IsRow low (part_of new low high ∷ pieces) top = (omega arith, omega (arith, long, some), subst (λ n. IsRow n pieces top) ends row) in
      subst (λ b. IsRow low (cond b (part_of new low high ∷ []) [] ++ pieces) top) (sym test) whole
  | inr none ↦
      let test : nat_lt low high ≡ false = grind (arith, nat_tests) in
      subst (λ b. IsRow low (cond b (part_of new low high ∷ []) [] ++ pieces) top) (sym test) (IsRow-lower (max low high) low top pieces (omega arith) row)
]

-- the piece that is kept where both have bytes, by cases
abbrev IsOverlaid : Preference → Segment → Piece → Piece → Type 0
IsOverlaid preference new piece over = (over.start ≡ piece.start) × (length over.bytes ≡ length piece.bytes)
    × ((place : ℕ) → piece.start ≤ place → place < piece_end piece → Some (kept_of place over) ≡ kept_after preference place (Some (kept_of place piece)) new)

stronger-by : (preference : Preference) (new : Segment) (piece : Piece) (place : ℕ) (b : Bool) → wins preference piece.whole (bounds_of new) ≡ b → covers new place ≡ true
    → kept_after preference place (Some (kept_of place piece)) new ≡ Some (cond b (kept_at place new) (kept_of place piece))
stronger-by preference new piece place b is covered =
    ap
    (λ t. cond t (Some (stronger_kept preference (Some (kept_of place piece)) (kept_at place new))) (Some (kept_of place piece)))
    covered
    ∙ ap (λ t. Some (cond t (kept_at place new) (kept_of place piece))) is

uncovered-kept : (preference : Preference) (new : Segment) (kept : Option Kept) (place : ℕ) → covers new place ≡ false → kept_after preference place kept new ≡ kept
uncovered-kept preference new kept place uncovered = ap (λ t. cond t (Some (stronger_kept preference kept (kept_at place new))) kept) uncovered

covered_new : (preference : Preference) (new : Segment) (place : ℕ) → covers new place ≡ true → kept_after preference place None new ≡ Some (kept_at place new)
covered_new preference new place covered = ap (λ t. cond t (Some (kept_at place new)) None) covered

abbrev within_new : Segment → Piece → Bool
within_new new piece = nat_le new.start piece.start && nat_le (piece_end piece) (end_of new)

and_true : (a b : Bool) → a ≡ true → (a && b) ≡ b
and_true true b is = refl
and_true false b is = cc

overlaid-within : (preference : Preference) (new : Segment) (piece : Piece) (b : Bool) → new.start ≤ piece.start → piece_end piece ≤ end_of new → wins preference piece.whole (bounds_of new) ≡ b
    → overlaid preference new piece ≡ cond b (part_of new piece.start (piece_end piece)) piece
overlaid-within preference new piece b from to is =
    let inside : within_new new piece ≡ true = grind (arith, nat_tests) in
    ap (λ t. cond t (part_of new piece.start (piece_end piece)) piece) (and_true (within_new new piece) (wins preference piece.whole (bounds_of new)) inside ∙ is)

overlaid-outside : (preference : Preference) (new : Segment) (piece : Piece) → end_of new < piece_end piece → overlaid preference new piece ≡ piece
overlaid-outside preference new piece past =
    let fails : within_new new piece ≡ false = grind (arith, nat_tests) in
    ap (λ t. cond (t && wins preference piece.whole (bounds_of new)) (part_of new piece.start (piece_end piece)) piece) fails

overlaid_by : (preference : Preference) (new : Segment) (piece : Piece) (b : Bool)
    → new.start ≤ piece.start
    → 0 < length piece.bytes
    → piece_end piece ≤ end_of new
    → wins preference piece.whole (bounds_of new) ≡ b
    → IsOverlaid preference new piece (cond b (part_of new piece.start (piece_end piece)) piece)
overlaid_by preference new piece true from some to is =
    let long = length-part new piece.start (piece_end piece) from (omega arith) to in (
      refl,
      omega (arith, long),
      λ place here below.
          let covered : covers new place ≡ true = grind (arith, nat_tests) in
          ap Some (kept_of-part new piece.start (piece_end piece) place from here below) ∙ sym (stronger-by preference new piece place true is covered),
    )
overlaid_by preference new piece false from some to is =
    (refl, refl, λ place here below. let covered : covers new place ≡ true = grind (arith, nat_tests) in sym (stronger-by preference new piece place false is covered))

overlaid-is : (preference : Preference) (new : Segment) (piece : Piece)
    → new.start ≤ piece.start
    → 0 < length piece.bytes
    → (piece.start < end_of new → piece_end piece ≤ end_of new)
    → IsOverlaid preference new piece (overlaid preference new piece)
overlaid-is preference new piece from some cut = elim (cases_lt piece.start (end_of new)) as (λ _. IsOverlaid preference new piece (overlaid preference new piece)) [
  | inl below ↦
      subst (IsOverlaid preference new piece) (sym (overlaid-within preference new piece (wins preference piece.whole (bounds_of new)) from (cut below) refl))
      (overlaid_by preference new piece (wins preference piece.whole (bounds_of new)) from some (cut below) refl)
  | inr beyond ↦
      let same : IsOverlaid preference new piece piece =
      (refl, refl, λ place here below. let uncovered : covers new place ≡ false = grind (arith, nat_tests) in sym (uncovered-kept preference new (Some (kept_of place piece)) place uncovered)) in
      subst (IsOverlaid preference new piece) (sym (overlaid-outside preference new piece (omega (arith, beyond, some)))) same
]

-- the laid pieces are a row
pub laid-row : (preference : Preference) (new : Segment) (low top : ℕ) (rest : List Piece)
    → new.start ≤ low
    → IsRow low rest top
    → IsCutAt (end_of new) rest
    → IsRow low (laid preference new low rest) (max top (end_of new))
laid-row preference new low top [] from row cut =
    subst (λ ps. IsRow low ps (max top (end_of new)))
    (append_none (gap_piece new low (end_of new)))
    (gap-row new low (end_of new) (max top (end_of new)) [] from (omega arith) (omega (arith, row)))
  where
    append_none : (ps : List Piece) → ps ++ [] ≡ ps
    append_none [] = refl
    append_none (p ∷ ps) = ap (λ qs. p ∷ qs) (append_none ps)
laid-row preference new low top (piece ∷ rest) from row cut =
    let over = overlaid preference new piece in
    let is = overlaid-is preference new piece (omega (arith, from, row.0)) row.1 cut.0 in
    let ends : piece_end piece ≡ piece_end over = omega (arith, is.0, is.1) in
    let later = laid-row preference new (piece_end piece) top rest (omega (arith, from, row.0)) row.2 cut.1 in
    gap-row new low (min piece.start (end_of new)) (max top (end_of new)) (over ∷ laid preference new (piece_end piece) rest) from (omega arith)
    (omega (arith, is.0, row.0), omega (arith, is.1, row.1), subst (λ n. IsRow n (laid preference new (piece_end piece) rest) (max top (end_of new))) ends later)

-- the pieces with a segment laid over them tell what is kept once it has come
pub laid-tells : (preference : Preference) (new : Segment) (low top : ℕ) (rest : List Piece) (place : ℕ) → new.start ≤ low → IsRow low rest top → IsCutAt (end_of new) rest → low ≤ place
    → kept_in (laid preference new low rest) place ≡ kept_after preference place (kept_in rest place) new
laid-tells preference new low top [] place from row cut here =
    ap (λ ps. kept_in ps place) (sym (append_none (gap_piece new low (end_of new))))
    ∙ (elim (cases_lt place (end_of new)) as
    (λ _. kept_in (gap_piece new low (end_of new) ++ []) place ≡ kept_after preference place None new) [
      | inl below ↦
          let covered : covers new place ≡ true = grind (arith, nat_tests) in
          gap-in new low (end_of new) place [] from (omega arith) here below ∙ sym (covered_new preference new place covered)
      | inr beyond ↦
          let uncovered : covers new place ≡ false = grind (arith, nat_tests) in
          gap-out new low (end_of new) place [] from (omega arith) beyond
          ∙ sym (uncovered-kept preference new None place uncovered)
    ])
  where
    append_none : (ps : List Piece) → ps ++ [] ≡ ps
    append_none [] = refl
    append_none (p ∷ ps) = ap (λ qs. p ∷ qs) (append_none ps)
laid-tells preference new low top (piece ∷ rest) place from row cut here =
    let over = overlaid preference new piece in
    let is = overlaid-is preference new piece (omega (arith, from, row.0)) row.1 cut.0 in
    let later = laid preference new (piece_end piece) rest in
    let until = min piece.start (end_of new) in
    elim (cases_lt place piece.start) as
    (λ _. kept_in (gap_piece new low until ++ (over ∷ later)) place ≡
    kept_after preference place (kept_in (piece ∷ rest) place) new) [
      | inl ahead ↦
          let none : kept_in (piece ∷ rest) place ≡ None =
          kept_in-ahead piece rest place ahead
          ∙ kept_in-before_row (piece_end piece) top rest place row.2 (omega (arith, ahead)) in
          elim (cases_lt place (end_of new)) as
          (λ _. kept_in (gap_piece new low until ++ (over ∷ later)) place ≡
          kept_after preference place (kept_in (piece ∷ rest) place) new) [
            | inl below ↦
                let covered : covers new place ≡ true = grind (arith, nat_tests) in
                gap-in new low until place (over ∷ later) from (omega arith) here (omega (arith, ahead, below))
                ∙ sym (covered_new preference new place covered)
                ∙ ap (λ k. kept_after preference place k new) (sym none)
            | inr beyond ↦
                let uncovered : covers new place ≡ false = grind (arith, nat_tests) in
                let later_row = laid-row preference new (piece_end piece) top rest (omega (arith, from, row.0)) row.2 cut.1 in
                gap-out new low until place (over ∷ later) from (omega arith) (omega (arith, beyond))
                ∙ kept_in-ahead over later place (omega (arith, is.0, ahead))
                ∙ kept_in-before_row (piece_end piece) (max top (end_of new)) later place later_row (omega (arith, ahead))
                ∙ sym (uncovered-kept preference new None place uncovered)
                ∙ ap (λ k. kept_after preference place k new) (sym none)
          ]
      | inr after ↦
          let out = gap-out new low until place (over ∷ later) from (omega arith) (omega (arith, after)) in
          elim (cases_lt place (piece_end piece)) as
          (λ _. kept_in (gap_piece new low until ++ (over ∷ later)) place ≡
          kept_after preference place (kept_in (piece ∷ rest) place) new) [
            | inl within ↦
                out
                ∙ kept_in-here over later place (omega (arith, is.0, after)) (omega (arith, is.0, is.1, within))
                ∙ is.2 place after within
                ∙ ap (λ k. kept_after preference place k new) (sym (kept_in-here piece rest place after within))
            | inr beyond ↦
                out
                ∙ kept_in-after over later place (omega (arith, is.0, is.1, beyond))
                ∙ laid-tells preference new (piece_end piece) top rest place (omega (arith, from, row.0)) row.2 cut.1 beyond
                ∙ ap (λ k. kept_after preference place k new) (sym (kept_in-after piece rest place beyond))
          ]
    ]

-- the whole row, from a floor on
pub whole-row : (preference : Preference) (new : Segment) (floor top : ℕ) (front rest : List Piece)
    → IsRow floor (front ++ rest) top
    → BeginBelow (max floor new.start) front
    → BeginFrom (max floor new.start) rest
    → IsCutAt (max floor new.start) (front ++ rest)
    → IsCutAt (end_of new) (front ++ rest)
    → IsRow floor (front ++ laid preference new (max floor new.start) rest) (max (max (max floor new.start) top) (end_of new))
whole-row preference new floor top front rest row below from begins ends =
    let low = max floor new.start in
    IsRow-append floor low (max (max low top) (end_of new)) front (laid preference new low rest) (front-row low floor top front rest row below begins (omega arith))
    (laid-row preference new low (max low top) rest (omega arith) (rest-row low floor top front rest row from) (rest-cut (end_of new) front rest ends))

pub whole-tells : (preference : Preference) (new : Segment) (floor top : ℕ) (front rest : List Piece) (place : ℕ)
    → IsRow floor (front ++ rest) top
    → BeginBelow (max floor new.start) front
    → BeginFrom (max floor new.start) rest
    → IsCutAt (max floor new.start) (front ++ rest)
    → IsCutAt (end_of new) (front ++ rest)
    → floor ≤ place
    → kept_in (front ++ laid preference new (max floor new.start) rest) place ≡
    kept_after preference place (kept_in (front ++ rest) place) new
whole-tells preference new floor top front rest place row below from begins ends here =
    let low = max floor new.start in
    let before = front-row low floor top front rest row below begins (omega arith) in
    let beyond = rest-row low floor top front rest row from in
    let cut = rest-cut (end_of new) front rest ends in
    elim (cases_lt place low) as
    (λ _. kept_in (front ++ laid preference new low rest) place ≡
    kept_after preference place (kept_in (front ++ rest) place) new) [
      | inl ahead ↦
          let uncovered : covers new place ≡ false = grind (arith, nat_tests) in
          let laid_row = laid-row preference new low (max low top) rest (omega arith) beyond cut in
          kept_in-front front (laid preference new low rest) place
          (kept_in-before_row low (max (max low top) (end_of new)) (laid preference new low rest) place laid_row ahead)
          ∙ sym (kept_in-front front rest place (kept_in-before_row low (max low top) rest place beyond ahead))
          ∙ sym (uncovered-kept preference new (kept_in (front ++ rest) place) place uncovered)
      | inr after ↦
          let none = kept_in-after_row floor low front place before after in
          kept_in-rest front (laid preference new low rest) place none
          ∙ laid-tells preference new low (max low top) rest place (omega arith) beyond cut after
          ∙ ap (λ k. kept_after preference place k new) (sym (kept_in-rest front rest place none))
    ]

pub whole-holds : (preference : Preference) (new : Segment) (segments : List Segment) (floor : ℕ) (old laid_over : List Piece) → HoldChosen preference segments floor old
    → ((place : ℕ) → floor ≤ place → kept_in laid_over place ≡ kept_after preference place (kept_in old place) new) → HoldChosen preference (segments ++ new ∷ []) floor laid_over
whole-holds preference new segments floor old laid_over holds tells = λ place from.
    tells place from ∙ ap (λ k. kept_after preference place k new) (holds place from) ∙ sym (kept_after-snoc preference segments new place)

-- what is laid over the pieces from a floor on, by how it was made
pub record IsLaidOver (preference : Preference) (new : Segment) (floor : ℕ) (old laid_over : List Piece) : Type 0 where
  pub front : List Piece
  pub rest : List Piece
  pub list : old ≡ front ++ rest
  pub below : BeginBelow (max floor new.start) front
  pub from : BeginFrom (max floor new.start) rest
  pub begins : IsCutAt (max floor new.start) old
  pub ends : IsCutAt (end_of new) old
  pub is : laid_over ≡ front ++ laid preference new (max floor new.start) rest

pub laid_over-row : (preference : Preference) (new : Segment) (floor top : ℕ) (old laid_over : List Piece)
    → IsLaidOver preference new floor old laid_over
    → IsRow floor old top
    → IsRow floor laid_over (max top (end_of new))
laid_over-row preference new floor top old laid_over made row =
    let order = end-below floor top old row in
    let whole =
    whole-row preference new floor top made.front made.rest (subst (λ ps. IsRow floor ps top) made.list row)
    made.below made.from
    (subst (IsCutAt (max floor new.start)) made.list made.begins)
    (subst (IsCutAt (end_of new)) made.list made.ends) in
    subst (λ ps. IsRow floor ps (max top (end_of new))) (sym made.is)
    (IsRow-higher floor (max (max (max floor new.start) top) (end_of new))
    (max top (end_of new))
    (made.front ++ laid preference new (max floor new.start) made.rest)
    (omega (arith, order)) whole)

pub laid_over-holds : (preference : Preference) (new : Segment) (segments : List Segment) (floor top : ℕ)
    (old laid_over : List Piece)
    → IsLaidOver preference new floor old laid_over
    → IsRow floor old top
    → HoldChosen preference segments floor old
    → HoldChosen preference (segments ++ new ∷ []) floor laid_over
laid_over-holds preference new segments floor top old laid_over made row holds =
    whole-holds preference new segments floor old laid_over holds
    (λ place from. ap (λ ps. kept_in ps place) made.is
    ∙ whole-tells preference new floor top made.front made.rest place (subst (λ ps. IsRow floor ps top) made.list row)
    made.below made.from
    (subst (IsCutAt (max floor new.start)) made.list made.begins)
    (subst (IsCutAt (end_of new)) made.list made.ends) from
    ∙ ap (λ ps. kept_after preference place (kept_in ps place) new) (sym made.list))
