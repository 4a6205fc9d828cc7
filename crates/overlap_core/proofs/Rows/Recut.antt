-- A cut, whatever it answers, and the way to room for a segment.
use Rattle.std.proofs.Common.{◌≡◌, ℕ, List, ◌∷◌, [], ◌++◌, Result, Ok, Err, OnOk, OnErr, length, subst, sym, ◌∙◌}
use Rattle.piece_list.specs.Pieces.{Pieces}
use Rattle.overlap_core.specs.Pieces.{IsRow, Piece}
use Rattle.overlap_core.specs.Rows.{BeginBelow, BeginFrom, cut_row, IsCutAt, IsRecut, parts, Between}
use Rattle.overlap_core.proofs.Rows.Places.{cut_whole}
use Rattle.overlap_core.proofs.Rows.Telling.{cut_row-cut, cut_row-keeps, cut_row-recut, cut_row-row, recut-refl}

pub recut_of : {X E : Type 0} (at low high : ℕ) (answer : Result X E) (old moved new : Pieces Piece)
    → IsRow low old.list high
    → moved.list ≡ old.list
    → ((front rest : List Piece) → old.list ≡ front ++ rest → BeginBelow at front → BeginFrom at rest →
    moved.place ≡ length front)
    → OnOk answer
    ((front rest : List Piece) (last : Piece) → Between moved (front ++ last ∷ []) rest →
    new.list ≡ front ++ (parts at last ++ rest))
    → OnOk answer (moved.place ≡ 0 → new.list ≡ moved.list)
    → OnErr answer (new.list ≡ moved.list)
    → IsRecut low high old.list new.list
recut_of at low high (Ok x) old moved new row list place ok first err =
    subst (λ ps. IsRecut low high old.list ps) (sym (cut_whole at low high old moved new row list place ok first))
    (cut_row-recut at low high old.list row)
recut_of at low high (Err e) old moved new row list place ok first err = subst (λ ps. IsRecut low high old.list ps) (sym (err ∙ list)) (recut-refl low high old.list row)

pub recut-trans : (low high : ℕ) (old mid new : List Piece) → IsRecut low high old mid → IsRecut low high mid new → IsRecut low high old new
recut-trans low high old mid new one two = record { row = two.row; same = λ place. two.same place ∙ one.same place }

-- cut at both ends of a segment
pub room-cuts : (low end_at floor top : ℕ) (old mid new : List Piece)
    → IsRow floor old top
    → ((l h : ℕ) → IsRow l old h → mid ≡ cut_row low old)
    → ((l h : ℕ) → IsRow l mid h → new ≡ cut_row end_at mid)
    → IsCutAt low new × IsCutAt end_at new × IsRow floor new top
room-cuts low end_at floor top old mid new row first second =
    let mid_is = first floor top row in
    let mid_row : IsRow floor mid top = subst (λ ps. IsRow floor ps top) (sym mid_is) (cut_row-row low floor top old row) in
    let new_is = second floor top mid_row in (
      subst (IsCutAt low) (sym new_is) (cut_row-keeps end_at low mid (subst (IsCutAt low) (sym mid_is) (cut_row-cut low old))),
      subst (IsCutAt end_at) (sym new_is) (cut_row-cut end_at mid),
      subst (λ ps. IsRow floor ps top) (sym new_is) (cut_row-row end_at floor top mid mid_row),
    )
