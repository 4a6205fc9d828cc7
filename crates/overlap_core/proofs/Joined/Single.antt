-- A piece that is all that a row has below a place is moved out as a run.
use Rattle.std.proofs.Common.{◌≡◌, ℕ, ◌-◌, ◌<◌, ◌≤◌, List, [], ◌∷◌, ◌++◌, Some, true, cond, nat_le, nat_lt, length, take, remove, slice_get, refl, ap, sym, subst, ◌∙◌, arith}
use Rattle.std.proofs.lemmas.Bool.Decides.{nat_tests}
use Rattle.std.proofs.lemmas.List.{take_all}
use Rattle.piece_list.specs.Pieces.{Pieces, pieces as listed}
use Rattle.overlap_core.specs.declared.segment.Run.{Run}
use Rattle.overlap_core.specs.Joined.{byte_in, FirstFrom, run_of, with_run}
use Rattle.overlap_core.specs.Pieces.{IsRow, Piece, piece_end}
use Rattle.overlap_core.specs.Rows.{raised, right_part}
use Rattle.overlap_core.specs.Runs.{AppendsRuns, AreRuns}
use Rattle.overlap_core.proofs.Joined.Joining.{IsJoining, joining-begins, joining_more, joining_out, joining_past, make_run}

-- where the pieces that are left begin at the limit or after it, or there are none
joining_stops : (whole rest : List Piece) (runs : List Run) (floor below top : ℕ) → IsJoining whole rest runs floor below top → FirstFrom below rest → AreRuns (byte_in whole) floor below runs
joining_stops whole [] runs floor below top now from = joining_out whole [] runs floor below top now refl
joining_stops whole (piece ∷ rest) runs floor below top now from = joining_past whole (piece ∷ rest) rest piece runs floor below top now refl from

first-run : (piece : Piece) (rest : List Piece) (floor below top : ℕ)
    → IsRow floor (piece ∷ rest) top
    → floor ≤ below
    → piece_end piece ≤ below
    → FirstFrom below rest
    → AreRuns (byte_in (piece ∷ rest)) floor below (run_of piece ∷ [])
first-run piece rest floor below top row order ends from =
    let under : piece.start < below = omega (arith, row.1, ends) in
    let whole : take (below - piece.start) piece.bytes ≡ piece.bytes =
    take_all (below - piece.start) piece.bytes (omega (arith, ends)) in
    let added : run_of piece ∷ [] ≡ with_run [] piece.start (take (below - piece.start) piece.bytes) =
    ap (λ bs. make_run piece.start bs ∷ []) (sym whole) in
    joining_stops (piece ∷ rest) rest (run_of piece ∷ []) floor below top
    (joining_more (piece ∷ rest) rest piece [] (run_of piece ∷ []) floor below top
    (joining-begins (piece ∷ rest) floor below top row order) under added)
    from

-- the runs, where the first piece ends at the limit or before it and the next begins there or after
pub first-runs : (pieces : List Piece) (piece : Piece) (rest : List Piece) (below : ℕ) (old new : List Run)
    → pieces ≡ piece ∷ rest
    → piece_end piece ≤ below
    → FirstFrom below rest
    → new ≡ old ++ run_of piece ∷ []
    → (floor top : ℕ)
    → IsRow floor pieces top
    → floor ≤ below
    → AppendsRuns (byte_in pieces) floor below old new
first-runs pieces piece rest below old new is ends from added floor top row order = (
  run_of piece ∷ [],
  added,
  subst (λ ps. AreRuns (byte_in ps) floor below (run_of piece ∷ [])) (sym is) (first-run piece rest floor below top (subst (λ ps. IsRow floor ps top) is row) order ends from),
)

-- where the first piece ends at the limit or before it, what is left of all pieces is left of those after it
pub first-raised : (below : ℕ) (pieces : List Piece) (piece : Piece) (rest : List Piece) → pieces ≡ piece ∷ rest → piece_end piece ≤ below → raised below pieces ≡ raised below rest
first-raised below pieces piece rest is ends =
    let test : nat_le (piece_end piece) below ≡ true = grind (arith, nat_tests) in
    ap (raised below) is ∙ ap (λ b. cond b (raised below rest) (cond (nat_lt piece.start below) (right_part below piece ∷ rest) (piece ∷ rest))) test

-- the first piece is taken out
pub first-out : (pieces front left : Pieces Piece) (taken piece : Piece) (rest : List Piece) (n m : ℕ)
    → pieces.list ≡ piece ∷ rest
    → front ≡ listed pieces.list 0 n
    → Some taken ≡ slice_get front.list front.place
    → left ≡ listed (remove front.list front.place) front.place m
    → (taken ≡ piece) × (left.list ≡ rest)
first-out pieces front left taken piece rest n m is at found out =
    let list : front.list ≡ piece ∷ rest = ap (λ (p : Pieces Piece). p.list) at ∙ is in
    let place : front.place ≡ 0 = ap (λ (p : Pieces Piece). p.place) at in
    let here : Some taken ≡ Some piece = found ∙ ap (λ ps. slice_get ps front.place) list ∙ ap (slice_get (piece ∷ rest)) place in
    let same : taken ≡ piece = cc in
    (same, ap (λ (p : Pieces Piece). p.list) out ∙ ap (λ ps. remove ps front.place) list ∙ ap (remove (piece ∷ rest)) place)

-- where there are no old runs, the new ones are all runs
pub no_runs : (old runs : List Run) → length old ≡ 0 → runs ≡ old ++ runs
no_runs [] runs none = refl
no_runs (run ∷ old) runs none = absurd (omega (arith, none))

-- where the first of the pieces that are left begins at the limit or after it, or there is none
pub first-none : (below : ℕ) (rest : List Piece) → rest ≡ [] → FirstFrom below rest
first-none below rest none = subst (FirstFrom below) (sym none) tt

pub first-begins : (below : ℕ) (rest later : List Piece) (piece : Piece) → rest ≡ piece ∷ later → below ≤ piece.start → FirstFrom below rest
first-begins below rest later piece is from = subst (FirstFrom below) (sym is) from
