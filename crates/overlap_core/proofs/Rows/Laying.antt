-- The walks that make buffers for the gaps and that lay a segment over pieces.
use Rattle.std.proofs.Common.{◌≡◌, ℕ, ◌+◌, ◌-◌, ◌<◌, ◌≤◌, List, [], ◌∷◌, ◌++◌, Some, None, Bool, true, false, IsTrue, ◌↔◌, ◌&&◌}
use Rattle.std.proofs.Common.{cond, nat_lt, nat_le, length, map, min, take, drop, if◌then◌else◌, refl, ap, sym, subst, ◌∙◌}
use Rattle.std.proofs.Common.{append_assoc, append-nil, arith}
use Rattle.std.proofs.lemmas.Bool.Decides.{nat_tests}
use Rattle.std.proofs.lemmas.List.{take_at, drop_at}
use Rattle.edge_io.specs.declared.policy.Preference.{Preference}
use Rattle.piece_list.specs.Pieces.{Pieces, pieces as listed}
use Rattle.overlap_core.specs.declared.segment.Bounds.{Bounds}
use Rattle.overlap_core.specs.Segments.{Segment}
use Rattle.overlap_core.specs.Overlap.{bounds_of, end_of, wins}
use Rattle.overlap_core.specs.Pieces.{IsRow, Piece, piece_end}
use Rattle.overlap_core.specs.Rows.{gap_piece, gap_size, gap_sizes, IsReady, laid, NextBelow, overlaid, part_of, Between}
use Rattle.overlap_core.proofs.Rows.Places.{IsWalk, smaller_between, between-next}

gap_size-none : (low high : ℕ) → high ≤ low → gap_size low high ≡ []
gap_size-none low high order = let fails : nat_lt low high ≡ false = grind (arith, nat_tests) in ap (λ b. cond b ((high - low) ∷ []) []) fails

gap_piece-none : (new : Segment) (low high : ℕ) → high ≤ low → gap_piece new low high ≡ []
gap_piece-none new low high order = let fails : nat_lt low high ≡ false = grind (arith, nat_tests) in ap (λ b. cond b (part_of new low high ∷ []) []) fails

-- at the limit and after it there is no gap
gap_sizes-none : (low high top : ℕ) (rest : List Piece) → high ≤ low → IsRow low rest top → gap_sizes low high rest ≡ []
gap_sizes-none low high top [] order row = gap_size-none low high order
gap_sizes-none low high top (piece ∷ rest) order row =
    ap (λ s. s ++ gap_sizes (piece_end piece) high rest) (gap_size-none low (min piece.start high) (omega arith)) ∙ gap_sizes-none (piece_end piece) high top rest (omega (arith, row.0)) row.2

pub gap_sizes-end : (low high top : ℕ) (rest : List Piece) → NextBelow rest high None → IsRow low rest top → gap_sizes low high rest ≡ gap_size low high
gap_sizes-end low high top [] next row = refl
gap_sizes-end low high top (piece ∷ rest) next row =
    let at_limit : min piece.start high ≡ high = omega (arith, next) in
    ap (λ n. gap_size low n ++ gap_sizes (piece_end piece) high rest) at_limit
    ∙ ap (λ s. gap_size low high ++ s) (gap_sizes-none (piece_end piece) high top rest (omega (arith, next)) row.2) ∙ append-nil (gap_size low high)

overlaid-past : (preference : Preference) (new : Segment) (piece : Piece) → end_of new < piece_end piece → overlaid preference new piece ≡ piece
overlaid-past preference new piece past =
    let fails : (nat_le new.start piece.start && nat_le (piece_end piece) (end_of new) &&
    wins preference piece.whole (bounds_of new))
    ≡ false =
    not_all (nat_le new.start piece.start) (nat_le (piece_end piece) (end_of new)) (wins preference piece.whole (bounds_of new))
    (grind (arith, nat_tests)) in
    ap (λ b. cond b (part_of new piece.start (piece_end piece)) piece) fails
  where
    not_all : (a b c : Bool) → b ≡ false → (a && b && c) ≡ false
    not_all true true c is = cc
    not_all true false c is = refl
    not_all false b c is = refl

-- after its end a segment changes nothing
pub laid-past : (preference : Preference) (new : Segment) (low top : ℕ) (rest : List Piece) → end_of new ≤ low → IsRow low rest top → laid preference new low rest ≡ rest
laid-past preference new low top [] order row = gap_piece-none new low (end_of new) order
laid-past preference new low top (piece ∷ rest) order row =
    ap (λ s. s ++ (overlaid preference new piece ∷ laid preference new (piece_end piece) rest)) (gap_piece-none new low (min piece.start (end_of new)) (omega arith))
    ∙ ap (λ p. p ∷ laid preference new (piece_end piece) rest) (overlaid-past preference new piece (omega (arith, row.0, row.1)))
    ∙ ap (λ ps. piece ∷ ps) (laid-past preference new (piece_end piece) top rest (omega (arith, row.0)) row.2)

pub laid-end : (preference : Preference) (new : Segment) (low top : ℕ) (rest : List Piece)
    → NextBelow rest (end_of new) None
    → IsRow low rest top
    → laid preference new low rest ≡ gap_piece new low (end_of new) ++ rest
laid-end preference new low top [] next row = sym (append-nil (gap_piece new low (end_of new)))
laid-end preference new low top (piece ∷ rest) next row =
    let at_end : min piece.start (end_of new) ≡ end_of new = omega (arith, next) in
    ap (λ n. gap_piece new low n ++ (overlaid preference new piece ∷ laid preference new (piece_end piece) rest)) at_end
    ∙ ap (λ p. gap_piece new low (end_of new) ++ (p ∷ laid preference new (piece_end piece) rest)) (overlaid-past preference new piece (omega (arith, next, row.1)))
    ∙ ap (λ ps. gap_piece new low (end_of new) ++ (piece ∷ ps)) (laid-past preference new (piece_end piece) top rest (omega (arith, next)) row.2)

-- one more piece passed, and the gap before it has its buffer
pub buffers_more : (low high top : ℕ) (pieces on : Pieces Piece) (moved : Bool) (next : Bounds) (old new whole : List ℕ)
    (walk : IsWalk pieces low top (λ later. old ++ gap_sizes low high later ≡ whole))
    → NextBelow walk.rest high (Some next)
    → (IsTrue moved ↔ (pieces.place < length pieces.list))
    → on ≡ listed pieces.list (if moved then pieces.place + 1 else pieces.place) pieces.spare
    → new ≡ old ++ gap_size low next.start
    → IsWalk on next.end top (λ later. new ++ gap_sizes next.end high later ≡ whole)
buffers_more low high top pieces on moved next old new whole walk is tells goes sized = by_rest walk.rest walk.between walk.row walk.holds is
  where
    by_rest : (rest : List Piece)
        → Between pieces walk.front rest
        → IsRow low rest top
        → old ++ gap_sizes low high rest ≡ whole
        → NextBelow rest high (Some next)
        → IsWalk on next.end top (λ later. new ++ gap_sizes next.end high later ≡ whole)
    by_rest [] between row holds is = cc
    by_rest (piece ∷ rest) between row holds is =
        let here : min piece.start high ≡ next.start = omega (arith, is.0, is.2) in
        record {
          front = walk.front ++ piece ∷ [];
          rest = rest;
          between = between-next pieces on moved walk.front rest piece between tells goes;
          row = subst (λ n. IsRow n rest top) (sym is.1) row.2;
          holds = ap (λ s. s ++ gap_sizes next.end high rest) sized ∙ append_assoc old (gap_size low next.start) (gap_sizes next.end high rest)
              ∙ ap (λ n. old ++ (gap_size low next.start ++ gap_sizes n high rest)) is.1 ∙ ap (λ n. old ++ (gap_size low n ++ gap_sizes (piece_end piece) high rest)) (sym here) ∙ holds;
        }

pub buffers_end : (low high top : ℕ) (pieces : Pieces Piece) (old new whole : List ℕ)
    (walk : IsWalk pieces low top (λ later. old ++ gap_sizes low high later ≡ whole))
    → NextBelow walk.rest high None
    → new ≡ old ++ gap_size low high
    → new ≡ whole
buffers_end low high top pieces old new whole walk is sized = sized ∙ ap (λ s. old ++ s) (sym (gap_sizes-end low high top walk.rest is walk.row)) ∙ walk.holds

-- where a list is between two parts, only its list and its place count
pub between-front : (pieces : Pieces Piece) (front rest other later : List Piece) → Between pieces front rest → Between pieces other later → front ≡ other
between-front pieces front rest other later one two =
    sym (take_at front rest pieces.place (sym one.place))
    ∙ ap (take pieces.place) (sym one.list ∙ two.list)
    ∙ take_at other later pieces.place (sym two.place)

pub between-rest : (pieces : Pieces Piece) (front rest other later : List Piece) → Between pieces front rest → Between pieces other later → rest ≡ later
between-rest pieces front rest other later one two =
    sym (drop_at front rest pieces.place (sym one.place))
    ∙ ap (drop pieces.place) (sym one.list ∙ two.list)
    ∙ drop_at other later pieces.place (sym two.place)

-- some of the pieces are laid, and with the others they make the whole
pub record IsLaying (pieces : Pieces Piece) (buffers : List (List ℕ)) (preference : Preference) (new : Segment) (low : ℕ) (whole : List Piece) : Type 0 where
  pub ready : IsReady pieces buffers low (end_of new)
  pub from : new.start ≤ low
  pub sum : ready.front ++ laid preference new low ready.rest ≡ whole

pub laying-begins : (pieces : Pieces Piece) (buffers : List (List ℕ)) (preference : Preference) (new : Segment) (low : ℕ)
    (front rest : List Piece)
    → IsReady pieces buffers low (end_of new)
    → new.start ≤ low
    → Between pieces front rest
    → IsLaying pieces buffers preference new low (front ++ laid preference new low rest)
laying-begins pieces buffers preference new low front rest ready from between = record {
  ready = ready;
  from = from;
  sum =
      ap (λ f. f ++ laid preference new low ready.rest)
      (between-front pieces ready.front ready.rest front rest ready.between between)
      ∙ ap (λ r. front ++ laid preference new low r)
      (between-rest pieces ready.front ready.rest front rest ready.between between);
}

-- the sizes of what is left, where the next piece begins below the limit
pub sizes_left : (low high : ℕ) (next : Bounds) (rest : List Piece) → NextBelow rest high (Some next) → (later : List ℕ) × (gap_sizes low high rest ≡ gap_size low next.start ++ later)
sizes_left low high next [] is = cc
sizes_left low high next (piece ∷ rest) is =
    let here : min piece.start high ≡ next.start = omega (arith, is.0, is.2) in
    (gap_sizes (piece_end piece) high rest, ap (λ n. gap_size low n ++ gap_sizes (piece_end piece) high rest) here)

-- one more piece laid
pub laying_more : (pieces filled on : Pieces Piece) (old new_buffers : List (List ℕ)) (preference : Preference) (new : Segment)
    (low : ℕ) (next : Bounds) (whole : List Piece) (laying : IsLaying pieces old preference new low whole)
    → NextBelow laying.ready.rest (end_of new) (Some next)
    → ((front rest : List Piece) → Between pieces front rest → Between filled (front ++ gap_piece new low next.start) rest)
    → ((sizes : List ℕ) → map length old ≡ gap_size low next.start ++ sizes → map length new_buffers ≡ sizes)
    → length new_buffers ≤ filled.spare
    → ((front rest : List Piece) (piece : Piece) → Between filled front (piece ∷ rest) →
    Between on (front ++ overlaid preference new piece ∷ []) rest)
    → filled.spare ≤ on.spare
    → IsLaying on new_buffers preference new next.end whole
laying_more pieces filled on old new_buffers preference new low next whole laying is fills sizes left overlays spare =
    let ready = laying.ready in by_rest ready.rest ready.between ready.row ready.sizes laying.sum is
  where
    by_rest : (rest : List Piece)
        → Between pieces laying.ready.front rest
        → IsRow low rest laying.ready.top
        → map length old ≡ gap_sizes low (end_of new) rest
        → laying.ready.front ++ laid preference new low rest ≡ whole
        → NextBelow rest (end_of new) (Some next)
        → IsLaying on new_buffers preference new next.end whole
    by_rest [] between row sized sum is = cc
    by_rest (piece ∷ rest) between row sized sum is =
        let front = laying.ready.front in
        let here : min piece.start (end_of new) ≡ next.start = omega (arith, is.0, is.2) in
        let gap = gap_piece new low next.start in
        let size : map length old ≡ gap_size low next.start ++ gap_sizes next.end (end_of new) rest =
        sized ∙ ap (λ n. gap_size low n ++ gap_sizes (piece_end piece) (end_of new) rest) here ∙ ap (λ n. gap_size low next.start ++ gap_sizes n (end_of new) rest) (sym is.1) in
        let over = overlaid preference new piece in
        record {
          ready = record {
            front = (front ++ gap) ++ over ∷ [];
            rest = rest;
            between = overlays (front ++ gap) rest piece (fills front (piece ∷ rest) between);
            top = laying.ready.top;
            row = subst (λ n. IsRow n rest laying.ready.top) (sym is.1) row.2;
            sizes = sizes (gap_sizes next.end (end_of new) rest) size;
            nodes = omega (arith, left, spare);
          };
          from = omega (arith, laying.from, row.0, is.1);
          sum = append_assoc (front ++ gap) (over ∷ []) (laid preference new next.end rest) ∙ append_assoc front gap (over ∷ laid preference new next.end rest)
              ∙ ap (λ n. front ++ (gap ++ (over ∷ laid preference new n rest))) is.1 ∙ ap (λ n. front ++ (gap_piece new low n ++ (over ∷ laid preference new (piece_end piece) rest))) (sym here) ∙ sum;
        }

pub laying_end : (pieces filled : Pieces Piece) (old : List (List ℕ)) (preference : Preference) (new : Segment) (low : ℕ) (whole : List Piece) (laying : IsLaying pieces old preference new low whole)
    → NextBelow laying.ready.rest (end_of new) None → ((front rest : List Piece) → Between pieces front rest → Between filled (front ++ gap_piece new low (end_of new)) rest) → filled.list ≡ whole
laying_end pieces filled old preference new low whole laying is fills =
    let ready = laying.ready in
    (fills ready.front ready.rest ready.between).list
    ∙ append_assoc ready.front (gap_piece new low (end_of new)) ready.rest
    ∙ ap (λ ps. ready.front ++ ps) (sym (laid-end preference new low ready.top ready.rest is ready.row))
    ∙ laying.sum

-- fewer pieces are left
pub laying_smaller : (pieces filled on : Pieces Piece) (new : Segment) (low high : ℕ) (next : Bounds) (front rest : List Piece)
    (preference : Preference)
    → Between pieces front rest
    → NextBelow rest high (Some next)
    → ((front rest : List Piece) → Between pieces front rest → Between filled (front ++ gap_piece new low next.start) rest)
    → ((front rest : List Piece) (piece : Piece) → Between filled front (piece ∷ rest) →
    Between on (front ++ overlaid preference new piece ∷ []) rest)
    → length on.list - on.place < length pieces.list - pieces.place
laying_smaller pieces filled on new low high next front [] preference between is fills overlays = cc
laying_smaller pieces filled on new low high next front (piece ∷ rest) preference between is fills overlays =
    smaller_between pieces on front ((front ++ gap_piece new low next.start) ++ overlaid preference new piece ∷ [])
    (piece ∷ rest) rest piece between refl
    (overlays (front ++ gap_piece new low next.start) rest piece (fills front (piece ∷ rest) between))
