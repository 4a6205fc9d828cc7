-- The texts of lists of pieces.
use Rattle.std.proofs.Common.{◌≡◌, ℕ, ◌+◌, ◌<◌, List, [], ◌∷◌, ◌++◌, length, get_or, take, refl, sym, ap, append_assoc, ◌∙◌}
use Rattle.std.proofs.lemmas.List.{append-nil, take_more}
use Rattle.alert_fast.specs.declared.pieces.TextPiece.{TextPiece}
use Rattle.alert_fast.specs.Pieces.{piece_text, pieces_text}

pub pieces_text-append : (front back : List TextPiece) → pieces_text (front ++ back) ≡ pieces_text front ++ pieces_text back
pieces_text-append [] back = refl
pieces_text-append (piece ∷ rest) back =
    ap (λ (x : List ℕ). piece_text piece ++ x) (pieces_text-append rest back)
    ∙ sym (append_assoc (piece_text piece) (pieces_text rest) (pieces_text back))

-- one piece more
pub pieces_text-take : (pieces : List TextPiece) (i : ℕ) (d : TextPiece) → i < length pieces → pieces_text (take (i + 1) pieces) ≡ pieces_text (take i pieces) ++ piece_text (get_or pieces i d)
pieces_text-take pieces i d lt =
    ap pieces_text (take_more pieces i d lt)
    ∙ pieces_text-append (take i pieces) (get_or pieces i d ∷ [])
    ∙ ap (λ (x : List ℕ). pieces_text (take i pieces) ++ x) (append-nil (piece_text (get_or pieces i d)))

-- the pieces so far were appended, and then one more
pub appended_more : (old middle new : List ℕ) (pieces : List TextPiece) (i : ℕ) (d : TextPiece)
    → i < length pieces
    → middle ≡ old ++ pieces_text (take i pieces)
    → new ≡ middle ++ piece_text (get_or pieces i d)
    → new ≡ old ++ pieces_text (take (i + 1) pieces)
appended_more old middle new pieces i d lt so_far more =
    more ∙ ap (λ (x : List ℕ). x ++ piece_text (get_or pieces i d)) so_far
    ∙ append_assoc old (pieces_text (take i pieces)) (piece_text (get_or pieces i d))
    ∙ ap (λ (x : List ℕ). old ++ x) (sym (pieces_text-take pieces i d lt))
