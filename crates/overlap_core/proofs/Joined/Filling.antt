-- Bytes that are copied from one piece after another.
use Rattle.std.proofs.Common.{◌≡◌, ℕ, ◌+◌, ◌-◌, ◌<◌, ◌≤◌, ◌↔◌, inl, inr, List, [], ◌∷◌, ◌++◌, Option, Some, None, true, false}
use Rattle.std.proofs.Common.{IsSome, IsTrue, length, min, take, get_or, refl, ap, sym, subst, ◌∙◌, arith}
use Rattle.std.specs.Option.{option_map}
use borrow.Rule.Slice.PartMut.{post_of, put_mid}
use Rattle.std.proofs.lemmas.Bool.{cases_lt}
use Rattle.std.proofs.lemmas.List.{get_or-append-add, get_or_append_left, get_or-take, length-take-le}
use Rattle.overlap_core.specs.Joined.{byte_in}
use Rattle.overlap_core.specs.Pieces.{IsRow, Kept, kept_in, Piece, piece_end}
use Rattle.overlap_core.proofs.Rows.Telling.{IsRow-lower, kept_in-ahead, kept_in-before_row, kept_in-after, kept_in-here}

-- `done` of `len` places are passed, and `out` begins with their bytes
pub record IsFilling (whole rest : List Piece) (floor done len : ℕ) (out : List ℕ) (top : ℕ) : Type 0 where
  pub row : IsRow (floor + done) rest top
  pub same : done < len → (place : ℕ) → floor + done ≤ place → kept_in rest place ≡ kept_in whole place
  pub bytes : (k : ℕ) → k < done → byte_in whole (floor + k) ≡ Some (get_or out k 0)

abbrev byte_of_kept : Option Kept → Option ℕ
byte_of_kept = option_map (λ (k : Kept). k.byte)

-- a place without a byte refutes that all have one
pub some_missing : (whole : List Piece) (floor len k : ℕ) → k < len → byte_in whole (floor + k) ≡ None → IsTrue false ↔ ((k : ℕ) → k < len → IsSome (byte_in whole (floor + k)))
some_missing whole floor len k below none = (λ is. cc, λ all. subst (λ (o : Option ℕ). IsSome o) none (all k below))

pub none_here : (whole rest : List Piece) (piece : Piece) (floor done len : ℕ) (out : List ℕ) (top : ℕ)
    → IsFilling whole (piece ∷ rest) floor done len out top
    → done < len
    → (piece.start ≡ floor + done → ⊥)
    → byte_in whole (floor + done) ≡ None
none_here whole rest piece floor done len out top now more apart =
    let ahead : floor + done < piece.start = elim (cases_lt (floor + done) piece.start) as (λ _. floor + done < piece.start) [
      | inl here ↦ here
      | inr there ↦ absurd (apart (omega (arith, there, now.row.0)))
    ] in
    ap byte_of_kept
    (sym (now.same more (floor + done) (omega arith)) ∙ kept_in-ahead piece rest (floor + done) ahead ∙
    kept_in-before_row (piece_end piece) top rest (floor + done) now.row.2 (omega (arith, ahead)))

pub filling_more : (whole rest : List Piece) (piece : Piece) (floor done len count later : ℕ) (out more : List ℕ) (top : ℕ)
    → IsFilling whole (piece ∷ rest) floor done len out top
    → done < len
    → piece.start ≡ floor + done
    → count ≡ min (length piece.bytes) (len - done)
    → later ≡ len
    → ((k : ℕ) → k < done → get_or more k 0 ≡ get_or out k 0)
    → ((k : ℕ) → k < count →
    get_or more (done + k) 0 ≡ get_or piece.bytes k 0)
    → IsFilling whole rest floor (done + count) later more top
filling_more whole rest piece floor done len count later out more top now within here counted long old new = record {
  row = IsRow-lower (piece_end piece) (floor + (done + count)) top rest (omega (arith, here, counted)) now.row.2;
  same = λ inside place from.
      let passed : count ≡ length piece.bytes = omega (arith, counted, inside, long) in
      sym (kept_in-after piece rest place (omega (arith, passed, here, from))) ∙ now.same within place (omega (arith, from));
  bytes = λ k below. elim (cases_lt k done) as (λ _. byte_in whole (floor + k) ≡ Some (get_or more k 0)) [
    | inl before ↦ now.bytes k before ∙ ap Some (sym (old k before))
    | inr after ↦
        let at : done + (k - done) ≡ k = omega (arith, after) in
        let index : floor + k - piece.start ≡ k - done = omega (arith, here, after) in
        ap byte_of_kept (sym (now.same within (floor + k) (omega (arith, after))) ∙ kept_in-here piece rest (floor + k) (omega (arith, here, after)) (omega (arith, here, below, counted, after)))
        ∙ ap (λ n. Some (get_or piece.bytes n 0)) index ∙ ap Some (sym (new (k - done) (omega (arith, below, after)))) ∙ ap (λ n. Some (get_or more n 0)) at
  ];
}

-- filling goes on where the bytes of the next piece are appended
pub filling_appended : (whole rest : List Piece) (piece : Piece) (floor done len count : ℕ) (bytes : List ℕ) (top : ℕ)
    → IsFilling whole (piece ∷ rest) floor done len bytes top
    → done ≡ length bytes
    → done < len
    → piece.start ≡ floor + done
    → count ≡ min (length piece.bytes) (len - done)
    → IsFilling whole rest floor (done + count) len (bytes ++ take count piece.bytes) top
filling_appended whole rest piece floor done len count bytes top now passed within here counted =
    let more = take count piece.bytes in
    filling_more whole rest piece floor done len count len bytes (bytes ++ more) top now within here counted refl
    (λ k below. get_or_append_left bytes more 0 k (omega (arith, below, passed)))
    (λ k below. ap (λ n. get_or (bytes ++ more) (n + k) 0) passed ∙ get_or-append-add bytes more k 0 ∙ get_or-take count piece.bytes k 0 below)

-- a slice with its middle written over
pub put_old : (done n : ℕ) (out mid : List ℕ) (k : ℕ) → k < done → done ≤ length out → get_or (put_mid done n out mid) k 0 ≡ get_or out k 0
put_old done n out mid k below within =
    get_or_append_left (take done out) (mid ++ post_of done n out) 0 k (omega (arith, length-take-le done out within, below)) ∙ get_or-take done out k 0 below

pub put_new : (done n : ℕ) (out mid : List ℕ) (k : ℕ) → done ≤ length out → k < length mid → get_or (put_mid done n out mid) (done + k) 0 ≡ get_or mid k 0
put_new done n out mid k within below =
    ap (λ m. get_or (put_mid done n out mid) (m + k) 0) (sym (length-take-le done out within))
    ∙ get_or-append-add (take done out) (mid ++ post_of done n out) k 0
    ∙ get_or_append_left mid (post_of done n out) 0 k below
