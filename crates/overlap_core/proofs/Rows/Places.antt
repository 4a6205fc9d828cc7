-- Moves and edits of a list whose place is between two parts of it.
use Rattle.std.proofs.Common.{◌≡◌, ℕ, ◌+◌, ◌-◌, ◌<◌, ◌≤◌, List, [], ◌∷◌, ◌++◌, Option, Some, None, Bool, true, false, IsTrue, ◌↔◌}
use Rattle.std.proofs.Common.{◌&&◌, cond, nat_lt, zero, length, drop, suc, insert, remove, slice_get, OnErr, OnOk, OnSome, Result}
use Rattle.std.proofs.Common.{Ok, Err, if◌then◌else◌, refl, ap, sym, subst, ◌∙◌, append_assoc, length-append, arith, inl, inr}
use Rattle.std.proofs.Common.{◌⊎◌}
use Rattle.std.proofs.lemmas.Bool.{cases_lt}
use Rattle.std.proofs.lemmas.List.{take_at, drop_at}
use Rattle.std.proofs.lemmas.Bool.Decides.{nat_tests}
use Rattle.piece_list.specs.Pieces.{Pieces, pieces as listed}
use Rattle.overlap_core.specs.Pieces.{IsRow, Piece, piece_end}
use Rattle.overlap_core.specs.Rows.{BeginBelow, BeginFrom, cut_row, left_part, parts, right_part, Between}

module _ {X : Type 0} where
  pub slice_get-at : (front : List X) (x : X) (rest : List X) → slice_get (front ++ x ∷ rest) (length front) ≡ Some x
  slice_get-at [] x rest = refl
  slice_get-at (y ∷ front) x rest = slice_get-at front x rest

  pub insert-at : (front : List X) (x : X) (rest : List X) → insert (front ++ rest) (length front) x ≡ front ++ x ∷ rest
  insert-at front x rest = ap (λ xs. xs ++ x ∷ drop (length front) (front ++ rest)) (take_at front rest (length front) refl) ∙ ap (λ xs. front ++ x ∷ xs) (drop_at front rest (length front) refl)

  remove-at : (front : List X) (x : X) (rest : List X) → remove (front ++ x ∷ rest) (length front) ≡ front ++ rest
  remove-at [] x rest = refl
  remove-at (y ∷ front) x rest = ap (λ xs. y ∷ xs) (remove-at front x rest)

  pub length-snoc : (front : List X) (x : X) → length (front ++ x ∷ []) ≡ length front + 1
  length-snoc front x = length-append front (x ∷ [])

-- the piece at the place
pub slice_get-between : (pieces : Pieces Piece) (front rest : List Piece) (piece : Piece) → Between pieces front (piece ∷ rest) → slice_get pieces.list pieces.place ≡ Some piece
slice_get-between pieces front rest piece between = ap (λ xs. slice_get xs pieces.place) between.list ∙ ap (slice_get (front ++ piece ∷ rest)) between.place ∙ slice_get-at front piece rest

pub remove-between : (pieces : Pieces Piece) (front rest : List Piece) (piece : Piece) → Between pieces front (piece ∷ rest) → remove pieces.list pieces.place ≡ front ++ rest
remove-between pieces front rest piece between = ap (λ xs. remove xs pieces.place) between.list ∙ ap (remove (front ++ piece ∷ rest)) between.place ∙ remove-at front piece rest

pub insert-between : (pieces : Pieces Piece) (front rest : List Piece) (piece : Piece) → Between pieces front rest → insert pieces.list pieces.place piece ≡ front ++ piece ∷ rest
insert-between pieces front rest piece between = ap (λ xs. insert xs pieces.place piece) between.list ∙ ap (λ n. insert (front ++ rest) n piece) between.place ∙ insert-at front piece rest

-- after a step back one piece is on the other side of the place
pub between-back : (pieces back : Pieces Piece) (front rest : List Piece) (last : Piece)
    → Between pieces (front ++ last ∷ []) rest
    → back.list ≡ pieces.list
    → back.place ≡ pieces.place - 1
    → Between back front (last ∷ rest)
between-back pieces back front rest last between list place = record {
  list = list ∙ between.list ∙ append_assoc front (last ∷ []) rest;
  place = omega (arith, place, between.place, length-snoc front last);
}

pub between-on : (pieces onward : Pieces Piece) (front rest : List Piece) (first : Piece)
    → Between pieces front (first ∷ rest)
    → onward.list ≡ pieces.list
    → onward.place ≡ pieces.place + 1
    → Between onward (front ++ first ∷ []) rest
between-on pieces onward front rest first between list place = record {
  list = list ∙ between.list ∙ sym (append_assoc front (first ∷ []) rest);
  place = omega (arith, place, between.place, length-snoc front first);
}

-- a piece that a place doesn't part
pub parts-after : (at : ℕ) (piece : Piece) → at ≤ piece.start → parts at piece ≡ piece ∷ []
parts-after at piece beyond =
    let fails : (nat_lt piece.start at && nat_lt at (piece_end piece)) ≡ false = grind (arith, nat_tests) in
    ap (λ b. cond b (left_part at piece ∷ right_part at piece ∷ []) (piece ∷ [])) fails

pub parts-before : (at : ℕ) (piece : Piece) → piece_end piece ≤ at → parts at piece ≡ piece ∷ []
parts-before at piece before =
    let fails : (nat_lt piece.start at && nat_lt at (piece_end piece)) ≡ false = grind (arith, nat_tests) in
    ap (λ b. cond b (left_part at piece ∷ right_part at piece ∷ []) (piece ∷ [])) fails

-- a piece that a place parts
pub parts-inside : (at : ℕ) (piece : Piece) → piece.start < at → at < piece_end piece → parts at piece ≡ left_part at piece ∷ right_part at piece ∷ []
parts-inside at piece from to =
    let holds : (nat_lt piece.start at && nat_lt at (piece_end piece)) ≡ true = grind (arith, nat_tests) in
    ap (λ b. cond b (left_part at piece ∷ right_part at piece ∷ []) (piece ∷ [])) holds

-- pieces that begin at a place or after it are not cut there
pub cut_row-after : (at : ℕ) (pieces : List Piece) → BeginFrom at pieces → cut_row at pieces ≡ pieces
cut_row-after at [] begin = refl
cut_row-after at (piece ∷ pieces) begin = ap (λ ps. ps ++ cut_row at pieces) (parts-after at piece begin.0) ∙ ap (λ ps. piece ∷ ps) (cut_row-after at pieces begin.1)

-- of pieces in a row that begin below a place, the last alone may be cut there
pub cut_row-last : (at low high : ℕ) (front rest : List Piece) (last : Piece)
    → IsRow low (front ++ last ∷ rest) high
    → BeginBelow at (front ++ last ∷ [])
    → BeginFrom at rest
    → cut_row at (front ++ last ∷ rest) ≡ front ++ (parts at last ++ rest)
cut_row-last at low high [] rest last row below from = ap (λ ps. parts at last ++ ps) (cut_row-after at rest from)
cut_row-last at low high (first ∷ front) rest last row below from =
    let before : piece_end first ≤ at = next_below front first last rest at high row.2 below.1 in
    ap (λ ps. ps ++ cut_row at (front ++ last ∷ rest)) (parts-before at first before) ∙ ap (λ ps. first ∷ ps) (cut_row-last at (piece_end first) high front rest last row.2 below.1 from)
  where
    next_below : (front : List Piece) (first last : Piece) (rest : List Piece) (at high : ℕ)
        → IsRow (piece_end first) (front ++ last ∷ rest) high
        → BeginBelow at (front ++ last ∷ [])
        → piece_end first ≤ at
    next_below [] first last rest at high row below = omega (arith, row.0, below.0)
    next_below (second ∷ front) first last rest at high row below = omega (arith, row.0, below.0)

-- pieces in a row, parted at a place by where they begin
pub record IsParted (at : ℕ) (pieces : List Piece) : Type 0 where
  pub front : List Piece
  pub rest : List Piece
  pub list : pieces ≡ front ++ rest
  pub below : BeginBelow at front
  pub from : BeginFrom at rest

from_later : (at low high : ℕ) (pieces : List Piece) → at ≤ low → IsRow low pieces high → BeginFrom at pieces
from_later at low high [] order row = tt
from_later at low high (piece ∷ pieces) order row = (omega (arith, row.0), from_later at (piece_end piece) high pieces (omega (arith, row.0)) row.2)

pub parted : (at low high : ℕ) (pieces : List Piece) → IsRow low pieces high → IsParted at pieces
parted at low high [] row = record { front = []; rest = []; list = refl; below = tt; from = tt }
parted at low high (piece ∷ pieces) row = elim (cases_lt piece.start at) as (λ _. IsParted at (piece ∷ pieces)) [
  | inl below ↦
      let later = parted at (piece_end piece) high pieces row.2 in
      record { front = piece ∷ later.front; rest = later.rest; list = ap (λ ps. piece ∷ ps) later.list; below = (below, later.below); from = later.from }
  | inr from ↦ record { front = []; rest = piece ∷ pieces; list = refl; below = tt; from = (from, from_later at (piece_end piece) high pieces (omega arith) row.2) }
]

-- the last of some pieces, or none
pub last_of : (pieces : List Piece) → (pieces ≡ []) ⊎ ((front : List Piece) × (last : Piece) × (pieces ≡ front ++ last ∷ []))
last_of [] = inl refl
last_of (piece ∷ pieces) = elim (last_of pieces) as (λ _. (piece ∷ pieces ≡ []) ⊎ ((front : List Piece) × (last : Piece) × (piece ∷ pieces ≡ front ++ last ∷ []))) [
  | inl none ↦ inr ([], piece, ap (λ ps. piece ∷ ps) none)
  | inr some ↦ inr (piece ∷ some.0, some.1, ap (λ ps. piece ∷ ps) some.2)
]

-- which pieces begin below a place
pub index_below : (at : ℕ) (front rest : List Piece) (k : ℕ) (piece : Piece) → BeginFrom at rest → slice_get (front ++ rest) k ≡ Some piece → piece.start < at → k < length front
index_below at [] [] k piece from found below = cc
index_below at [] (first ∷ rest) zero piece from found below = let same : first ≡ piece = cc in absurd (omega (arith, ap (λ (p : Piece). p.start) same, from.0))
index_below at [] (first ∷ rest) (suc k) piece from found below = absurd (omega (arith, index_below at [] rest k piece from.1 found below))
index_below at (first ∷ front) rest zero piece from found below = omega arith
index_below at (first ∷ front) rest (suc k) piece from found below = omega (arith, index_below at front rest k piece from found below)

pub index_from : (at : ℕ) (front rest : List Piece) (k : ℕ) (piece : Piece) → BeginBelow at front → slice_get (front ++ rest) k ≡ Some piece → at ≤ piece.start → length front ≤ k
index_from at [] rest k piece below found from = omega arith
index_from at (first ∷ front) rest zero piece below found from = let same : first ≡ piece = cc in absurd (omega (arith, ap (λ (p : Piece). p.start) same, below.0))
index_from at (first ∷ front) rest (suc k) piece below found from = omega (arith, index_from at front rest k piece below.1 found from)

-- a walk whose place is before pieces in a row, of which a fact holds
pub record IsWalk (pieces : Pieces Piece) (low top : ℕ) (fact : List Piece → Type 0) : Type 0 where
  pub front : List Piece
  pub rest : List Piece
  pub between : Between pieces front rest
  pub row : IsRow low rest top
  pub holds : fact rest

some_within : (xs : List Piece) (k : ℕ) → k < length xs → slice_get xs k ≡ None → ⊥
some_within [] k within none = omega arith
some_within (x ∷ xs) zero within none = cc
some_within (x ∷ xs) (suc k) within none = some_within xs k (omega (arith, within)) none

-- a piece that begins below a place lies before those that begin from it on
pub place_below : (at : ℕ) (pieces : Pieces Piece) (front rest : List Piece) (piece : Piece)
    → pieces.list ≡ front ++ rest
    → BeginFrom at rest
    → slice_get pieces.list pieces.place ≡ Some piece
    → piece.start < at
    → pieces.place < length front
place_below at pieces front rest piece list from found below = index_below at front rest pieces.place piece from (ap (λ xs. slice_get xs pieces.place) (sym list) ∙ found) below

-- `next` moves by at most one
pub moved_to : (pieces next : Pieces Piece) (moved : Bool) (most : ℕ)
    → pieces.place < most
    → next ≡ listed pieces.list (if moved then pieces.place + 1 else pieces.place) pieces.spare
    → next.place ≤ most
moved_to pieces next true most below is = let place : next.place ≡ pieces.place + 1 = ap (λ (p : Pieces Piece). p.place) is in omega (arith, place, below)
moved_to pieces next false most below is = let place : next.place ≡ pieces.place = ap (λ (p : Pieces Piece). p.place) is in omega (arith, place, below)

-- at the end of the search: no piece at the place begins below what is sought
pub sought : (at : ℕ) (pieces : Pieces Piece) (found : Bool) (front rest : List Piece) → pieces.place ≤ length front → pieces.list ≡ front ++ rest → BeginBelow at front
    → ((piece : Piece) → slice_get pieces.list pieces.place ≡ Some piece → piece.start < at → found ≡ true) → found ≡ false → pieces.place ≡ length front
sought at pieces found front rest within list below no_at is = by_item (slice_get pieces.list pieces.place) refl
  where
    by_item : (item : Option Piece) → slice_get pieces.list pieces.place ≡ item → pieces.place ≡ length front
    by_item None none =
        elim (cases_lt pieces.place (length pieces.list)) as (λ _. pieces.place ≡ length front) [
          | inl before ↦ absurd (some_within pieces.list pieces.place before none)
          | inr past ↦ let long : length pieces.list ≡ length front + length rest = ap length list ∙ length-append front rest in omega (arith, within, past, long)
        ]
    by_item (Some piece) some =
        elim (cases_lt piece.start at) as (λ _. pieces.place ≡ length front) [
          | inl ahead ↦ let clash : false ≡ true = sym is ∙ no_at piece some ahead in cc
          | inr here ↦ let far = index_from at front rest pieces.place piece below (ap (λ xs. slice_get xs pieces.place) (sym list) ∙ some) here in omega (arith, far, within)
        ]

pub on_some : {X : Type 0} (found : Option X) (x : X) (P : Type 0) → found ≡ Some x → OnSome found P → P
on_some None x P is holds = cc
on_some (Some y) x P is holds = holds

pub between-removed : (pieces new : Pieces Piece) (front rest : List Piece) (piece : Piece) (spare : ℕ)
    → Between pieces front (piece ∷ rest)
    → new ≡ listed (remove pieces.list pieces.place) pieces.place spare
    → Between new front rest
between-removed pieces new front rest piece spare between is = record {
  list = ap (λ (p : Pieces Piece). p.list) is ∙ remove-between pieces front rest piece between;
  place = ap (λ (p : Pieces Piece). p.place) is ∙ between.place;
}

pub between-inserted : (pieces new : Pieces Piece) (front rest : List Piece) (piece : Piece) (spare : ℕ)
    → Between pieces front rest
    → new ≡ listed (insert pieces.list pieces.place piece) pieces.place spare
    → Between new front (piece ∷ rest)
between-inserted pieces new front rest piece spare between is = record {
  list = ap (λ (p : Pieces Piece). p.list) is ∙ insert-between pieces front rest piece between;
  place = ap (λ (p : Pieces Piece). p.place) is ∙ between.place;
}

-- `next` where a piece is at the place
pub between-next : (pieces next : Pieces Piece) (moved : Bool) (front rest : List Piece) (piece : Piece) → Between pieces front (piece ∷ rest) → (IsTrue moved ↔ (pieces.place < length pieces.list))
    → next ≡ listed pieces.list (if moved then pieces.place + 1 else pieces.place) pieces.spare → Between next (front ++ piece ∷ []) rest
between-next pieces next moved front rest piece between tells is =
    let long : length pieces.list ≡ length front + length (piece ∷ rest) = ap length between.list ∙ length-append front (piece ∷ rest) in
    let moves : moved ≡ true = tells.1 (omega (arith, long, between.place)) in
    let place : next.place ≡ pieces.place + 1 = ap (λ (p : Pieces Piece). p.place) is ∙ ap (λ b. if b then pieces.place + 1 else pieces.place) moves in
    between-on pieces next front rest piece between (ap (λ (p : Pieces Piece). p.list) is) place

-- where the piece before the place is not cut
pub uncut : (at : ℕ) (pieces back : Pieces Piece) (front rest : List Piece) (last piece : Piece) → Between pieces (front ++ last ∷ []) rest → back ≡ listed pieces.list (pieces.place - 1) pieces.spare
    → Some piece ≡ slice_get back.list back.place → parts at piece ≡ piece ∷ [] → back.list ≡ front ++ (parts at last ++ rest)
uncut at pieces back front rest last piece between is found whole =
    let here = between-back pieces back front rest last between (ap (λ (p : Pieces Piece). p.list) is) (ap (λ (p : Pieces Piece). p.place) is) in
    let same : piece ≡ last = let found_last : Some piece ≡ Some last = found ∙ slice_get-between back front rest last here in cc in
    let last_whole : parts at last ≡ last ∷ [] = subst (λ (p : Piece). parts at p ≡ p ∷ []) same whole in
    here.list ∙ ap (λ ps. front ++ (ps ++ rest)) (sym last_whole)

-- with pieces before the place, a step back finds one
pub some_before : (pieces back : Pieces Piece) (front rest : List Piece) (last : Piece) (found : Option Piece)
    → Between pieces (front ++ last ∷ []) rest
    → back ≡ listed pieces.list (pieces.place - 1) pieces.spare
    → found ≡ slice_get back.list back.place
    → found ≡ None
    → ⊥
some_before pieces back front rest last found between is value none =
    let here = between-back pieces back front rest last between (ap (λ (p : Pieces Piece). p.list) is) (ap (λ (p : Pieces Piece). p.place) is) in
    let clash : None ≡ Some last = sym none ∙ value ∙ slice_get-between back front rest last here in cc

-- the list where the piece before the place is cut
pub cut_last : (at : ℕ) (pieces back removed once twice : Pieces Piece)
    (taken : Option Piece) (piece left right : Piece) (front rest : List Piece) (last : Piece) (m n : ℕ)
    → Between pieces (front ++ last ∷ []) rest
    → back ≡ listed pieces.list (pieces.place - 1) pieces.spare
    → Some piece ≡ slice_get back.list back.place
    → taken ≡ slice_get back.list back.place
    → OnSome taken (removed ≡ listed (remove back.list back.place) back.place (back.spare + 1))
    → once ≡
    listed (insert removed.list removed.place right) removed.place m
    → twice ≡ listed (insert once.list once.place left) once.place n
    → left ≡ left_part at piece
    → right ≡ right_part at piece
    → piece.start < at
    → at < piece_end piece
    → twice.list ≡ front ++ (parts at last ++ rest)
cut_last at pieces back removed once twice taken piece left right front rest last m n between is found took left_out in_once
    in_twice is_left is_right from to =
    let here =
    between-back pieces back front rest last between (ap (λ (p : Pieces Piece). p.list) is)
    (ap (λ (p : Pieces Piece). p.place) is) in
    let at_last = slice_get-between back front rest last here in
    let same : piece ≡ last = let found_last : Some piece ≡ Some last = found ∙ at_last in cc in
    let gone =
    between-removed back removed front rest last (back.spare + 1) here
    (on_some taken last (removed ≡ listed (remove back.list back.place) back.place (back.spare + 1)) (took ∙ at_last) left_out) in
    let one = between-inserted removed once front rest right m gone in_once in
    let two = between-inserted once twice front (right ∷ rest) left n one in_twice in
    let halves : left ∷ right ∷ [] ≡ parts at last =
    ap (λ l. l ∷ right ∷ []) is_left
    ∙ ap (λ r. left_part at piece ∷ r ∷ []) is_right
    ∙ sym (parts-inside at piece from to)
    ∙ ap (parts at) same in
    two.list ∙ ap (λ ps. front ++ (ps ++ rest)) halves

-- the whole of a cut
pub cut_whole : (at low high : ℕ) (old moved new : Pieces Piece)
    → IsRow low old.list high
    → moved.list ≡ old.list
    → ((front rest : List Piece) → old.list ≡ front ++ rest → BeginBelow at front → BeginFrom at rest →
    moved.place ≡ length front)
    → ((front rest : List Piece) (last : Piece) → Between moved (front ++ last ∷ []) rest →
    new.list ≡ front ++ (parts at last ++ rest))
    → (moved.place ≡ 0 → new.list ≡ moved.list)
    → new.list ≡ cut_row at old.list
cut_whole at low high old moved new row list sought_here ok first =
    let two = parted at low high old.list row in
    let place : moved.place ≡ length two.front = sought_here two.front two.rest two.list two.below two.from in
    elim (last_of two.front) as (λ _. new.list ≡ cut_row at old.list) [
      | inl none ↦
          let all : old.list ≡ two.rest = two.list ∙ ap (λ ps. ps ++ two.rest) none in
          first (place ∙ ap length none) ∙ list ∙ all ∙ sym (ap (cut_row at) all ∙ cut_row-after at two.rest two.from)
      | inr some ↦
          let front = some.0 in
          let last = some.1 in
          let all : old.list ≡ (front ++ last ∷ []) ++ two.rest = two.list ∙ ap (λ ps. ps ++ two.rest) some.2 in
          let joined : old.list ≡ front ++ last ∷ two.rest = all ∙ append_assoc front (last ∷ []) two.rest in
          ok front two.rest last (record { list = list ∙ all; place = place ∙ ap length some.2 })
          ∙ sym (ap (cut_row at) joined ∙ cut_row-last at low high front two.rest last (subst (λ ps. IsRow low ps high) joined row) (subst (BeginBelow at) some.2 two.below) two.from)
    ]

pub on_ok2 : {X E : Type 0} (answer : Result X E) (P Q R : Type 0) → OnOk answer P → OnOk answer Q → (P → Q → R) → OnOk answer R
on_ok2 (Ok x) P Q R p q f = f p q
on_ok2 (Err e) P Q R p q f = tt

pub on_err_list : {X E : Type 0} (answer : Result X E) (new old first : List Piece) → OnErr answer (new ≡ old) → old ≡ first → OnErr answer (new ≡ first)
on_err_list (Ok x) new old first same is = tt
on_err_list (Err e) new old first same is = same ∙ is

-- `next` leaves fewer pieces to pass
pub smaller_next : (pieces next : Pieces Piece) (moved : Bool)
    → pieces.place < length pieces.list
    → (IsTrue moved ↔ (pieces.place < length pieces.list))
    → next ≡ listed pieces.list (if moved then pieces.place + 1 else pieces.place) pieces.spare
    → length next.list - next.place < length pieces.list - pieces.place
smaller_next pieces next moved here tells is =
    let moves : moved ≡ true = tells.1 here in
    let place : next.place ≡ pieces.place + 1 = ap (λ (p : Pieces Piece). p.place) is ∙ ap (λ b. if b then pieces.place + 1 else pieces.place) moves in
    let long : length next.list ≡ length pieces.list = ap (λ (p : Pieces Piece). length p.list) is in
    omega (arith, place, long, here)

pub smaller_between : (pieces on : Pieces Piece) (front other rest later : List Piece) (piece : Piece)
    → Between pieces front rest
    → rest ≡ piece ∷ later
    → Between on other later
    → length on.list - on.place < length pieces.list - pieces.place
smaller_between pieces on front other rest later piece one is two =
    let before : length pieces.list ≡ length front + length rest = ap length one.list ∙ length-append front rest in
    let after : length on.list ≡ length other + length later = ap length two.list ∙ length-append other later in
    omega (arith, before, after, one.place, two.place, ap length is)

pub on_ok1 : {X E : Type 0} (answer : Result X E) (P R : Type 0) → OnOk answer P → (P → R) → OnOk answer R
on_ok1 (Ok x) P R p f = f p
on_ok1 (Err e) P R p f = tt
