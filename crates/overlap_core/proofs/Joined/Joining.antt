-- The bytes of pieces joined to runs are the maximal runs.
use Rattle.std.proofs.Common.{◌≡◌, ℕ, ◌+◌, ◌-◌, ◌<◌, ◌≤◌, ◌⊎◌, inl, inr, List, [], ◌∷◌, ◌++◌, Option, Some, None, Bool, true}
use Rattle.std.proofs.Common.{false, cond, nat_eq, length, min, take, get_or, refl, ap, sym, subst, ◌∙◌, length-append, arith}
use Rattle.std.specs.Option.{option_map}
use Rattle.std.proofs.lemmas.Bool.{cases_lt}
use Rattle.std.proofs.lemmas.Bool.Decides.{nat_tests}
use Rattle.std.proofs.lemmas.List.{get_or_append_left, get_or-append_right, get_or-take, length-take}
use Rattle.overlap_core.specs.declared.segment.Run.{Run}
use Rattle.overlap_core.specs.Joined.{byte_in, end_of_run, with_run}
use Rattle.overlap_core.specs.Pieces.{IsRow, Kept, kept_in, Piece, piece_end}
use Rattle.overlap_core.specs.Runs.{AreBytes, AreRuns, IsFirstRun, NoByte}
use Rattle.overlap_core.proofs.Rows.Telling.{IsRow-lower, kept_in-ahead, kept_in-before_row, kept_in-after, kept_in-here}

NoByte-join : (byte : ℕ → Option ℕ) (low mid high : ℕ) → NoByte byte low mid → NoByte byte mid high → NoByte byte low high
NoByte-join byte low mid high before beyond = λ place from below. elim (cases_lt place mid) as (λ _. byte place ≡ None) [
  | inl here ↦ before place from here
  | inr there ↦ beyond place there below
]

abbrev pub make_run : ℕ → List ℕ → Run
make_run start bytes = record { start = start; bytes = bytes }

-- a run that ends before a place without a byte is a first run below any later limit
later_limit : (byte : ℕ → Option ℕ) (low from high : ℕ) (run : Run) → IsFirstRun byte low from run → from ≤ high → byte (end_of_run run) ≡ None → IsFirstRun byte low high run
later_limit byte low from high run is order none = record {
  begins = is.begins;
  nothing_before = is.nothing_before;
  some = is.some;
  holds = is.holds;
  within = omega (arith, is.within, order);
  ends = inr none;
}

new_run : (byte : ℕ → Option ℕ) (low start : ℕ) (bytes : List ℕ)
    → low ≤ start
    → NoByte byte low start
    → 0 < length bytes
    → AreBytes byte start bytes
    → IsFirstRun byte low (start + length bytes) (make_run start bytes)
new_run byte low start bytes order none some holds = record { begins = order; nothing_before = none; some = some; holds = holds; within = omega arith; ends = inl refl }

no_more : (byte : ℕ → Option ℕ) (here end_at : ℕ) → end_at ≤ here → NoByte byte here end_at
no_more byte here end_at order = λ place from below. absurd (omega (arith, order, from, below))

joined_run : (byte : ℕ → Option ℕ) (low from start : ℕ) (bytes : List ℕ) (run : Run)
    → IsFirstRun byte low from run
    → end_of_run run ≡ start
    → AreBytes byte start bytes
    → IsFirstRun byte low (start + length bytes) (make_run run.start (run.bytes ++ bytes))
joined_run byte low from start bytes run is meets holds = record {
  begins = is.begins;
  nothing_before = is.nothing_before;
  some = omega (arith, is.some, length-append run.bytes bytes);
  holds = λ k below. elim (cases_lt k (length run.bytes)) as (λ _. byte (run.start + k) ≡ Some (get_or (run.bytes ++ bytes) k 0)) [
    | inl here ↦ is.holds k here ∙ ap Some (sym (get_or_append_left run.bytes bytes 0 k here))
    | inr there ↦
        let same : run.start + k ≡ start + (k - length run.bytes) = omega (arith, meets, there) in
        ap byte same ∙ holds (k - length run.bytes) (omega (arith, below, there, length-append run.bytes bytes)) ∙ ap Some (sym (get_or-append_right run.bytes bytes (length run.bytes) k 0 refl there))
  ];
  within = omega (arith, meets, length-append run.bytes bytes);
  ends = inl (omega (arith, meets, length-append run.bytes bytes));
}

-- where a run of its own begins after the last
apart_none : (byte : ℕ → Option ℕ) (low from start : ℕ) (run : Run)
    → IsFirstRun byte low from run
    → from ≤ start
    → NoByte byte from start
    → NoByte byte (end_of_run run) from
    → (end_of_run run ≡ start → ⊥)
    → byte (end_of_run run) ≡ None
apart_none byte low from start run is order none after apart = elim (cases_lt (end_of_run run) from) as (λ _. byte (end_of_run run) ≡ None) [
  | inl before ↦ after (end_of_run run) (omega arith) before
  | inr at ↦ elim (cases_lt (end_of_run run) start) as (λ _. byte (end_of_run run) ≡ None) [
    | inl below ↦ none (end_of_run run) at below
    | inr beyond ↦ absurd (apart (omega (arith, is.within, order, beyond)))
  ]
]

last_by : (byte : ℕ → Option ℕ) (low from start : ℕ) (bytes : List ℕ) (run : Run) (b : Bool)
    → nat_eq (end_of_run run) start ≡ b
    → IsFirstRun byte low from run
    → NoByte byte (end_of_run run) from
    → from ≤ start
    → NoByte byte from start
    → 0 < length bytes
    → AreBytes byte start bytes
    → AreRuns byte low (start + length bytes)
    (cond b (make_run run.start (run.bytes ++ bytes) ∷ []) (run ∷ make_run start bytes ∷ []))
last_by byte low from start bytes run true is first after order none some holds =
    let meets : end_of_run run ≡ start = grind (arith, nat_tests) in
    (joined_run byte low from start bytes run first meets holds, no_more byte (run.start + length (run.bytes ++ bytes)) (start + length bytes) (omega (arith, meets, length-append run.bytes bytes)))
last_by byte low from start bytes run false is first after order none some holds =
    let apart : end_of_run run ≡ start → ⊥ = λ meets. grind (arith, nat_tests) in
    let gap = NoByte-join byte (end_of_run run) from start after none in (
      later_limit byte low from (start + length bytes) run first (omega (arith, order)) (apart_none byte low from start run first order none after apart),
      (new_run byte (end_of_run run) start bytes (omega (arith, first.within, order)) gap some holds, no_more byte (start + length bytes) (start + length bytes) (omega arith)),
    )

pub with_run-are : (byte : ℕ → Option ℕ) (low from start : ℕ) (bytes : List ℕ) (runs : List Run)
    → low ≤ start
    → AreRuns byte low from runs
    → from ≤ start
    → NoByte byte from start
    → 0 < length bytes
    → AreBytes byte start bytes
    → AreRuns byte low (start + length bytes) (with_run runs start bytes)
with_run-are byte low from start bytes [] begins are order none some holds =
    (new_run byte low start bytes begins (NoByte-join byte low from start are none) some holds, no_more byte (start + length bytes) (start + length bytes) (omega arith))
with_run-are byte low from start bytes (run ∷ []) begins are order none some holds = last_by byte low from start bytes run (nat_eq (end_of_run run) start) refl are.0 are.1 order none some holds
with_run-are byte low from start bytes (run ∷ next ∷ runs) begins are order none some holds =
    let later = are.1.0 in (
      later_limit byte low from (start + length bytes) run are.0 (omega (arith, order))
          (elim are.0.ends as (λ _. byte (end_of_run run) ≡ None) [
            | inl reaches ↦ absurd (omega (arith, reaches, later.begins, later.within, later.some))
            | inr nothing ↦ nothing
          ]),
      with_run-are byte (end_of_run run) from start bytes (next ∷ runs) (omega (arith, are.0.within, order)) are.1 order none some holds,
    )

-- no byte comes up to a later limit
pub AreRuns-wider : (byte : ℕ → Option ℕ) (low from high : ℕ) (runs : List Run) → from ≤ high → NoByte byte from high → AreRuns byte low from runs → AreRuns byte low high runs
AreRuns-wider byte low from high [] order none are = NoByte-join byte low from high are none
AreRuns-wider byte low from high (run ∷ runs) order none are = (
  record {
    begins = are.0.begins;
    nothing_before = are.0.nothing_before;
    some = are.0.some;
    holds = are.0.holds;
    within = omega (arith, are.0.within, order);
    ends = elim are.0.ends as (λ _. (run.start + length run.bytes ≡ high) ⊎ (byte (run.start + length run.bytes) ≡ None)) [
      | inl reaches ↦ elim (cases_lt from high) as (λ _. (run.start + length run.bytes ≡ high) ⊎ (byte (run.start + length run.bytes) ≡ None)) [
        | inl more ↦ inr (none (run.start + length run.bytes) (omega (arith, reaches)) (omega (arith, reaches, more)))
        | inr at ↦ inl (omega (arith, reaches, order, at))
      ]
      | inr nothing ↦ inr nothing
    ];
  },
  AreRuns-wider byte (run.start + length run.bytes) from high runs order none are.1,
)

-- the runs of one source of bytes are those of another that has the same byte at each place from `low` on
pub AreRuns-along : (f g : ℕ → Option ℕ) (low high : ℕ) (runs : List Run) → ((place : ℕ) → low ≤ place → f place ≡ g place) → AreRuns f low high runs → AreRuns g low high runs
AreRuns-along f g low high [] same are = λ place from below. sym (same place from) ∙ are place from below
AreRuns-along f g low high (run ∷ runs) same are = (
  record {
    begins = are.0.begins;
    nothing_before = λ place from below. sym (same place from) ∙ are.0.nothing_before place from below;
    some = are.0.some;
    holds = λ k below. sym (same (run.start + k) (omega (arith, are.0.begins))) ∙ are.0.holds k below;
    within = are.0.within;
    ends = elim are.0.ends as (λ _. (run.start + length run.bytes ≡ high) ⊎ (g (run.start + length run.bytes) ≡ None)) [
      | inl reaches ↦ inl reaches
      | inr nothing ↦ inr (sym (same (run.start + length run.bytes) (omega (arith, are.0.begins))) ∙ nothing)
    ];
  },
  AreRuns-along f g (run.start + length run.bytes) high runs (λ place from. same place (omega (arith, from, are.0.begins))) are.1,
)

-- the last of some runs
pub with_run-meets : (front : List Run) (last : Run) (start : ℕ) (bytes : List ℕ)
    → end_of_run last ≡ start
    → with_run (front ++ last ∷ []) start bytes ≡ front ++ make_run last.start (last.bytes ++ bytes) ∷ []
with_run-meets [] last start bytes meets =
    let test : nat_eq (end_of_run last) start ≡ true = grind (arith, nat_tests) in
    ap (λ b. cond b (make_run last.start (last.bytes ++ bytes) ∷ []) (last ∷ make_run start bytes ∷ [])) test
with_run-meets (run ∷ []) last start bytes meets = ap (λ rs. run ∷ rs) (with_run-meets [] last start bytes meets)
with_run-meets (run ∷ next ∷ front) last start bytes meets = ap (λ rs. run ∷ rs) (with_run-meets (next ∷ front) last start bytes meets)

pub with_run-apart : (front : List Run) (last : Run) (start : ℕ) (bytes : List ℕ)
    → (end_of_run last ≡ start → ⊥)
    → with_run (front ++ last ∷ []) start bytes ≡ (front ++ last ∷ []) ++ make_run start bytes ∷ []
with_run-apart [] last start bytes apart =
    let test : nat_eq (end_of_run last) start ≡ false = not_equal (nat_eq (end_of_run last) start) refl in
    ap (λ b. cond b (make_run last.start (last.bytes ++ bytes) ∷ []) (last ∷ make_run start bytes ∷ [])) test
  where
    not_equal : (b : Bool) → nat_eq (end_of_run last) start ≡ b → b ≡ false
    not_equal true is = absurd (apart (grind (arith, nat_tests)))
    not_equal false is = refl
with_run-apart (run ∷ []) last start bytes apart = ap (λ rs. run ∷ rs) (with_run-apart [] last start bytes apart)
with_run-apart (run ∷ next ∷ front) last start bytes apart = ap (λ rs. run ∷ rs) (with_run-apart (next ∷ front) last start bytes apart)

-- the pieces that are left to join
pub record IsJoining (whole rest : List Piece) (runs : List Run) (floor below top : ℕ) : Type 0 where
  pub from : ℕ
  pub order : floor ≤ from
  pub within : from ≤ below
  pub row : IsRow from rest top
  pub same : from < below → (place : ℕ) → from ≤ place → kept_in rest place ≡ kept_in whole place
  pub are : AreRuns (byte_in whole) floor from runs

abbrev byte_of_kept : Option Kept → Option ℕ
byte_of_kept = option_map (λ (k : Kept). k.byte)

pub joining-begins : (whole : List Piece) (floor below top : ℕ) → IsRow floor whole top → floor ≤ below → IsJoining whole whole [] floor below top
joining-begins whole floor below top row order = record {
  from = floor;
  order = omega arith;
  within = order;
  row = row;
  same = λ more place from. refl;
  are = no_more (byte_in whole) floor floor (omega arith);
}

pub joining_ends : (whole rest : List Piece) (runs : List Run) (floor below top : ℕ)
    → IsJoining whole rest runs floor below top
    → ((place : ℕ) → place < below → (low : ℕ) → IsRow low rest top → low ≤ place → kept_in rest place ≡ None)
    → AreRuns (byte_in whole) floor below runs
joining_ends whole rest runs floor below top now none =
    AreRuns-wider (byte_in whole) floor now.from below runs now.within
    (λ place from under. ap byte_of_kept (sym (now.same (omega (arith, from, under)) place from) ∙ none place under now.from now.row from)) now.are

pub joining_more : (whole rest : List Piece) (piece : Piece) (runs more : List Run) (floor below top : ℕ)
    → IsJoining whole (piece ∷ rest) runs floor below top
    → piece.start < below
    → more ≡ with_run runs piece.start (take (below - piece.start) piece.bytes)
    → IsJoining whole rest more floor below top
joining_more whole rest piece runs more floor below top now under is =
    let before : now.from < below = omega (arith, now.row.0, under) in
    let bytes = take (below - piece.start) piece.bytes in
    let long : length bytes ≡ min (below - piece.start) (length piece.bytes) = length-take (below - piece.start) piece.bytes in
    let none : NoByte (byte_in whole) now.from piece.start =
    λ place from ahead.
    ap byte_of_kept
    (sym (now.same before place from) ∙ kept_in-ahead piece rest place ahead ∙
    kept_in-before_row (piece_end piece) top rest place now.row.2 (omega (arith, ahead))) in
    let holds : AreBytes (byte_in whole) piece.start bytes =
    λ k inside.
    let same : piece.start + k - piece.start ≡ k = omega arith in
    ap byte_of_kept
    (sym (now.same before (piece.start + k) (omega (arith, now.row.0))) ∙
    kept_in-here piece rest (piece.start + k) (omega arith) (omega (arith, inside, long)))
    ∙ ap (λ n. Some (get_or piece.bytes n 0)) same
    ∙ ap Some (sym (get_or-take (below - piece.start) piece.bytes k 0 (omega (arith, inside, long)))) in
    record {
      from = piece.start + length bytes;
      order = omega (arith, now.order, now.row.0);
      within = omega (arith, long, under);
      row = IsRow-lower (piece_end piece) (piece.start + length bytes) top rest (omega (arith, long)) now.row.2;
      same = λ inside place from.
          let whole_piece : length bytes ≡ length piece.bytes = omega (arith, long, inside) in
          sym (kept_in-after piece rest place (omega (arith, whole_piece, from)))
          ∙ now.same before place (omega (arith, now.row.0, from));
      are = subst (AreRuns (byte_in whole) floor (piece.start + length bytes)) (sym is)
          (with_run-are (byte_in whole) floor now.from piece.start bytes runs (omega (arith, now.order, now.row.0)) now.are
          now.row.0 none (omega (arith, long, now.row.1, under)) holds);
    }

-- where no run was
pub with_run-first : (runs left : List Run) (start : ℕ) (bytes : List ℕ) → runs ≡ left ++ [] → length left ≡ 0 → left ++ make_run start bytes ∷ [] ≡ with_run runs start bytes
with_run-first runs [] start bytes is none = ap (λ rs. with_run rs start bytes) (sym is)
with_run-first runs (run ∷ left) start bytes is none = absurd (omega (arith, none))

-- at the end of the pieces, and at a piece that begins after the limit
pub joining_out : (whole rest : List Piece) (runs : List Run) (floor below top : ℕ) → IsJoining whole rest runs floor below top → rest ≡ [] → AreRuns (byte_in whole) floor below runs
joining_out whole rest runs floor below top now none = joining_ends whole rest runs floor below top now (λ place under low row from. ap (λ ps. kept_in ps place) none)

pub joining_past : (whole rest later : List Piece) (piece : Piece) (runs : List Run) (floor below top : ℕ)
    → IsJoining whole rest runs floor below top
    → rest ≡ piece ∷ later
    → below ≤ piece.start
    → AreRuns (byte_in whole) floor below runs
joining_past whole rest later piece runs floor below top now is past =
    joining_ends whole rest runs floor below top now
    (λ place under low row from.
    let here : IsRow low (piece ∷ later) top = subst (λ ps. IsRow low ps top) is row in
    ap (λ ps. kept_in ps place) is ∙ kept_in-ahead piece later place (omega (arith, under, past)) ∙ kept_in-before_row (piece_end piece) top later place here.2 (omega (arith, under, past)))
