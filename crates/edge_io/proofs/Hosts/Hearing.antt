-- What follows of the open capture from an answer that was noted.
use Rattle.std.proofs.Common.{◌≡◌, ℕ, List, [], ◌∷◌, ◌≤◌, Option, Some, None, Result, Ok, Err, length, take, drop, refl, sym, ap, subst, arith}
use Rattle.std.specs.Prelude.{IfOk, option_map}
use Rattle.std.proofs.lemmas.List.{length-take-le}
use Rattle.edge_io.specs.Told.{before}
use Rattle.edge_io.specs.Files.{Files}
use Rattle.edge_io.specs.Answers.{Answer, gave, Agree, AreNext, left_after}

-- the next bytes come before what is left after them
next_taken : (left : Option (List ℕ)) (bytes : List ℕ) → AreNext left bytes → left ≡ before bytes (option_map (drop (length bytes)) left)
unfolding before
next_taken None bytes next = refl
next_taken (Some rest) bytes next = ap Some next.0

-- a read that noted what it gave took it
pub taken_by : {E : Type 0} (result : Result ℕ E) (old new : List Answer) (buf : List ℕ) → IfOk result (λ count. new ≡ gave (take count buf) ∷ old)
    → IfOk result (λ count. (files : Files) → Agree new files → left_after old files ≡ before (take count buf) (left_after new files))
taken_by (Ok count) old new buf is = λ files agree.
    subst (λ (answers : List Answer). Agree answers files → left_after old files ≡ before (take count buf) (left_after answers files)) (sym is)
    (λ both. next_taken (left_after old files) (take count buf) both.1) agree
taken_by (Err e) old new buf is = tt

-- where nothing is open there is nothing to give
none_next : (left : Option (List ℕ)) (bytes : List ℕ) → AreNext left bytes → left ≡ None → bytes ≡ []
none_next None bytes next none = next
none_next (Some rest) bytes next none = cc

-- a read that noted what it gave, where nothing is open
pub unopened_by : {E : Type 0} (result : Result ℕ E) (old new : List Answer) (before after : List ℕ) → IfOk result (λ count. count ≤ length before) → length after ≡ length before
    → IfOk result (λ count. new ≡ gave (take count after) ∷ old) → IfOk result (λ count. (files : Files) → Agree new files → left_after old files ≡ None → count ≡ 0)
unopened_by (Ok count) old new before after within same is = λ files agree none.
    let both = subst (λ (answers : List Answer). Agree answers files) is agree in
    let empty : take count after ≡ [] = none_next (left_after old files) (take count after) both.1 none in
    let size : length (take count after) ≡ count = length-take-le count after (omega (arith, within, same)) in
    let zero : length (take count after) ≡ 0 = ap length empty in
    omega (arith, size, zero)
unopened_by (Err e) old new before after within same is = tt
