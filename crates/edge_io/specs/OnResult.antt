-- A step that may fail, and then the next one where it doesn't: the first fault ends a chain of them.
--
-- It is what the operator `?` does between the steps of a function (The Rust Reference,
-- "The question mark operator"), for any type of faults.
-- To try it on: `Ok 2 >>= (λ n. Ok (n + 1)) ≡ Ok 3`, and `Err why >>= next ≡ Err why`.
use Rattle.std.specs.Prelude.{Result, Ok, Err}

infixl 10 ◌>>=◌
abbrev pub ◌>>=◌ : {A B E : Type 0} → Result A E → (A → Result B E) → Result B E
(Ok value) >>= next = next value
(Err fault) >>= next = Err fault
