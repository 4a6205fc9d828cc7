-- A step that may give nothing, and then the next one where it gives something: the first step that
-- gives nothing ends a chain of them.
--
-- It is what the operator `?` does between the steps of a function (The Rust Reference,
-- "The question mark operator").
-- To try it on: `Some 2 >>= (λ n. Some (n + 1)) ≡ Some 3`, and `None >>= next ≡ None`.
use Rattle.std.specs.Prelude.{Option, option_and_then}

infixl 10 ◌>>=◌
abbrev pub ◌>>=◌ : {A B : Type 0} → Option A → (A → Option B) → Option B
value >>= next = option_and_then next value
