-- A place past the end is the end.
use Rattle.std.proofs.Common.{◌≡◌, ℕ, List, length, min, insert, arith}
use Rattle.std.proofs.lemmas.Grind.{common_steps}

pub insert-min : {X : Type 0} (xs : List X) (place : ℕ) (x : X) → insert xs (min place (length xs)) x ≡ insert xs place x
insert-min xs place x = grind (arith, common_steps)

pub ruleset settling = (insert-min)
