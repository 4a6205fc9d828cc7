-- A fold over the parts of a text, by a step that may refuse a part: the first part that is refused ends it.
--
-- To try it on: with a step that adds numbers and refuses other words, `1, 2, x, y` is refused at `x`.
use Rattle.std.specs.Prelude.{Result, Ok, List, [], ◌∷◌}
use Rattle.edge_io.specs.OnResult.{◌>>=◌}

-- the draft after all parts, or the fault of the first that is refused
unfoldable pub draft_after : {D X K : Type 0} → (D → X → Result D K) → D → List X → Result D K
draft_after step draft [] = Ok draft
draft_after step draft (part ∷ parts) = step draft part >>= λ next. draft_after step next parts
