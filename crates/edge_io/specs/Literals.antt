-- What a maker of literal patterns stands for.
--
-- To try it on: where call 0 is named, the first `make` is refused and its text is in the list;
-- the second makes a pattern and leaves the list.
use Rattle.std.specs.Prelude.{List}
use Rattle.edge_io.specs.declared.pattern.Refusal.{Refusal}
use Rattle.edge_io.specs.Calls.{Calls}

-- what a maker refused so far, in order, and the calls of `make`
pub record LiteralCalls : Type 0 where
  pub refusals : List Refusal
  pub calls : Calls
