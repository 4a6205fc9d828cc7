-- The window of a content that the fast pattern alone seeks keeps a `Reach`'s
-- invariant: it begins at 0, which is small, and has no room to bound.
use Rattle.std.proofs.Common.{arith}
use Rattle.std.proofs.lemmas.Int.{ints}
use Rattle.option_eval.proofs.content.reach.Goals as goal

pub invariant_of-result : goal.invariant_of-result
invariant_of-result c = record {
  from_small = (omega (arith, ints), omega (arith, ints));
  room_small = λ x none. absurd (cc);
}
