-- What the group gives is what the tokens left give after the parts so far:
-- a token out of place is bad, and so is an end where one must follow.
use Rattle.std.proofs.Common.{◌∙◌, sym, arith}
use Rattle.net_lists.specs.Machine.{group_parts}
use Rattle.net_lists.proofs.Lists.Steps.{goes_on, stops_at, stops_early, is_done}
use Rattle.net_lists.proofs.read.group_parts.Goals as goal

pub returns-in_default-step : goal.returns-in_default-step
unfolding group_parts
returns-in_default-step g c = stops_at g.B.Spelled.bounds_of _ _ _ _ c.loop-token.invariant.so_far _ _ c.in-Some.ensures.token c.in_default-step.ensures.step

pub returns-then-not-is_end : goal.returns-then-not-is_end
unfolding group_parts
returns-then-not-is_end g c = stops_early g.B.Spelled.bounds_of _ _ _ _ c.loop-token.invariant.so_far c.in_default.ensures.token (sym c.is_end.ensures ∙ c.if-not-is_end.true)

pub returns : goal.returns
unfolding group_parts
returns g c = is_done g.B.Spelled.bounds_of _ _ _ _ c.loop-token.invariant.so_far c.in_default.ensures.token (sym c.is_end.ensures ∙ c.if-not-is_end.false)

pub loop-token-preserved : goal.loop-token-preserved
loop-token-preserved g c = record {
  shallow = omega (arith, c.in-Some.ensures.after, c.in-Some-step.ensures.next, c.loop-token.invariant.shallow);
  negated = c.in-Some-step.ensures.next.1 c.loop-token.invariant.negated;
  so_far = goes_on g.B.Spelled.bounds_of _ _ _ _ c.loop-token.invariant.so_far _ _ c.in-Some-step.step _ c.in-Some.ensures.token c.in-Some-step.ensures.step c.in_ok-push_part.ensures;
}
