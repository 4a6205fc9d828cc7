-- Each turn of `cut_parts` appends the part of the next number, by which the list of parts grows: the lemma `parts-more`.
use Rattle.flow_lanes.proofs.Sessions.PartsOf.{parts-more}
use Rattle.flow_lanes.proofs.cutting.cut_parts.Goals as goal

pub loop-part-preserved : goal.loop-part-preserved
loop-part-preserved c = parts-more _ c.loop-part.part _ _ _ _ c.loop-part.invariant c.in_ok-text.ensures c.in_ok-push.ensures.items
