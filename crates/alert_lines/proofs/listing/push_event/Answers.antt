-- The line of an event is its front, its microseconds, a blank and its two ends, appended one after
-- another: the lemma `event_parts`.
use Rattle.std.proofs.lemmas.Result.{on_ok_weaker}
use Rattle.alert_lines.proofs.Records.{event_parts}
use Rattle.alert_lines.proofs.listing.push_event.Goals as goal

pub returns : goal.returns
returns c =
    on_ok_weaker c.push_end-2.result
    (λ e. event_parts c.args.event.now c.args.out.now.items _ _ _ _ _ c.in_ok-push_front.ensures c.in_ok-push_micro.ensures c.in_ok-push_pieces.ensures.appended c.in_ok-push_end.ensures e)
    c.push_end-2.ensures
