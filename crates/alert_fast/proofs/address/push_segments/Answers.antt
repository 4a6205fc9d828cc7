-- Where memory is lacking for the groups after the gap, what was there before is still at the front: all that came
-- was appended (`take-kept`).
use Rattle.std.proofs.lemmas.Result.{on_err_weaker}
use Rattle.std.proofs.Common.{◌≡◌, ℕ, ◌++◌, List, ap, ◌∙◌, append_assoc}
use Rattle.alert_fast.proofs.LineTexts.{take-kept}
use Rattle.alert_fast.proofs.address.push_segments.Goals as goal

pub returns-in_ok-push_pieces-clause-kept : goal.returns-in_ok-push_pieces-clause-kept
returns-in_ok-push_pieces-clause-kept c =
    let old = c.args.out.now.items in
    let following = c.in_ok-push_pieces.ensures.appended ∙ ap (λ (x : List ℕ). x ++ _) c.in_ok-push_groups.ensures.appended ∙ append_assoc old _ _ in
    on_err_weaker c.push_groups-then-is_gap.result (take-kept old _ _ _ following) c.push_groups-then-is_gap.ensures.kept
