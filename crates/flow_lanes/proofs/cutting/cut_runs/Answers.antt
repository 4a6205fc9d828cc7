-- The payloads of one run more are those of the runs before it and then its parts, which is what `cut_run` appends:
-- the lemma `payloads-more`.
use Rattle.std.proofs.Common.{ℕ, List, ◌++◌, ap, sym, ◌∙◌}
use Rattle.flow_lanes.specs.Streams.{item_size, parts_of}
use Rattle.flow_lanes.proofs.Sessions.PartsOf.{payloads-more}
use Rattle.flow_lanes.proofs.cutting.cut_runs.Goals as goal

pub loop-run-preserved : goal.loop-run-preserved
loop-run-preserved c =
    c.in_ok-cut_run.ensures ∙ ap (λ (payloads : List (List ℕ)). payloads ++ parts_of item_size c.in-Some.run'.bytes) c.loop-run.invariant ∙ sym (payloads-more c.loop-run.yielded c.in-Some.run')
