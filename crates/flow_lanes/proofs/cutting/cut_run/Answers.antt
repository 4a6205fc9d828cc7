-- A run that is one part (`is_one_part`) is the only one of its parts, so that it is pushed as it is; any other run is cut.
use Rattle.std.proofs.Common.{List, ℕ, ◌++◌, ap, sym, ◌∙◌}
use Rattle.flow_lanes.proofs.cutting.cut_run.Goals as goal

pub returns-then-is_one_part : goal.returns-then-is_one_part
returns-then-is_one_part c =
    c.in_ok-push.ensures.items ∙ ap (λ (parts : List (List ℕ)). c.args.out.now.items ++ parts) (sym (rw c.bytes.ensures at (c.is_one_part.ensures c.if-is_one_part.true)))

pub returns : goal.returns
returns c = rw c.bytes-2.ensures at c.cut.ensures
