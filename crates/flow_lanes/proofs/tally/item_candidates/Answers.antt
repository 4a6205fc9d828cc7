-- The inspector's groups are those of its rules (its fact `hold`), so that what they append to an
-- empty list are the candidates.
use Rattle.std.proofs.Common.{ℕ, List, ◌++◌, ap, ◌∙◌}
use Rattle.std.proofs.Math.Logic.{∥∥₁_elim}
use Rattle.std.specs.Coded.{Coded-set, coded_list, coded_ℕ}
use Rattle.fast_pattern.specs.Candidates.{candidates}
use Rattle.flow_lanes.proofs.tally.item_candidates.Goals as goal

pub returns : goal.returns
returns g c =
    ∥∥₁_elim c.args.inspector.now.hold (Coded-set (coded_list coded_ℕ) _ _) (c.in_ok-effort.ensures.appended.appended c.args.inspector.now.set.now.rules)
    ∙ ap (λ (xs : List ℕ). xs ++ candidates c.args.inspector.now.set.now.rules c.args.head.now.body c.args.payload.now) c.new-places.ensures.items
