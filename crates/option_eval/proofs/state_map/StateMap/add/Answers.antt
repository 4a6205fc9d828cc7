-- The places of these values are taken out, get one more at their end and are put back: no other values' places change.
use Rattle.std.proofs.Common.{ℕ, List, ◌++◌, ◌∷◌, [], unwrap_or, ap, ◌∙◌}
use Rattle.option_eval.specs.States.{map_at}
use Rattle.option_eval.proofs.Extractions.Stating.{get_put}
use Rattle.option_eval.proofs.state_map.StateMap.add.Goals as goal

pub returns : goal.returns
unfolding map_at
returns c =
    get_put (λ places. places.items) c.taken-places.new.self.places c.insert.new.self c.args.values c.push.new.self
    (unwrap_or (map_at c.args.self.now c.args.values) [] ++ c.args.place ∷ [])
    (map_at c.args.self.now)
    (c.in_ok-push.ensures.ok ∙ ap (λ (xs : List ℕ). xs ++ c.args.place ∷ []) c.taken-places.ensures.places)
    (c.taken-places.ensures.others) c.in_ok-insert.ensures.updates.0
