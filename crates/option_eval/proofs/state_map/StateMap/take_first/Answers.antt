-- Where a key is taken out of the map, nothing is left at its values, and all else is as before.
use Rattle.std.proofs.Common.{None, refl}
use Rattle.option_eval.specs.States.{map_at}
use Rattle.option_eval.proofs.Extractions.Stating.{get_updated}
use Rattle.option_eval.proofs.state_map.StateMap.take_first.Goals as goal

pub returns-clause-left : goal.returns-clause-left
unfolding map_at
returns-clause-left c = get_updated (λ places. places.items) c.args.self.now.places c.pop_first.new.self c.in_ok-values.values None None refl c.in_ok-values.ensures.updates.0
