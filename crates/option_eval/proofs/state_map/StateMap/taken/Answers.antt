-- To remove one key leaves the places of all other values.
use Rattle.option_eval.specs.States.{map_at}
use Rattle.option_eval.proofs.Extractions.Stating.{get_taken}
use Rattle.option_eval.proofs.state_map.StateMap.taken.Goals as goal

pub returns-in-Some-clause-others : goal.returns-in-Some-clause-others
unfolding map_at
returns-in-Some-clause-others c = get_taken (λ places. places.items) c.args.self.now.places c.remove.new.self c.args.values.now c.in-Some.ensures.updates.0
