-- One insertion into an empty map leaves one state: its places at its values, and nothing at others.
use Rattle.option_eval.specs.States.{map_at}
use Rattle.option_eval.proofs.Extractions.Stating.{get_one}
use Rattle.option_eval.proofs.state_map.StateMap.of.Goals as goal

pub returns : goal.returns
unfolding map_at
returns c = get_one (λ places. places.items) c.new-places.result c.insert.new.self c.args.state.values c.args.state.places c.new-places.ensures.empty c.in_ok-insert.ensures.updates.0
