-- An insertion gives the state's values its places, and leaves what other values have.
use Rattle.std.proofs.Common.{Some, refl}
use Rattle.option_eval.specs.States.{map_at}
use Rattle.option_eval.proofs.Extractions.Stating.{get_updated}
use Rattle.option_eval.proofs.state_map.StateMap.put.Goals as goal

pub returns : goal.returns
unfolding map_at
returns c =
    get_updated (λ places. places.items) c.args.self.now.places c.insert.new.self c.args.state.values (Some c.args.state.places) (Some c.args.state.places.items) refl c.in_ok-insert.ensures.updates.0
