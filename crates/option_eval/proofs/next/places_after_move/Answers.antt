-- A jump gives every place, whether each is wanted or one.
use Rattle.option_eval.proofs.next.places_after_move.Goals as goal

pub returns-in_ok-places_after_jump-in_default-clause-after : goal.returns-in_ok-places_after_jump-in_default-clause-after
returns-in_ok-places_after_jump-in_default-clause-after g c = c.in_ok-places_after_jump-in_default.ensures.after c.args.every
