-- What was left of ended stretches and then all that is held, both with the session's last sizes, are its closing
-- items: the lemma `closing-is`.
use Rattle.std.proofs.lemmas.Result.{on_ok_weaker}
use Rattle.flow_lanes.proofs.Sessions.ItemsOn.{closing-is}
use Rattle.flow_lanes.proofs.session.FlowSession.close.Goals as goal

pub returns-clause-items : goal.returns-clause-items
returns-clause-items c =
    on_ok_weaker c.push_held_items.result
    (closing-is c.args.self.now c.take_left.new.self c.args.moment c.sizes-sizes.result c.in_ok-left.left c.args.out.now.items c.push_maybe.new.out.items c.push_held_items.new.out.items
    c.sizes-sizes.ensures c.in_ok-left.ensures.left c.in_ok-left.ensures.state c.in_ok-push_maybe.ensures)
    c.push_held_items.ensures.items
