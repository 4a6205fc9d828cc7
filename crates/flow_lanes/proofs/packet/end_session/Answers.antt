-- The items of the closing session are tried with its bits, which closing it leaves.
use Rattle.std.proofs.Common.{List, ◌++◌, ap, subst, ◌∙◌, true}
use Rattle.rule_eval.specs.declared.item.Item.{Item}
use Rattle.flow_lanes.specs.Flows.{session_at_hand}
use Rattle.flow_lanes.specs.Given.{inspection_of}
use Rattle.flow_lanes.specs.Tried.{Gain, Tallies, of_session, so_far}
use Rattle.flow_lanes.specs.Working.{ended_items}
use Rattle.flow_lanes.proofs.packet.end_session.Goals as goal

pub returns-clause-tallies : goal.returns-clause-tallies
returns-clause-tallies g c =
    let items_are = c.deref.ensures.value ∙ c.in_ok-push_closing_items.ensures.items
    ∙ ap (λ (xs : List Item). xs ++ ended_items c.args.moment true (session_at_hand c.args.found.now)) c.new-items.ensures.items in
    subst (λ (gain : Gain). Tallies (inspection_of g.P.Pattern.finds c.args.inspector.now) gain (so_far c.args.tally.now) (so_far c.try_at_end.new.tally))
    (λ i. of_session (c.push_closing_items.ensures.bits i) (items_are i)) c.in_ok-try_at_end.ensures.tallies
