-- The items of a session that has ended find its own bits, which are taken first.
use Rattle.std.proofs.Common.{Option, subst}
use Rattle.rule_eval.specs.Hits.{Bits}
use Rattle.flow_lanes.specs.Given.{inspection_of}
use Rattle.flow_lanes.specs.Tried.{Tallies, of_session, so_far}
use Rattle.flow_lanes.proofs.detecting.try_at_end.Goals as goal

pub returns-clause-tallies : goal.returns-clause-tallies
returns-clause-tallies g c =
    subst
    (λ (bits : Option Bits). Tallies (inspection_of g.P.Pattern.finds c.args.inspector.now) (of_session bits c.args.items.now) (so_far c.args.tally.now) (so_far c.try_items.new.tally))
    c.take_bits_at_hand-bits.ensures.bits c.in_ok-try_items.ensures.tallies
