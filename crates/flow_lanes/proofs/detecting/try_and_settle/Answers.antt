-- The tally's hits from `first` on are those of this session's items, and so `settle` steers by just these (`settles-by`);
-- no step lets the session reach further.
use Rattle.std.proofs.Common.{Option, subst, sym, ◌∙◌, drop, arith}
use Rattle.std.specs.Prelude.{option_map, unwrap_or, ◌++◌}
use Rattle.std.specs.FinSet.{empty}
use Rattle.rule_eval.specs.Hits.{Bits}
use Rattle.flow_lanes.specs.Flows.{session_at_hand, steered}
use Rattle.flow_lanes.specs.Given.{inspection_of, packet_of}
use Rattle.flow_lanes.specs.Kept.{IsFound}
use Rattle.flow_lanes.specs.Sessions.{FlowSession}
use Rattle.flow_lanes.specs.Tried.{Tallies, of_session, so_far}
use Rattle.flow_lanes.specs.Working.{own_item}
use Rattle.flow_lanes.proofs.Sessions.DetectsOn.{settles-by}
use Rattle.flow_lanes.proofs.detecting.try_and_settle.Goals as goal

pub returns-clause-keeps : goal.returns-clause-keeps
returns-clause-keeps g c = λ tcp places h.
    c.settle.ensures.keeps tcp places
    (c.end_if.ensures.keeps tcp places (subst (λ (s : Option FlowSession). IsFound tcp places s) (sym c.bits_found-bits.ensures.session) h))

pub returns-clause-tallies : goal.returns-clause-tallies
returns-clause-tallies g c =
    subst (λ (bits : Option Bits). Tallies (inspection_of g.P.Pattern.finds c.args.inspector.now) (of_session bits (c.args.streams.now ++ own_item (packet_of c.args.p.now) c.args.own.now))
    (so_far c.args.tally.now) (so_far c.try_current.new.tally)) c.bits_found-bits.ensures.bits c.in_ok-try_current.ensures.tallies

pub returns-clause-settles : goal.returns-clause-settles
returns-clause-settles g c =
    settles-by (inspection_of g.P.Pattern.finds c.args.inspector.now) (c.args.streams.now ++ own_item (packet_of c.args.p.now) c.args.own.now) c.args.step.now c.args.found.now
    c.bits_found-bits.new.found
    c.end_if.new.found c.settle.new.found c.bits_found-bits.result c.try_current.new.bits (so_far c.args.tally.now) (so_far c.try_current.new.tally) c.len-first.result
    c.bits_found-bits.ensures.bits c.bits_found-bits.ensures.session c.end_if.ensures.session (omega (arith, c.len-first.ensures, c.args.tally.now.hits.ok.0)) c.in_ok-try_current.ensures
    (c.settle.ensures.state ∙ (λ i. option_map (λ (session : FlowSession). record {
      session = steered (c.rules.ensures i) (drop c.len-first.result (c.deref.ensures.value i)) session;
      bits = unwrap_or c.try_current.new.bits empty;
    }) (session_at_hand c.end_if.new.found)))
