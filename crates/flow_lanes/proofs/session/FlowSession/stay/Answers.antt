-- Where neither side has anything left, the phases' own `stay` tells the whole step, and the session changes in its state
-- alone: the lemma `stays-in`.
use Rattle.std.proofs.Common.{length, Some, refl, sym, ◌∙◌}
use Rattle.flow_lanes.specs.Given.{making_of, packet_of}
use Rattle.flow_lanes.proofs.Sessions.StaysAt.{stays-in}
use Rattle.flow_lanes.proofs.session.FlowSession.stay.Goals as goal

pub returns-clause-stays : goal.returns-clause-stays
returns-clause-stays c = λ is.
    let p = packet_of c.args.p.now in
    let old = c.args.self.now in
    stays-in (making_of c.args.settings.now) p old c.rules_of-rules.result c.stay.new.step c.stay.new.self
    (c.rules_of-rules.ensures (Some old) refl) (sym (c.stay.ensures.stays (length p.payload)) ∙ is) (c.stay.ensures.told is (length p.payload))
    (c.has_left.ensures.client c.if-has_left.false) (c.has_left.ensures.server c.if-has_left.false)
