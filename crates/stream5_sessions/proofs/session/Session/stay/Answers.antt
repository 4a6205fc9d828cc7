-- A packet for which `stays_as_is` holds meets a row of the table that leaves the session as it is but for the last moment,
-- and tells what `staying_step` does (`stays-told`).
use Rattle.std.proofs.Common.{sym, ◌∙◌}
use Rattle.stream5_sessions.proofs.StayLaws.{stays-told}
use Rattle.stream5_sessions.proofs.session.Session.stay.Goals as goal

pub returns-then-stays-clause-told : goal.returns-then-stays-clause-told
returns-then-stays-clause-told c = λ is len.
    stays-told c.self.inside.state c.args.self.now c.args.ip.now c.args.body.now len c.args.moment c.args.rules c.staying_step.result
    c.self.view_is (sym (c.stays_as_is-stays.ensures len) ∙ is) (c.staying_step.ensures len c.args.moment)
