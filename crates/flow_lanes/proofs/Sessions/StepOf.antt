-- A packet before which a session ended begins its own session, if it has one.
use Rattle.std.proofs.Common.{◌≡◌, true, length, Option}
use Rattle.stream5_sessions.specs.Phases.{segment_of}
use Rattle.stream5_sessions.proofs.StepLaws.{session_step_fresh}
use Rattle.flow_lanes.specs.Engines.{Making}
use Rattle.flow_lanes.specs.Sessions.{Packet, FlowSession, session_rules, state_found, step_of}

pub fresh : (making : Making) (p : Packet) (found : Option FlowSession) → (step_of making p found).ended_before ≡ true → (step_of making p found).begun ≡ (step_of making p found).tracked
unfolding step_of
fresh making p found = session_step_fresh (state_found p found) (segment_of p.head.ip p.head.body (length p.payload) p.moment) (session_rules making p found)
