-- Packets that leave the session at hand as it is, but for the moment of its last packet, with nothing left of
-- stretches before them.
--
-- Most packets of a flow are of this kind (stream5_sessions specs/Staying). They begin no session and end none,
-- so what they bring can be taken in place.
-- To try it on: of UDP every packet after the server's first one stays, until the timeout.
use Rattle.std.specs.Prelude.{◌≡◌, true, false, Option, Some, None}
use Rattle.stream5_sessions.specs.declared.step.Step.{Step}
use Rattle.flow_lanes.specs.Engines.{Making}
use Rattle.flow_lanes.specs.Flows.{FlowState, bits_at_hand, session_at_hand}
use Rattle.flow_lanes.specs.Sessions.{Packet, FlowSession, session_of, state_of, step_of}
use Rattle.flow_lanes.specs.Working.{HasNoneLeft, TellsLeftAt}

-- the packet has a session, which it neither begins nor ends, and none ended before it
pub record IsWithinSession (step : Step) : Type 0 where
  pub tracked : step.tracked ≡ true
  pub begun : step.begun ≡ false
  pub ended_before : step.ended_before ≡ false
  pub ends : step.ends ≡ false
  pub client_base : step.client_base ≡ None
  pub server_base : step.server_base ≡ None

-- the packet tells this of the session, of which it changes the state alone
pub record StaysIn (making : Making) (p : Packet) (old : FlowSession) (step : Step) (new : FlowSession) : Type 0 where
  pub step_is : step ≡ step_of making p (Some old)
  pub session_is : new ≡ record old { state = state_of making p (Some old) }
  pub kind : IsWithinSession step
  pub client_left : HasNoneLeft old.client
  pub server_left : HasNoneLeft old.server

-- the packet tells this of the session at hand: after it the packet's own is there, with the same bits
pub record StaysAt (making : Making) (p : Packet) (before : Option FlowState) (step : Step)
    (found : Option FlowState) : Type 0 where
  pub step_is : step ≡ step_of making p (session_at_hand before)
  pub session_is : session_at_hand found
      ≡ session_of making p (session_at_hand before) step (state_of making p (session_at_hand before))
  pub bits : bits_at_hand found ≡ bits_at_hand before
  pub kind : IsWithinSession step
  pub left : TellsLeftAt (session_at_hand before) None
