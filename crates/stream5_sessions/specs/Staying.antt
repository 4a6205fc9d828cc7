-- Packets that leave a session as it is, but for the moment of its last packet.
--
-- Most packets of a session are of this kind: data and acknowledgements of TCP under way, and all but the
-- first of UDP that the client sends, or either side once the server has sent. By the table of phases
-- (specs/Phases) such a packet begins no session, ends none, and sets no base.
-- To try it on: after a handshake a segment with ACK alone stays, and one with FIN doesn't; of UDP the
-- client's second datagram stays, and the server's first doesn't.
use Rattle.std.specs.Prelude.{Bool, true, false, not, ◌&&◌, ◌||◌, None, is_some, if◌then◌else◌}
use Rattle.std.specs.Option.{option_map}
use Rattle.stream5_sessions.specs.declared.segment.SessionSegment.{SessionSegment}
use Rattle.stream5_sessions.specs.declared.state.Phase.{Phase}
use Rattle.stream5_sessions.specs.declared.state.Phase.TheVariants.{Est, Mid}
use Rattle.stream5_sessions.specs.declared.state.State.{State}
use Rattle.stream5_sessions.specs.declared.step.SessionRules.{SessionRules}
use Rattle.stream5_sessions.specs.declared.step.Step.{Step}
use Rattle.stream5_sessions.specs.Keys.{same_end}
use Rattle.stream5_sessions.specs.Phases.{is_established, is_from, is_open, is_timed_out}

-- the phase of UDP in which the server has sent
abbrev pub is_est : Phase → Bool
is_est Est = true
is_est phase = false

-- the phases in which TCP is under way, and no side or one has sent a FIN
abbrev pub is_under_way : Phase → Bool
is_under_way Est = true
is_under_way Mid = true
is_under_way phase = false

-- the packet asks to open, close or reset nothing (RFC 793, section 3.1)
abbrev pub has_no_control : SessionSegment → Bool
has_no_control p = not p.syn && not p.fin && not p.rst

-- the ends of both sides' FINs are known
abbrev pub has_both_fins : State → Bool
has_both_fins s = is_some s.client_fin && is_some s.server_fin

-- the packet leaves the session as it is, by the session's protocol, where there is a session that is not timed out
abbrev pub stays_in : State → SessionSegment → Bool
stays_in s p =
    if s.tcp
    then is_under_way s.phase && has_no_control p && not (has_both_fins s)
    else is_est s.phase || is_from s.client p

-- the packet leaves the session as it is, but for the moment of its last packet
unfoldable pub stays_as_is : State → SessionSegment → SessionRules → Bool
stays_as_is s p rules = is_open s.phase && not (is_timed_out s p.moment rules) && stays_in s p

-- what such a packet tells: of TCP its data and its acknowledgement count
abbrev pub staying_step : State → SessionSegment → Step
staying_step s p = record {
  ended_before = false;
  begun = false;
  tracked = true;
  established = is_established s.phase;
  from_client = option_map (λ client. same_end client p.sender) s.client;
  takes_data = s.tcp;
  counts_ack = s.tcp && p.has_ack;
  ends = false;
  client_base = None;
  server_base = None;
}

-- the session after such a packet
abbrev pub staying_state : State → SessionSegment → State
staying_state s p = record s { last = p.moment }
