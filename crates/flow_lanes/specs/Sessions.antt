-- A session of a flow between two packets, and what a packet does to it.
--
-- What a packet is for its session, and which phase follows, is `session_step` (stream5_sessions
-- specs/Phases, after RFC 9293, sections 3.5 and 3.6). Here is what goes by it: the settings of the end
-- to which the session's first packet went, the two sides at its begin, the bases that a packet sets, and
-- its acknowledgement and its data.
-- To try it on: after SYN, SYN with ACK and ACK from 10.0.0.1 port 1000 to 10.0.0.2 port 80, the client's
-- side goes from 10.0.0.1 to 10.0.0.2 and its base is the SYN's number and one.
use Rattle.std.specs.Prelude.{ℕ, Bool, true, false, not, List, Option, Some, None, length, option_map, unwrap_or, if◌then◌else◌}
use Rattle.edge_io.specs.declared.moment.Moment.{Moment}
use Rattle.packet_decode.specs.declared.item.ItemHead.{ItemHead}
use Rattle.packet_decode.specs.declared.packet.Body.{Body}
use Rattle.packet_decode.specs.declared.packet.Body.TheVariants as body
use Rattle.stream5_sessions.specs.declared.key.End.{End}
use Rattle.stream5_sessions.specs.declared.state.State.{State}
use Rattle.stream5_sessions.specs.declared.step.SessionRules.{SessionRules}
use Rattle.stream5_sessions.specs.declared.step.Step.{Step}
use Rattle.stream5_sessions.specs.Keys.{same_end}
use Rattle.stream5_sessions.specs.Phases.{no_session, segment_of, session_step}
use Rattle.flow_lanes.specs.declared.job.Toward.{Toward}
use Rattle.flow_lanes.specs.Engines.{Making, engine_for, is_listed, limits_to, timeout_to}
pub use Rattle.flow_lanes.specs.declared.session.FlowSession.{FlowSession}
use Rattle.flow_lanes.specs.Sides.{SessionSide, side_after_ack, side_after_data, side_at_begin, with_base, without_left}

-- a packet of a flow, with its moment and what goes by its two ends
pub record Packet : Type 0 where
  pub head : ItemHead
  pub payload : List ℕ
  pub moment : Moment
  pub to_dst : Toward
  pub to_src : Toward

-- the packet is of TCP
abbrev pub is_tcp : Body → Bool
is_tcp (body.Tcp head) = true
is_tcp carried = false

-- what the table of phases reads of the packet: its ends, and the numbers of its data and of its acknowledgement
abbrev pub sender : Packet → End
sender p = (segment_of p.head.ip p.head.body (length p.payload) p.moment).sender

abbrev pub receiver : Packet → End
receiver p = (segment_of p.head.ip p.head.body (length p.payload) p.moment).receiver

abbrev pub seq_of : Packet → ℕ
seq_of p = (segment_of p.head.ip p.head.body (length p.payload) p.moment).seq

abbrev pub ack_of : Packet → ℕ
ack_of p = (segment_of p.head.ip p.head.body (length p.payload) p.moment).ack

-- what goes by an end of the packet
abbrev pub toward : Packet → End → Toward
toward p end = if same_end end (receiver p) then p.to_dst else p.to_src

-- the state of the session that the packet finds
abbrev pub state_found : Packet → Option FlowSession → State
state_found p None = no_session (is_tcp p.head.body) (record { nanos = 0 })
state_found p (Some session) = session.state

-- the end to which the session's first packet went; it is the packet's own where there is no session
abbrev pub opening_end : Packet → Option FlowSession → End
opening_end p None = receiver p
opening_end p (Some session) = session.opened_to

-- the settings by which the packet is read
abbrev pub session_rules : Making → Packet → Option FlowSession → SessionRules
session_rules making p found = record {
  timeout = timeout_to making (is_tcp p.head.body) (toward p (opening_end p found)).engine;
  needed = (toward p (opening_end p found)).needed;
  needed_new = p.to_dst.needed;
}

-- what the packet tells of its session, and the session's state after it
unfoldable pub step_of : Making → Packet → Option FlowSession → Step
step_of making p found = (session_step (state_found p found) (segment_of p.head.ip p.head.body (length p.payload) p.moment)
    (session_rules making p found)).step

unfoldable pub state_of : Making → Packet → Option FlowSession → State
state_of making p found = (session_step (state_found p found) (segment_of p.head.ip p.head.body (length p.payload) p.moment)
    (session_rules making p found)).state

-- the client sent the packet. Where no client is known, neither data nor acknowledgements count
abbrev pub is_from_client : Step → Bool
is_from_client step = unwrap_or step.from_client true

-- the ends of a session that the packet begins
abbrev pub client_end : Packet → Step → End
client_end p step = if is_from_client step then sender p else receiver p

abbrev pub server_end : Packet → Step → End
server_end p step = if is_from_client step then receiver p else sender p

-- the client's side at the begin: its data go to the server, and count by the server's port
abbrev pub client_at_begin : Making → Packet → End → End → SessionSide
client_at_begin making p client server =
    let to : Toward = toward p server in
    side_at_begin client server (limits_to making to.engine) to.preference
    (is_listed (engine_for making to.engine).client_ports server.port)

-- the server's side: its data go to the client, and count by the server's port as well
abbrev pub server_at_begin : Making → Packet → End → End → SessionSide
server_at_begin making p client server =
    let to : Toward = toward p client in
    side_at_begin server client (limits_to making to.engine) to.preference
    (is_listed (engine_for making to.engine).server_ports server.port)

-- a session that the packet begins
unfoldable pub begun_session : Making → Packet → Step → State → FlowSession
begun_session making p step state = record {
  state = state;
  opened_to = receiver p;
  client = client_at_begin making p (client_end p step) (server_end p step);
  server = server_at_begin making p (client_end p step) (server_end p step);
}

-- the session with the bases that the packet sets
abbrev pub with_bases : Step → FlowSession → FlowSession
with_bases step session = record session {
  client = with_base session.client step.client_base;
  server = with_base session.server step.server_base;
}

-- the session without what is left of stretches that have ended
abbrev pub settled : FlowSession → FlowSession
settled session = record session { client = without_left session.client; server = without_left session.server }

-- the session of the packet, if it has one: before its acknowledgement and its data
unfoldable pub session_of : Making → Packet → Option FlowSession → Step → State → Option FlowSession
session_of making p found step state =
    if not step.tracked then None
    else if step.begun then Some (with_bases step (begun_session making p step state))
    else option_map (λ (session : FlowSession). with_bases step (record (settled session) { state = state })) found

-- the side whose data the packet acknowledges, and the side that sent it
abbrev pub acked_side : Step → FlowSession → SessionSide
acked_side step session = if is_from_client step then session.server else session.client

abbrev pub sending_side : Step → FlowSession → SessionSide
sending_side step session = if is_from_client step then session.client else session.server

-- the session after the packet's acknowledgement, where that counts
unfoldable pub after_ack : Packet → Step → FlowSession → FlowSession
after_ack p step session =
    if not step.counts_ack then session
    else if is_from_client step then record session { server = side_after_ack session.server (ack_of p) }
    else record session { client = side_after_ack session.client (ack_of p) }

-- the session after the packet's data, where those count
unfoldable pub after_data : Packet → Step → FlowSession → FlowSession
after_data p step session =
    if not step.takes_data then session
    else if is_from_client step then record session { client = side_after_data session.client (seq_of p) p.payload }
    else record session { server = side_after_data session.server (seq_of p) p.payload }

-- how far the data of the client and of the server reach
abbrev pub sizes_of : FlowSession → ℕ × ℕ
sizes_of session = (session.client.extent.size, session.server.extent.size)
