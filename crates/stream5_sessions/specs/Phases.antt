-- The phases of a session, as a table, and what each packet tells.
--
-- A session is opened, used and closed as RFC 793 says (section 3.2, figure 6, and sections 3.4 and
-- 3.5): SYN, SYN with ACK, ACK; data and acknowledgements; a FIN of each side and its acknowledgement;
-- or RST. The phases and the rows are this project's own, since a watcher sees the packets of both
-- sides and may come in at any time: a session that was under way is taken up in Mid, unless
-- require_3whs asks for a handshake (Snort Users Manual 2.9, section 2.2.3, `stream5_tcp`),
-- and is watched in Off without its data then.
--
-- Of each phase the rows are listed from top to bottom, and the first one that fits decides; the last one
-- of each phase always fits, so each packet meets exactly one row.
-- To try it on: from 10.0.0.1 port 1000 to 10.0.0.2 port 80 a SYN with seq 0, back a SYN with ACK, seq
-- 100, ack 1, and there an ACK with seq 1, ack 101 go through Syn and SynAck to Est; the client's base
-- is 1 and the server's 101. A packet with ACK, seq 5, ack 1 and data alone goes to Mid, where the
-- client's base is 5 and the server's 1.
use Rattle.std.specs.Prelude.{ℕ, ◌+◌, ◌*◌, ◌%◌, ◌^◌, ◌==◌, Bool, true, false, not, ◌&&◌, ⊤}
use Rattle.std.specs.Prelude.{Option, Some, None, nat_lt, is_some, bit_and, if◌then◌else◌}
use Rattle.std.specs.Option.{option_map}
use Rattle.edge_io.specs.declared.moment.Moment.{Moment}
use Rattle.packet_decode.specs.declared.packet.IpHead.{IpHead}
use Rattle.packet_decode.specs.declared.packet.Body.{Body}
use Rattle.packet_decode.specs.declared.packet.Body.TheVariants.{Tcp, Udp}
use Rattle.stream5_sessions.specs.declared.key.End.{End}
use Rattle.stream5_sessions.specs.declared.segment.SessionSegment.{SessionSegment}
use Rattle.stream5_sessions.specs.declared.state.Phase.{Phase}
use Rattle.stream5_sessions.specs.declared.state.Phase.TheVariants.{NoSession, Syn, SynAck, Est, Mid, Closing, Off}
use Rattle.stream5_sessions.specs.declared.state.State.{State}
use Rattle.stream5_sessions.specs.declared.state.Change.{Change}
use Rattle.stream5_sessions.specs.declared.step.SessionRules.{SessionRules}
use Rattle.stream5_sessions.specs.declared.step.Step.{Step}
use Rattle.stream5_sessions.specs.Keys.{same_end}

-- the sequence number `count` places after another (RFC 793, section 3.3)
abbrev pub plus : ℕ → ℕ → ℕ
plus seq count = (seq + count) % 2 ^ 32

-- the body is of the session's protocol
abbrev pub IsBodyOf : Bool → Body → Type 0
IsBodyOf true (Tcp head) = ⊤
IsBodyOf false (Udp sport dport) = ⊤
IsBodyOf tcp body = ⊥

-- one of the control bits is set (RFC 793, section 3.1)
abbrev pub is_set : ℕ → ℕ → Bool
is_set bit flags = not (bit_and flags bit == 0)

-- what the table reads of a packet with `len` bytes of data: FIN is bit 1, SYN 2, RST 4 and ACK 16
abbrev pub segment_of : IpHead → Body → ℕ → Moment → SessionSegment
segment_of ip (Tcp head) len moment = record {
  sender = record { addr = ip.src; port = head.sport };
  receiver = record { addr = ip.dst; port = head.dport };
  fin = is_set 1 head.flags;
  syn = is_set 2 head.flags;
  rst = is_set 4 head.flags;
  has_ack = is_set 16 head.flags;
  seq = head.seq;
  ack = head.ack;
  len = len;
  moment = moment;
}
segment_of ip (Udp sport dport) len moment = record {
  sender = record { addr = ip.src; port = sport };
  receiver = record { addr = ip.dst; port = dport };
  fin = false;
  syn = false;
  rst = false;
  has_ack = false;
  seq = 0;
  ack = 0;
  len = len;
  moment = moment;
}
segment_of ip body len moment = record {
  sender = record { addr = ip.src; port = 0 };
  receiver = record { addr = ip.dst; port = 0 };
  fin = false;
  syn = false;
  rst = false;
  has_ack = false;
  seq = 0;
  ack = 0;
  len = len;
  moment = moment;
}

-- the state where there is no session
abbrev pub no_session : Bool → Moment → State
no_session tcp last = record {
  tcp = tcp;
  phase = NoSession;
  client = None;
  client_base = None;
  server_base = None;
  client_fin = None;
  server_fin = None;
  last = last;
}

-- The words of the rows.

-- the phase is that of a session that there is
abbrev pub is_open : Phase → Bool
is_open NoSession = false
is_open phase = true

-- the packet is from the client, where one is known: also where both ends are the same
abbrev pub is_from : Option End → SessionSegment → Bool
is_from None p = false
is_from (Some client) p = same_end client p.sender

-- the packet is from the server, where a client is known
abbrev pub is_from_server : State → SessionSegment → Bool
is_from_server s p = is_some s.client && not (is_from s.client p)

-- a base that is known
abbrev pub is_base : Option ℕ → ℕ → Bool
is_base None number = false
is_base (Some base) number = number == base

-- a base that isn't set yet is set to the number
abbrev pub unset : Option ℕ → ℕ → Option ℕ
unset None number = Some number
unset (Some base) number = None

-- the change of a packet that changes nothing: neither data nor acknowledgement count
abbrev pub stays : State → Change
stays s = record { phase = s.phase; client = s.client; client_base = None; server_base = None; counts = false; ends = false }

-- the session ends with this packet
abbrev pub ends : State → Change
ends s = record (stays s) { ends = true }

-- this packet begins no session
abbrev pub begins_none : Change
begins_none = record { phase = NoSession; client = None; client_base = None; server_base = None; counts = false; ends = false }

-- this packet begins a session that is only watched
abbrev pub begins_off : Change
begins_off = record begins_none { phase = Off }

-- this packet begins a session in this phase, with this client and these bases of the client and the server
abbrev pub begins : Phase → End → Option ℕ → Option ℕ → Change
begins phase client client_base server_base = record {
  phase = phase;
  client = Some client;
  client_base = client_base;
  server_base = server_base;
  counts = false;
  ends = false;
}

-- the end with the larger port, the sender where the ports are equal
abbrev pub larger_end : SessionSegment → End
larger_end p = if nat_lt p.sender.port p.receiver.port then p.receiver else p.sender

-- this packet begins a session under way: the base of its sender is seq, that of the other end ack, if there is one
abbrev pub begins_mid : SessionSegment → Change
begins_mid p =
    if same_end (larger_end p) p.sender
    then record (begins Mid (larger_end p) (Some p.seq) (if p.has_ack then Some p.ack else None)) { counts = true }
    else record (begins Mid (larger_end p) (if p.has_ack then Some p.ack else None) (Some p.seq)) { counts = true }

-- a session is taken up under way: where they aren't set, the base of the sender is seq, the other's ack
abbrev pub goes_mid : State → SessionSegment → Change
goes_mid s p =
    if is_from s.client p
    then record (stays s) {
      phase = Mid;
      client_base = unset s.client_base p.seq;
      server_base = unset s.server_base p.ack;
      counts = true;
    }
    else record (stays s) {
      phase = Mid;
      client_base = unset s.client_base p.ack;
      server_base = unset s.server_base p.seq;
      counts = true;
    }

-- the end of a FIN: the place after the data and the FIN itself
abbrev pub fin_end : SessionSegment → ℕ
fin_end p = plus (plus p.seq p.len) 1

-- the end of the client's last FIN that counted, and of the server's, with this packet counted
abbrev pub client_fin_after : State → SessionSegment → Option ℕ
client_fin_after s p = if p.fin && is_from s.client p then Some (fin_end p) else s.client_fin

abbrev pub server_fin_after : State → SessionSegment → Option ℕ
server_fin_after s p = if p.fin && not (is_from s.client p) then Some (fin_end p) else s.server_fin

-- acknowledgement and data count; once each side has sent a FIN, the session is closing
abbrev pub counts_on : State → SessionSegment → Change
counts_on s p = record (stays s) {
  phase = (if is_some (client_fin_after s p) && is_some (server_fin_after s p) then Closing else s.phase);
  counts = true;
}

-- the packet acknowledges the other side's last FIN
abbrev pub acks_fin : State → SessionSegment → Bool
acks_fin s p = p.has_ack && is_base (if is_from s.client p then s.server_fin else s.client_fin) p.ack

-- The table of TCP, a phase at a time: what the packet has, and what follows.

-- no session: CLOSED in RFC 793; `needed` says that a session begins only with a handshake
unfoldable pub in_none : SessionSegment → Bool → Change
in_none p needed =
    if p.rst then begins_none else
    if p.syn && not p.has_ack then begins Syn p.sender (Some (plus p.seq 1)) None else
    if p.syn && p.has_ack && not needed then begins SynAck p.receiver (Some p.ack) (Some (plus p.seq 1)) else
    if not p.syn && not needed then begins_mid p else
    begins_off

-- a SYN of the client was seen: SYN-SENT, of the client
unfoldable pub in_syn : State → SessionSegment → Bool → Change
in_syn s p needed =
    if p.rst then ends s else
    if is_from_server s p && p.syn && p.has_ack && is_base s.client_base p.ack
    then record (stays s) { phase = SynAck; server_base = Some (plus p.seq 1) } else
    if is_from s.client p && p.syn && not p.has_ack then record (stays s) { client_base = Some (plus p.seq 1) } else
    if p.has_ack && not p.syn && not needed then goes_mid s p else
    stays s

-- the server's SYN with ACK was seen: SYN-RECEIVED, of the server
unfoldable pub in_syn_ack : State → SessionSegment → Change
in_syn_ack s p =
    if p.rst then ends s else
    if is_from_server s p && p.syn && p.has_ack then record (stays s) { server_base = Some (plus p.seq 1) } else
    if is_from s.client p && p.has_ack && not p.syn then record (stays s) { phase = Est; counts = true } else
    stays s

-- ESTABLISHED, after a whole handshake (Est) or taken up under way (Mid)
unfoldable pub in_est : State → SessionSegment → Change
in_est s p =
    if p.rst then ends s else
    if not p.syn then counts_on s p else
    stays s

-- what follows a packet in a phase
pub data Reading : Type 0 where
  -- this changes
  Then : Change → Reading
  -- the session ends before the packet, which is then read where there is no session
  EndsBefore : Reading

-- the session ends before the packet, or this changes
abbrev pub reading : Bool → Change → Reading
reading true change = EndsBefore
reading false change = Then change

-- each side has sent a FIN: CLOSING, LAST-ACK
unfoldable pub in_closing : State → SessionSegment → Reading
in_closing s p =
    if p.rst then Then (ends s) else
    if p.syn && not p.has_ack then EndsBefore else
    if not p.syn then Then (record (stays s) { counts = true; ends = acks_fin s p }) else
    Then (stays s)

-- a session that is only watched
unfoldable pub in_off : State → SessionSegment → Reading
in_off s p =
    if p.syn && not p.has_ack then EndsBefore else
    if p.rst then Then (ends s) else
    Then (stays s)

-- The table of UDP: the sender of the first packet is the client; Est once the server has sent.
unfoldable pub in_udp : State → SessionSegment → Change
in_udp s p =
    if not (is_open s.phase) then begins Syn p.sender None None else
    if is_from_server s p then record (stays s) { phase = Est } else
    stays s

-- the row that a packet meets; in EndsBefore the session ends before the packet
abbrev pub tcp_row : Phase → State → SessionSegment → SessionRules → Reading
tcp_row NoSession s p rules = Then (in_none p rules.needed_new)
tcp_row Syn s p rules = Then (in_syn s p rules.needed)
tcp_row SynAck s p rules = Then (in_syn_ack s p)
tcp_row Est s p rules = Then (in_est s p)
tcp_row Mid s p rules = Then (in_est s p)
tcp_row Closing s p rules = in_closing s p
tcp_row Off s p rules = in_off s p

unfoldable pub row_of : State → SessionSegment → SessionRules → Reading
row_of s p rules = if s.tcp then tcp_row s.phase s p rules else Then (in_udp s p)

-- What a packet tells and leaves.

-- the phases in which an item is established
abbrev pub is_established : Phase → Bool
is_established Est = true
is_established Mid = true
is_established Closing = true
is_established phase = false

-- a base that this packet sets takes the place of the old one
abbrev pub base_after : Option ℕ → Option ℕ → Option ℕ
base_after None old = old
base_after (Some new) old = Some new

-- What the packet tells: the facts are those of the phase after it, and before an end. Of a UDP
-- session neither data nor acknowledgements count, no packet ends it, and it has no bases.
abbrev pub step_of : Bool → State → Change → SessionSegment → Step
step_of ended_before s change p = record {
  ended_before = ended_before;
  begun = not (is_open s.phase) && is_open change.phase;
  tracked = is_open change.phase;
  established = is_established change.phase;
  from_client = option_map (λ client. same_end client p.sender) change.client;
  takes_data = change.counts;
  counts_ack = change.counts && p.has_ack;
  ends = change.ends;
  client_base = change.client_base;
  server_base = change.server_base;
}

-- The session after a packet that doesn't end it. A FIN is noted exactly where data count.
abbrev pub state_after : State → Change → SessionSegment → State
state_after s change p =
    let now : State = record s { client = change.client } in
    record {
      tcp = s.tcp;
      phase = change.phase;
      client = change.client;
      client_base = base_after change.client_base s.client_base;
      server_base = base_after change.server_base s.server_base;
      client_fin = (if change.counts then client_fin_after now p else s.client_fin);
      server_fin = (if change.counts then server_fin_after now p else s.server_fin);
      last = p.moment;
    }

-- what a packet tells, and the session after it
pub record Taken : Type 0 where
  pub step : Step
  pub state : State

-- what a packet tells that changes this, and the session after it
unfoldable pub taken : Bool → State → Change → SessionSegment → Taken
taken ended_before s change p = record {
  step = step_of ended_before s change p;
  state = (if change.ends then no_session s.tcp p.moment else state_after s change p);
}

-- at this moment the last packet lies further back than the timeout, in seconds: over whole numbers
unfoldable pub is_timed_out : State → Moment → SessionRules → Bool
is_timed_out s moment rules = is_open s.phase && nat_lt (s.last.nanos + rules.timeout * 1000000000) moment.nanos

-- the session that a packet meets: none after the timeout
unfoldable pub at_hand : State → SessionSegment → SessionRules → State
at_hand s p rules = if is_timed_out s p.moment rules then no_session s.tcp s.last else s

-- what a packet tells and leaves, by the row that it meets
abbrev pub by_row : Bool → State → Reading → SessionSegment → Bool → Taken
by_row timed_out s (Then change) p needed_new = taken timed_out s change p
by_row timed_out s EndsBefore p needed_new = taken true (no_session s.tcp s.last) (in_none p needed_new) p

-- one packet of a session: what it tells, and the session after it
unfoldable pub session_step : State → SessionSegment → SessionRules → Taken
session_step s p rules =
    let now : State = at_hand s p rules in
    by_row (is_timed_out s p.moment rules) now (row_of now p rules) p rules.needed_new
