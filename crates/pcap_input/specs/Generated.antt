-- The capture that is made from a seed: one packet a millisecond, of sixteen TCP sessions with a web
-- server and of UDP datagrams to a name server, for trying a configuration and for measuring.
--
-- Numbers are drawn by a linear congruential generator modulo 2 ^ 31, whose multiplier and increment are
-- those of the C standard's example of `rand` (ISO/IEC 9899:2011, 7.22.2.1). A session opens by TCP's
-- handshake (RFC 9293, section 3.5), then 64 bytes and their acknowledgement take turns; one piece of
-- data in fifty begins with `attack`. The packets' bytes are those of `Frames`, and the file is a
-- libpcap savefile (pcap-savefile(5)) of microseconds, least significant byte first, for Ethernet.
-- To try it on: after seed 1 the states are 1103527590 and 377401575, whose numbers over 65536 are
-- 16838 and 5758. The first is 2 below 4, so the first packet is no datagram; the second is 14 below 16:
-- it is the SYN of session 14, from 10.1.0.15, port 40014, with the sequence number 14000.
use Rattle.std.specs.Prelude.{◌≡◌, ℕ, zero, suc, ◌+◌, ◌*◌, ◌/◌, ◌%◌, ◌^◌, ◌==◌, Bool, true, false, if◌then◌else◌, List, [], ◌∷◌, ◌++◌, length, drop, map, codes, decimal, slice_index_or, slice_set}
use Rattle.std.specs.List.{range_with_len}
use Rattle.byteorder.specs.Endian.{little_bytes}
use Rattle.edge_io.specs.declared.link.Link.TheVariants.{Ethernet}
use Rattle.pcap_input.specs.declared.capture.CaptureFault.{CaptureFault}
use Rattle.pcap_input.specs.declared.capture.CaptureHead.{CaptureHead}
use Rattle.pcap_input.specs.declared.capture.Record.{Record}
use Rattle.pcap_input.specs.declared.frames.Endpoint.{Endpoint}
use Rattle.pcap_input.specs.declared.frames.Segment.{Segment}
use Rattle.pcap_input.specs.declared.traffic.TrafficSession.{TrafficSession}
use Rattle.pcap_input.specs.declared.traffic.Traffic.{Traffic}
use Rattle.pcap_input.specs.declared.traffic.Turn.{Turn}
use Rattle.pcap_input.specs.declared.traffic.Turn.TheVariants.{Syn, SynAck, Established, Data, DataAck}
use Rattle.pcap_input.specs.Frames.{tcp_frame, udp_frame}
use Rattle.pcap_input.specs.Cut.{Cut}
use Rattle.pcap_input.specs.Savefile.{file_header, records_left}

-- the state after this one
abbrev pub step : ℕ → ℕ
step state = (state * 1103515245 + 12345) % 2147483648

-- the state after `count` steps
unfoldable pub steps : ℕ → ℕ → ℕ
steps zero state = state
steps (suc count) state = steps count (step state)

-- the number below `limit` that is drawn: the state is stepped first
unfoldable pub draw : ℕ → ℕ → ℕ
draw limit state = step state / 65536 % limit

-- `count` letters, each drawn
unfoldable pub letters : ℕ → ℕ → List ℕ
letters zero state = []
letters (suc count) state = (97 + draw 26 state) ∷ letters count (step state)

-- a text, or where it is marked the same with its first six bytes replaced
unfoldable pub marked : Bool → List ℕ → List ℕ
marked mark text = if mark then codes "attack" ++ drop 6 text else text

-- the payload of a segment: whether it is marked is drawn first, then its letters
unfoldable pub payload_drawn : ℕ → List ℕ
payload_drawn state = marked (draw 50 state == 0) (letters 64 (step state))

-- the ends of session `s`
abbrev pub client_of : ℕ → Endpoint
client_of s = record { net = 1; host = 1 + s; port = 40000 + s }

abbrev pub web_server : Endpoint
web_server = record { net = 2; host = 1; port = 80 }

-- session `s` before its first turn: the numbers that its client and its server send next
abbrev pub first_session : ℕ → TrafficSession
first_session s = record { client = 1000 * s; server = 500000; turn = Syn }

-- what session `s` sends at its turn: the flags are SYN 2, PSH 8, ACK 16
unfoldable pub segment_at : ℕ → ℕ → ℕ → Turn → Segment
segment_at s client server Syn = record { source = client_of s; destination = web_server; seq = client; ack = 0; flags = 2 }
segment_at s client server SynAck = record {
  source = web_server;
  destination = client_of s;
  seq = server;
  ack = client;
  flags = 18;
}
segment_at s client server Established = record {
  source = client_of s;
  destination = web_server;
  seq = client;
  ack = server;
  flags = 16;
}
segment_at s client server Data = record {
  source = client_of s;
  destination = web_server;
  seq = client;
  ack = server;
  flags = 24;
}
segment_at s client server DataAck = record {
  source = web_server;
  destination = client_of s;
  seq = server;
  ack = client;
  flags = 16;
}

-- a sequence number after `count` bytes: they go round at 2 ^ 32
abbrev pub seq_after : ℕ → ℕ → ℕ
seq_after seq count = (seq + count) % 2 ^ 32

-- the session after its turn
unfoldable pub session_after : ℕ → ℕ → Turn → TrafficSession
session_after client server Syn = record { client = seq_after client 1; server = server; turn = SynAck }
session_after client server SynAck = record { client = client; server = seq_after server 1; turn = Established }
session_after client server Established = record { client = client; server = server; turn = Data }
session_after client server Data = record { client = seq_after client 64; server = server; turn = DataAck }
session_after client server DataAck = record { client = client; server = server; turn = Data }

-- only a turn of data has a payload
abbrev pub has_payload : Turn → Bool
has_payload Syn = false
has_payload SynAck = false
has_payload Established = false
has_payload Data = true
has_payload DataAck = false

-- the payload of a turn
unfoldable pub payload_at : Turn → ℕ → List ℕ
payload_at turn state = if has_payload turn then payload_drawn state else []

-- the state after the payload of a turn
unfoldable pub state_after : Turn → ℕ → ℕ
state_after turn state = if has_payload turn then steps 65 state else state

-- the traffic with this state of the generator
abbrev pub with_state : Traffic → ℕ → Traffic
with_state traffic state = record { draws = record { state = state }; sessions = traffic.sessions }

-- the traffic of a seed, before its first packet
abbrev pub first_traffic : ℕ → Traffic
first_traffic seed = record { draws = record { state = seed }; sessions = map first_session (range_with_len 0 16) }

-- session `s` among these
abbrev pub session_at : List TrafficSession → ℕ → TrafficSession
session_at sessions s = slice_index_or sessions s (first_session s)

-- a frame, and the traffic after it
pub record Made : Type 0 where
  pub frame : List ℕ
  pub after : Traffic

-- what session `s` sends from this state, in which its number was drawn
unfoldable pub made_of_session : ℕ → Traffic → Made
made_of_session s traffic =
    let session = session_at traffic.sessions s in
    record {
      frame = tcp_frame (segment_at s session.client session.server session.turn) (payload_at session.turn traffic.draws.state);
      after = record {
        draws = record { state = state_after session.turn traffic.draws.state };
        sessions = slice_set traffic.sessions s (session_after session.client session.server session.turn);
      };
    }

-- a segment: which of the sessions sends is drawn
unfoldable pub made_segment : Traffic → Made
made_segment traffic =
    made_of_session (draw 16 traffic.draws.state) (with_state traffic (step traffic.draws.state))

-- the text of a datagram: its number is drawn
unfoldable pub text_drawn : ℕ → List ℕ
text_drawn state = codes "gen-" ++ decimal (draw 1000 state)

-- a datagram: the last number of its source is drawn, then its text
unfoldable pub made_datagram : Traffic → Made
made_datagram traffic = record {
  frame = udp_frame
      (record { net = 1; host = 1 + draw 16 traffic.draws.state; port = 1024 })
      (record { net = 2; host = 2; port = 53 })
      (text_drawn (step traffic.draws.state));
  after = with_state traffic (steps 2 traffic.draws.state);
}

-- the next frame: one in four is a datagram
unfoldable pub made : Traffic → Made
made traffic =
    let after = with_state traffic (step traffic.draws.state) in
    if draw 4 traffic.draws.state == 0 then made_datagram after else made_segment after

-- this is the next frame, and this is the traffic after it
abbrev pub IsMade : Made → List ℕ → Traffic → Type 0
IsMade next frame after = next ≡ record { frame = frame; after = after }

-- the next `count` frames
unfoldable pub frames : ℕ → Traffic → List (List ℕ)
frames zero traffic = []
frames (suc count) traffic = (made traffic).frame ∷ frames count (made traffic).after

-- the file header
abbrev pub header_bytes : List ℕ
header_bytes =
    212 ∷ 195 ∷ 178 ∷ 161 ∷ 2 ∷ 0 ∷ 4 ∷ 0 ∷ 0 ∷ 0 ∷ 0 ∷ 0 ∷ 0 ∷ 0 ∷ 0 ∷ 0 ∷ 255 ∷ 255 ∷ 0 ∷ 0 ∷ 1 ∷ 0 ∷ 0 ∷ 0 ∷ []

-- the header of a record of `size` bytes at `millis` milliseconds: the second, its microseconds, the
-- captured and the original length
unfoldable pub record_fields : ℕ → ℕ → List ℕ
record_fields millis size =
    little_bytes 4 (millis / 1000) ++ little_bytes 4 (millis % 1000 * 1000) ++ little_bytes 4 size ++ little_bytes 4 size

-- the record of a frame at `millis` milliseconds
unfoldable pub record_bytes : ℕ → List ℕ → List ℕ
record_bytes millis frame = record_fields millis (length frame) ++ frame

-- the records of these frames, one a millisecond
unfoldable pub records_from : ℕ → List (List ℕ) → List ℕ
records_from millis [] = []
records_from millis (first ∷ rest) = record_bytes millis first ++ records_from (millis + 1) rest

-- the capture of these frames
unfoldable pub capture_of : List (List ℕ) → List ℕ
capture_of frames = header_bytes ++ records_from 0 frames

-- the capture of a seed and a count
unfoldable pub generated : ℕ → ℕ → List ℕ
generated seed count = capture_of (frames count (first_traffic seed))

-- What a made capture is as a savefile.

-- the head of a made capture
abbrev pub made_head : CaptureHead
made_head = record { link = Ethernet; swapped = false; nanos = false }

-- what comes after its file header
abbrev pub made_cut : ℕ → ℕ → Cut Record CaptureFault
made_cut seed count = records_left made_head 0 file_header (drop file_header (generated seed count))
