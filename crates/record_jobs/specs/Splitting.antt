-- A capture that is split by pairs of addresses, and what a record of a part has of items.
--
-- A part is what is read of the packets between some pairs of addresses, in both directions; records that are skipped
-- may be of any part. The items of its records, with all rules that match them, are those that they have in the whole,
-- under these conditions:
--
-- - There is room: no flow is ended for another one, and no fragments are dropped for others. (A full table drops what
--   was silent for longest, which may be another part's.)
-- - The part begins when the capture does: its first record has the moment of the capture's first. (From it on goes the
--   time in which sessions are taken up without a handshake.)
--
-- So it is of the items that come while the capture goes on. The flows that live at its end have their last items there,
-- which are of no record: of these a part has the ones that go between its pairs, if it ends when the capture does. A
-- record of 0 bytes is skipped, so it may be of every part: where the capture begins and ends with one, so may each.
-- To try it on: of packets between a and b and between c and d, the part of a and b has the former alone, with the same
-- items. Where at most one flow may live, each ends the other's, and there is no room. Where the last packet is between
-- c and d, and no record of 0 bytes follows, the last stream of a and b has an earlier moment in the part.
use Rattle.std.specs.Prelude.{◌≡◌, ◌≤◌, ◌⊎◌, ◌++◌, Bool, List, IfSome, Ok, filter, length}
use Rattle.edge_io.specs.Along.{chained, trail, trail_from}
use Rattle.edge_io.specs.declared.address.Addr.{Addr}
use Rattle.packet_decode.specs.declared.item.ItemHead.{ItemHead}
use Rattle.packet_decode.specs.declared.packet.IpHead.{IpHead}
use Rattle.packet_decode.specs.Decoding.{Fields}
use Rattle.conf_types.specs.declared.config.FragConfig.{FragConfig}
use Rattle.stream5_sessions.specs.Keys.{is_of}
use Rattle.stream5_sessions.specs.Liveness.{distinct_count, max_for}
use Rattle.flow_lanes.specs.declared.answer.Hits.{Hits}
use Rattle.flow_lanes.specs.declared.job.Job.{Job}
use Rattle.flow_lanes.specs.Flows.{Detection, answer}
use Rattle.record_jobs.specs.Counts.{fragments_read}
use Rattle.record_jobs.specs.Jobs.{begin_of, end_of, finishes, jobs}
use Rattle.record_jobs.specs.Packets.{said_by}
use Rattle.record_jobs.specs.Touches.{most_flows, touches}
use Rattle.record_jobs.specs.Way.{LinkedRecord, Way}

-- which records are of a part
abbrev pub Part : Type 0
Part = LinkedRecord → Bool

-- two packets go between one pair of addresses, both in one direction or each in its own
abbrev pub AreOfOnePair : IpHead → IpHead → Type 0
AreOfOnePair one other = ((one.src ≡ other.src) × (one.dst ≡ other.dst)) ⊎ ((one.src ≡ other.dst) × (one.dst ≡ other.src))

-- records of packets between one pair of addresses are all of the part, or none is
abbrev pub IsByPair : Way → Part → Type 0
IsByPair way part = (r s : LinkedRecord) (one other : Fields) → said_by way r ≡ Ok one → said_by way s ≡ Ok other
    → AreOfOnePair one.ip other.ip → part r ≡ part s

-- the records of a part
abbrev pub of_part : Part → List LinkedRecord → List LinkedRecord
of_part part records = filter part records

-- there is room for all flows of these records
abbrev pub HasRoom : Way → List LinkedRecord → Type 0
HasRoom way records =
    (tcp : Bool) → distinct_count (filter (is_of tcp) (touches way records)) ≤ max_for (most_flows way.stream) tcp

-- there is room for all fragments of these records, where fragments are put together
abbrev pub HasRoomToJoin : Way → List LinkedRecord → Type 0
HasRoomToJoin way records = IfSome way.frag (λ (config : FragConfig). length (fragments_read way records) ≤ config.max_frags)

-- this is a part of the records, by pairs, with room in the whole, and with its beginning
pub record IsSplit (way : Way) (part : Part) (records : List LinkedRecord) : Type 0 where
  pub by_pair : IsByPair way part
  pub room : HasRoom way records
  pub join : HasRoomToJoin way records
  pub start : begin_of (of_part part records) ≡ begin_of records

-- the items of a record after these records, each with all rules that match it
abbrev pub items_of_job : Detection → List Job → Job → List Hits
items_of_job d before job = (answer d before job).items

abbrev pub record_items : Detection → Way → List LinkedRecord → LinkedRecord → List Hits
record_items d way = chained (items_of_job d) (jobs way)

-- ---- where the capture has ended

-- which pairs of addresses are of a part
abbrev pub Pairs : Type 0
Pairs = Addr → Addr → Bool

-- both directions of a pair are of a part, or neither is; and the part's packets are those between its pairs
pub record IsOfPairs (way : Way) (pairs : Pairs) (part : Part) : Type 0 where
  pub either : (a b : Addr) → pairs a b ≡ pairs b a
  pub read : (r : LinkedRecord) (fields : Fields) → said_by way r ≡ Ok fields → part r ≡ pairs fields.ip.src fields.ip.dst

-- this is a part of the records, by these pairs, with its beginning and its end
pub record IsSplitWhole (way : Way) (pairs : Pairs) (part : Part) (records : List LinkedRecord) : Type 0 where
  pub split : IsSplit way part records
  pub of_pairs : IsOfPairs way pairs part
  pub end : end_of (of_part part records) ≡ end_of records

-- the items of the flows that live after these records, and end there
abbrev pub last_items : Detection → Way → List LinkedRecord → List Hits
last_items d way records = trail_from (items_of_job d) (trail (jobs way) records) (finishes way records)

-- all items of a capture that has these records
abbrev pub all_items : Detection → Way → List LinkedRecord → List Hits
all_items d way records = trail (record_items d way) records ++ last_items d way records

-- a head goes between two addresses of these pairs, and the items that do
abbrev pub is_between : Pairs → ItemHead → Bool
is_between pairs head = pairs head.ip.src head.ip.dst

abbrev pub items_between : Pairs → List Hits → List Hits
items_between pairs items = filter (λ (hits : Hits). is_between pairs hits.head) items
