-- The parts of a record's step, in the terms of the code's functions.
use Rattle.std.specs.Prelude.{◌≡◌, ℕ, ◌+◌, ◌≤◌, Bool, false, List, ◌++◌, length, Option, Some, None, IfSome, Result, is_some, option_and_then, if◌then◌else◌}
use Rattle.std.specs.Option.{option_map, option_map_or, option_to_list}
use Rattle.edge_io.specs.declared.moment.Moment.{Moment}
use Rattle.packet_decode.specs.declared.checks.Checks.{Checks}
use Rattle.packet_decode.specs.declared.item.ItemKind.TheVariants as kind
use Rattle.packet_decode.specs.declared.placed.Placed.{Placed}
use Rattle.packet_decode.specs.declared.skip.Skip.{Skip}
use Rattle.packet_decode.specs.declared.skip.Skip.TheVariants as skip
use Rattle.packet_decode.specs.Decoding.{Fields}
use Rattle.conf_types.specs.declared.config.FragConfig.{FragConfig}
use Rattle.frag3_core.specs.declared.answer.Datagram.{Datagram}
use Rattle.frag3_core.specs.Trackers.{Frag3State, after}
use Rattle.stream5_sessions.specs.declared.flows.Touch.{Touch}
use Rattle.stream5_sessions.specs.declared.key.Key.{Key}
use Rattle.stream5_sessions.specs.Caches.{FlowsState, HasSeen}
use Rattle.stream5_sessions.specs.Liveness.{touch_found}
use Rattle.flow_lanes.specs.declared.job.Job.{Job}
use Rattle.flow_lanes.specs.declared.job.Work.{Work}
use Rattle.record_jobs.specs.declared.counts.RecordCounts.{RecordCounts}
use Rattle.record_jobs.specs.declared.content.RecordContent.{RecordContent}
use Rattle.record_jobs.specs.declared.item.RecordItem.{RecordItem}
use Rattle.record_jobs.specs.Fronts.{FrontState}
use Rattle.record_jobs.specs.Jobs.{numbered, time_by, works_by}
use Rattle.record_jobs.specs.Packets.{datagram_from, datagram_item, datagram_skip, fragment_fields, fragment_of, item_of, packet_from, said_by, skip_from}
use Rattle.record_jobs.specs.Touches.{item_key}
use Rattle.record_jobs.specs.Way.{LinkedRecord, Way}

-- ---- what a record brings

-- what is inspected of a packet of version 4 that was read so, with this payload
abbrev pub read_item : Moment → Placed → List ℕ → RecordItem
read_item moment read payload = item_of kind.Packet moment (record { ip = read.ip; body = read.body; payload = payload })

-- nothing
abbrev pub no_content : RecordContent
no_content = record { fragment = None; packet = None; skip = None; rebuilt = false }

-- a packet that is no fragment
abbrev pub packet_content : Moment → Fields → RecordContent
packet_content moment fields = record {
  fragment = None;
  packet = Some (item_of kind.Packet moment fields);
  skip = None;
  rebuilt = false;
}

-- a fragment, and the datagram that it completes, if it completes one
abbrev pub fragment_content : Checks → Moment → Fields → Option Datagram → RecordContent
fragment_content checks moment fields datagram = record {
  fragment = Some (item_of kind.Fragment moment fields);
  packet = datagram_item checks moment datagram;
  skip = datagram_skip checks datagram;
  rebuilt = is_some datagram;
}

-- what a record brings that says this, where these fragments wait
unfoldable pub content_from : Way → Option Frag3State → Moment → Result Fields Skip → RecordContent
content_from way waiting moment said = let datagram : Option Datagram = datagram_from way waiting moment said in record {
  fragment = option_map (item_of kind.Fragment moment) (fragment_fields said);
  packet = packet_from way moment datagram said;
  skip = skip_from way datagram said;
  rebuilt = is_some datagram;
}

unfoldable pub record_content : Way → Option Frag3State → LinkedRecord → RecordContent
record_content way waiting r = content_from way waiting r.captured.moment (said_by way r)

-- the fragments that wait after a fragment
unfoldable pub waiting_after_fragment : Way → Option Frag3State → Moment → Fields → Option Frag3State
waiting_after_fragment way waiting moment fields =
    option_map (λ (frag3 : Frag3State). option_map_or (λ (config : FragConfig). after frag3
    (fragment_of way config moment fields)) way.frag frag3) waiting

-- the fragments that wait after what was read
abbrev pub waiting_from : Way → Option Frag3State → Moment → Result Fields Skip → Option Frag3State
waiting_from way waiting moment said = option_map_or (waiting_after_fragment way waiting moment) (fragment_fields said) waiting

unfoldable pub waiting_after : Way → Option Frag3State → LinkedRecord → Option Frag3State
waiting_after way waiting r = waiting_from way waiting r.captured.moment (said_by way r)

-- a datagram has no more bytes than one may have
abbrev pub IsShortDatagram : Datagram → Type 0
IsShortDatagram datagram = length datagram.bytes ≤ 65535

-- an item that is inspected has no more data than a datagram may have
abbrev pub IsShortItem : RecordItem → Type 0
IsShortItem item = length item.payload ≤ 65535

-- a record's packet, if there is one, has no more data than that
abbrev pub HasShortPacket : RecordContent → Type 0
HasShortPacket content = IfSome content.packet IsShortItem

-- ---- flows

-- whatever was touched, this is what a touch of the key finds, if there is one
abbrev pub FindsTouch : FlowsState → Option Key → Option Touch → Type 0
FindsTouch flows key touch = (touches : List Key) → HasSeen flows touches → touch ≡ option_map (touch_found flows.max touches) key

-- whatever was touched, the key is touched now, if there is one
abbrev pub SeesKey : FlowsState → Option Key → FlowsState → Type 0
SeesKey old key new = (touches : List Key) → HasSeen old touches → HasSeen new (option_to_list key ++ touches)

-- the key that a record's packet touches
abbrev pub content_key : Way → RecordContent → Option Key
content_key way content = option_and_then (item_key way) content.packet

-- ---- counts

-- one reason more, if there is one
abbrev pub with_skip : RecordCounts → Option Skip → RecordCounts
with_skip counts None = counts
with_skip counts (Some skip.Short) = record counts { short = counts.short + 1 }
with_skip counts (Some skip.OtherProtocol) = record counts { other = counts.other + 1 }
with_skip counts (Some skip.Checksum) = record counts { checksum = counts.checksum + 1 }
with_skip counts (Some skip.Malformed) = record counts { malformed = counts.malformed + 1 }

-- one, where the test holds
abbrev pub one_if : Bool → ℕ
one_if test = if test then 1 else 0

-- the touch begins a flow
abbrev pub is_fresh : Option Touch → Bool
is_fresh touch = option_map_or (λ (t : Touch). t.fresh) touch false

-- what else a record is counted as: a fragment, a datagram that was put together, a flow that began
abbrev pub with_content : RecordCounts → RecordContent → Option Touch → RecordCounts
with_content counts content touch = record counts {
  records = counts.records + 1;
  fragments = counts.fragments + one_if (is_some content.fragment);
  rebuilt = counts.rebuilt + one_if content.rebuilt;
  flows = counts.flows + one_if (is_fresh touch);
}

unfoldable pub counts_after : RecordCounts → RecordContent → Option Touch → RecordCounts
counts_after counts content touch = with_content (with_skip counts content.skip) content touch

-- no reason is counted more often than the first number says, and nothing else more often than the second
pub record AreUpTo (skips rest : ℕ) (counts : RecordCounts) : Type 0 where
  pub short : counts.short ≤ skips
  pub other : counts.other ≤ skips
  pub checksum : counts.checksum ≤ skips
  pub malformed : counts.malformed ≤ skips
  pub fragments : counts.fragments ≤ rest
  pub rebuilt : counts.rebuilt ≤ rest
  pub flows : counts.flows ≤ rest

-- nothing is counted more often than there were records
abbrev pub AreFew : RecordCounts → Type 0
AreFew counts = AreUpTo counts.records counts.records counts

-- ---- jobs

-- what is done was added after the old list, numbered from this number on
pub record Adds (number : ℕ) (moment : Moment) (todo : List Work) (jobs_old : List Job) (next : ℕ)
    (jobs_new : List Job) : Type 0 where
  pub number_is : next ≡ number + length todo
  pub added : jobs_new ≡ jobs_old ++ numbered number moment todo

-- ---- the step

-- what is done where a touch found this, for what a record brings
abbrev pub content_works : Way → Option Moment → LinkedRecord → Option Touch → RecordContent → List Work
content_works way begin r touch content = works_by way (time_by begin r) touch content.fragment content.packet

-- a front takes a record, by what it keeps and what the record's touch found
pub record Steps (way : Way) (old : FrontState) (r : LinkedRecord) (new : FrontState)
    (jobs_old jobs_new : List Job) : Type 0 where
  pub touch : Option Touch
  pub found : FindsTouch old.flows (content_key way (record_content way old.frag3 r)) touch
  pub sees : SeesKey old.flows (content_key way (record_content way old.frag3 r)) new.flows
  pub most : new.flows.max ≡ old.flows.max
  pub frag3 : new.frag3 ≡ waiting_after way old.frag3 r
  pub begin : new.begin ≡ Some (time_by old.begin r).first
  pub last : new.last ≡ r.captured.moment
  pub counts : new.counts ≡ counts_after old.counts (record_content way old.frag3 r) touch
  pub added : Adds old.next r.captured.moment (content_works way old.begin r touch (record_content way old.frag3 r)) jobs_old
      new.next jobs_new
  pub short : IfSome (datagram_from way old.frag3 r.captured.moment (said_by way r)) IsShortDatagram
      → HasShortPacket (record_content way old.frag3 r)
