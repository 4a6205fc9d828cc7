-- What a record brings to be inspected: a fragment, or a packet, and the datagram that its fragment completes.
--
-- A record says one packet, of version 4 or 6, or is skipped. A packet that is a fragment of a datagram (RFC 791,
-- section 3.2; RFC 8200, section 4.5) is inspected by itself, and where fragments are put together it joins the
-- earlier ones; the datagram that it completes, if there is one, is read as a packet of its own, with this
-- record's moment, or skipped. (Snort Users Manual 2.9, section 2.2.1.)
-- To try it on: of two fragments that make a UDP datagram, the first record brings its fragment alone; the
-- second brings its fragment and the datagram, both at the second record's moment.
use Rattle.std.specs.Prelude.{Bool, true, false, List, Option, Some, None, Result, Ok, Err, option_and_then, if◌then◌else◌}
use Rattle.std.specs.List.{filter_map}
use Rattle.std.specs.Option.{option_map, option_or}
use Rattle.std.specs.Result.{result_ok, result_err}
use Rattle.edge_io.specs.OnOption.{◌>>=◌}
use Rattle.edge_io.specs.declared.moment.Moment.{Moment}
use Rattle.packet_decode.specs.declared.checks.Checks.{Checks}
use Rattle.packet_decode.specs.declared.item.ItemKind.{ItemKind}
use Rattle.packet_decode.specs.declared.item.ItemKind.TheVariants as kind
use Rattle.packet_decode.specs.declared.item.SessionFacts.{SessionFacts}
use Rattle.packet_decode.specs.declared.packet.Body.{Body}
use Rattle.packet_decode.specs.declared.packet.Body.TheVariants as body
use Rattle.packet_decode.specs.declared.skip.Skip.{Skip}
use Rattle.packet_decode.specs.Decoding.{Fields}
use Rattle.ipv6_decode.specs.Versions.{rebuilt_decoded, record_decoded}
use Rattle.conf_types.specs.declared.config.FragConfig.{FragConfig}
use Rattle.frag3_core.specs.declared.answer.Datagram.{Datagram}
use Rattle.frag3_core.specs.declared.answer.Taken.{Taken}
use Rattle.frag3_core.specs.declared.answer.Taken.TheVariants as answer
use Rattle.frag3_core.specs.Trackers.{Frag3State, Fragment, fragment, state_after, taken}
use Rattle.record_jobs.specs.declared.item.RecordItem.{RecordItem}
use Rattle.record_jobs.specs.Way.{LinkedRecord, Way, frag_rules}

-- nothing is known of a session
abbrev pub untracked : SessionFacts
untracked = record { tracked = false; established = false; from_client = None; sizes = None }

-- what rules see of what was read at this moment
abbrev pub item_of : ItemKind → Moment → Fields → RecordItem
item_of kind moment fields = record {
  head = record { kind = kind; moment = moment; ip = fields.ip; body = fields.body; session = untracked };
  payload = fields.payload;
}

-- ---- the record itself

-- what the record says, or why it is skipped
unfoldable pub said_by : Way → LinkedRecord → Result Fields Skip
said_by way r = record_decoded r.link r.captured.bytes way.checks

-- a packet is a fragment
abbrev pub is_fragment : Body → Bool
is_fragment body.Fragment = true
is_fragment carried = false

-- what the fragment says, where it is one
abbrev pub fragment_fields : Result Fields Skip → Option Fields
fragment_fields (Ok fields) = if is_fragment fields.body then Some fields else None
fragment_fields (Err skip) = None

-- what the packet says, where it isn't
abbrev pub packet_fields : Result Fields Skip → Option Fields
packet_fields (Ok fields) = if is_fragment fields.body then None else Some fields
packet_fields (Err skip) = None

-- ---- the datagram that its fragment completes

-- the fragment, as it is put together with others
abbrev pub fragment_of : Way → FragConfig → Moment → Fields → Fragment
fragment_of way config moment fields = fragment fields.ip fields.payload moment (frag_rules way.hosts config fields.ip.dst)

abbrev pub fragment_in : Way → FragConfig → LinkedRecord → Option Fragment
fragment_in way config r = option_map (fragment_of way config r.captured.moment) (fragment_fields (said_by way r))

-- the fragments of these records
abbrev pub fragments : Way → FragConfig → List LinkedRecord → List Fragment
fragments way config records = filter_map (fragment_in way config) records

-- the fragments that wait for their datagrams after these records; none are kept where no line gives an engine
unfoldable pub frag3_after : Way → List LinkedRecord → Option Frag3State
frag3_after way records =
    option_map (λ (config : FragConfig). state_after config.max_frags (fragments way config records)) way.frag

-- the datagram, where a fragment completed one
abbrev pub completed_datagram : Taken → Option Datagram
completed_datagram (answer.Whole datagram) = Some datagram
completed_datagram other = None

-- the datagram that a fragment completes, where these fragments wait
unfoldable pub datagram_of_fragment : Way → Option Frag3State → Moment → Fields → Option Datagram
datagram_of_fragment way waiting moment fields = do
  config ← way.frag
  frag3 ← waiting
  completed_datagram (taken frag3 (fragment_of way config moment fields))

-- the datagram that a record completes, if it is a fragment and completes one
abbrev pub datagram_from : Way → Option Frag3State → Moment → Result Fields Skip → Option Datagram
datagram_from way waiting moment said = option_and_then (datagram_of_fragment way waiting moment) (fragment_fields said)

unfoldable pub datagram_in : Way → List LinkedRecord → LinkedRecord → Option Datagram
datagram_in way before r = datagram_from way (frag3_after way before) r.captured.moment (said_by way r)

-- what the datagram says, or why it is skipped
abbrev pub datagram_said : Checks → Datagram → Result Fields Skip
datagram_said checks datagram = rebuilt_decoded datagram.ip datagram.bytes checks

-- ---- what is inspected

-- the fragment by itself
unfoldable pub fragment_item : Way → LinkedRecord → Option RecordItem
fragment_item way r = option_map (item_of kind.Fragment r.captured.moment) (fragment_fields (said_by way r))

-- the datagram, if there is one that can be read
abbrev pub datagram_item : Checks → Moment → Option Datagram → Option RecordItem
datagram_item checks moment datagram =
    option_map (item_of kind.Rebuilt moment) (option_and_then (λ d. result_ok (datagram_said checks d)) datagram)

-- why the datagram is skipped, if there is one that can't be read
abbrev pub datagram_skip : Checks → Option Datagram → Option Skip
datagram_skip checks datagram = option_and_then (λ d. result_err (datagram_said checks d)) datagram

-- the packet: as it was captured, or the datagram that the record completed
abbrev pub packet_from : Way → Moment → Option Datagram → Result Fields Skip → Option RecordItem
packet_from way moment datagram said =
    option_or (option_map (item_of kind.Packet moment) (packet_fields said)) (datagram_item way.checks moment datagram)

unfoldable pub packet_in : Way → List LinkedRecord → LinkedRecord → Option RecordItem
packet_in way before r = packet_from way r.captured.moment (datagram_in way before r) (said_by way r)

-- why the record, or the datagram that it completed, is skipped
abbrev pub skip_from : Way → Option Datagram → Result Fields Skip → Option Skip
skip_from way datagram said = option_or (result_err said) (datagram_skip way.checks datagram)

unfoldable pub skip_in : Way → List LinkedRecord → LinkedRecord → Option Skip
skip_in way before r = skip_from way (datagram_in way before r) (said_by way r)
