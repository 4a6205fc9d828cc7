-- What records bring to be inspected fits: their packets, their fragments, and the datagrams that these complete.
use Rattle.std.proofs.Common.{◌≡◌, ℕ, ◌-◌, ◌*◌, ◌^◌, ◌<◌, Bool, true, false, cond, List, [], ◌∷◌, ◌++◌, Option, Some, None, Result, Ok, Err, map, refl, sym, ap, subst, ◌∙◌}
use Rattle.std.specs.Prelude.{IfOk, IfSome, filter, fold, nat_lt, option_and_then, unwrap_or}
use Rattle.std.specs.List.{All, filter_map, range_with_len}
use Rattle.std.specs.Map.{lookup, remove_entry, values_of}
use Rattle.std.specs.Option.{option_map, option_map_or, option_or}
use Rattle.std.specs.Result.{result_ok}
use Rattle.std.proofs.lemmas.List.{map-append}
use Rattle.std.proofs.lemmas.List.Elements.{All-cons, All-filter, All-head, All-nil, All-push, All-tail}
use Rattle.std.proofs.lemmas.Map.Views.{All-map-remove_entry, IfSome-lookup_from_All}
use Rattle.edge_io.specs.declared.moment.Moment.{Moment}
use Rattle.edge_io.specs.declared.policy.Preference.{Preference}
use Rattle.packet_decode.specs.declared.checks.Checks.{Checks}
use Rattle.packet_decode.specs.declared.item.ItemKind.{ItemKind}
use Rattle.packet_decode.specs.declared.item.ItemKind.TheVariants as kind
use Rattle.packet_decode.specs.declared.skip.Skip.{Skip}
use Rattle.packet_decode.specs.Decoding.{Fields}
use Rattle.conf_types.specs.declared.config.FragConfig.{FragConfig}
use Rattle.overlap_core.specs.Overlap.{bounds_of, byte_at, chosen_byte, chosen_segment, covers, winner, stronger, wins}
use Rattle.overlap_core.specs.Segments.{Segment}
use Rattle.frag3_core.specs.declared.answer.Datagram.{Datagram}
use Rattle.frag3_core.specs.declared.answer.Ignored.{Ignored}
use Rattle.frag3_core.specs.declared.answer.Taken.TheVariants as answer
use Rattle.frag3_core.specs.declared.key.DatagramKey.{DatagramKey}
use Rattle.frag3_core.specs.Trackers.{Frag3State, Fragment, TrackerState, Trackers, after, answer_of, begun, bytes_at}
use Rattle.frag3_core.specs.Trackers.{datagram_of, found, held_count, ignored, in_time, is_timed_out, key_of, others, own}
use Rattle.frag3_core.specs.Trackers.{same_key, state_after, taken, tracker_of, trackers_after, whole_head, with_own, with_room}
use Rattle.frag3_core.specs.Trackers.{without}
use Rattle.record_jobs.specs.declared.item.RecordItem.{RecordItem}
use Rattle.record_jobs.specs.Packets.{completed_datagram, datagram_in, datagram_item, datagram_of_fragment}
use Rattle.record_jobs.specs.Packets.{datagram_said, frag3_after, fragment_fields, fragment_in, fragment_item, fragment_of}
use Rattle.record_jobs.specs.Packets.{fragments, is_fragment, item_of, packet_fields, packet_in, said_by}
use Rattle.record_jobs.specs.Way.{LinkedRecord, Way}
use Rattle.flow_lanes.specs.Fits.{FitsHead, FitsIp}
use Rattle.record_jobs.specs.Fitting.{AreBytes, HoldsBytes}
use Rattle.record_jobs.proofs.Fits.Decoded.{FitsFields, byte_fits, rebuilt_fits, record_fits}

-- ---- the byte that is kept at a place

abbrev FitsSegment : Segment → Type 0
FitsSegment segment = AreBytes segment.bytes

abbrev IsByte : ℕ → Type 0
IsByte value = value < 256

stronger_fits : (preference : Preference) (old new : Segment) → FitsSegment old → FitsSegment new → FitsSegment (stronger preference old new)
stronger_fits preference old new this that = by_test (wins preference (bounds_of old) (bounds_of new))
  where
    by_test : (test : Bool) → FitsSegment (cond test new old)
    by_test true = that
    by_test false = this

later_fits : (preference : Preference) (first : Segment) (later : List Segment) → FitsSegment first → All FitsSegment later → FitsSegment (fold (stronger preference) first later)
later_fits preference first [] this those = this
later_fits preference first (next ∷ later) this those =
    later_fits preference (stronger preference first next) later (stronger_fits preference first next this (All-head FitsSegment next later those)) (All-tail FitsSegment next later those)

winner_fits : (preference : Preference) (segments : List Segment) → All FitsSegment segments → IfSome (winner preference segments) FitsSegment
winner_fits preference [] all = tt
winner_fits preference (first ∷ later) all = later_fits preference first later (All-head FitsSegment first later all) (All-tail FitsSegment first later all)

kept_fits : (preference : Preference) (segments : List Segment) (place : ℕ) → All FitsSegment segments → IfSome (chosen_byte preference segments place) IsByte
unfolding chosen_byte chosen_segment
kept_fits preference segments place all =
    by_segment (winner preference (filter_covering segments)) (winner_fits preference (filter_covering segments) (All-filter (λ segment. covers segment place) FitsSegment segments all))
  where
    filter_covering : List Segment → List Segment
    filter_covering list = filter (λ segment. covers segment place) list

    by_segment : (segment : Option Segment) → IfSome segment FitsSegment → IfSome (option_map (byte_at place) segment) IsByte
    by_segment None fits = tt
    by_segment (Some segment) fits = byte_fits segment.bytes (place - segment.start) fits

-- the bytes at places
bytes_fit : (byte : ℕ → Option ℕ) (places : List ℕ) → ((place : ℕ) → IfSome (byte place) IsByte) → IfSome (bytes_at byte places) (AreBytes)
bytes_fit byte [] each = All-nil IsByte
bytes_fit byte (place ∷ later) each = by_byte (byte place) (bytes_at byte later) (each place) (bytes_fit byte later each)
  where
    by_byte : (first : Option ℕ) (rest : Option (List ℕ)) → IfSome first IsByte → IfSome rest (AreBytes)
        → IfSome (option_and_then (λ (b : ℕ). option_map (λ (bs : List ℕ). b ∷ bs) rest) first) (AreBytes)
    by_byte None rest one other = tt
    by_byte (Some b) None one other = tt
    by_byte (Some b) (Some bs) one other = All-cons IsByte b bs one other

-- ---- trackers

abbrev FitsTracker : TrackerState → Type 0
FitsTracker tracker = All FitsSegment tracker.segments

abbrev FitTrackers : Trackers → Type 0
FitTrackers trackers = All FitsTracker (values_of trackers)

datagram_fits : (tracker : TrackerState) → FitsTracker tracker → IfSome (datagram_of tracker) (AreBytes)
unfolding datagram_of
datagram_fits tracker fits = by_end tracker.end
  where
    by_end : (end : Option ℕ) → IfSome (option_and_then (λ (e : ℕ). bytes_at (chosen_byte tracker.preference tracker.segments) (range_with_len 0 e)) end) (AreBytes)
    by_end None = tt
    by_end (Some e) = bytes_fit (chosen_byte tracker.preference tracker.segments) (range_with_len 0 e) (λ place. kept_fits tracker.preference tracker.segments place fits)

either : (test : Bool) (a b : Trackers) → FitTrackers a → FitTrackers b → FitTrackers (cond test a b)
either true a b one other = one
either false a b one other = other

without_fits : (key : DatagramKey) (trackers : Trackers) → FitTrackers trackers → FitTrackers (without key trackers)
without_fits key trackers all = All-map-remove_entry (same_key key) (λ (e : DatagramKey × TrackerState). e.1) FitsTracker trackers all

in_time_fits : (f : Fragment) (trackers : Trackers) → FitTrackers trackers → FitTrackers (in_time f trackers)
in_time_fits f trackers all =
    either (option_map_or (is_timed_out f.moment) (tracker_of (key_of f.ip) trackers) false) (without (key_of f.ip) trackers) trackers
    (without_fits (key_of f.ip) trackers all) all

with_room_fits : (most : ℕ) (trackers : Trackers) → FitTrackers trackers → FitTrackers (with_room most trackers)
with_room_fits most [] all = all
with_room_fits most (first ∷ later) all =
    either (nat_lt (held_count (first ∷ later)) most) (first ∷ later) (with_room most later) all
    (with_room_fits most later (All-tail FitsTracker first.1 (values_of later) all))

found_fits : (frag3 : Frag3State) (f : Fragment) → FitTrackers frag3.trackers → FitTrackers (found frag3 f)
found_fits frag3 f all = with_room_fits frag3.max_frags (in_time f frag3.trackers) (in_time_fits f frag3.trackers all)

own_fits : (frag3 : Frag3State) (f : Fragment) → FitTrackers frag3.trackers → AreBytes f.part → FitsTracker (own frag3 f)
own_fits frag3 f all part =
    by_tracker (tracker_of (key_of f.ip) (found frag3 f)) (IfSome-lookup_from_All FitsTracker (same_key (key_of f.ip)) (found frag3 f) (found_fits frag3 f all))
  where
    segment : Segment
    segment = record { start = 8 * f.ip.offset; bytes = f.part }

    by_tracker : (tracker : Option TrackerState) → IfSome tracker FitsTracker → All FitsSegment ((unwrap_or tracker (begun f.moment f.rules)).segments ++ segment ∷ [])
    by_tracker None fits = All-push FitsSegment [] segment (All-nil FitsSegment) part
    by_tracker (Some tracker) fits = All-push FitsSegment tracker.segments segment fits part

after_fits : (frag3 : Frag3State) (f : Fragment) → FitTrackers frag3.trackers → AreBytes f.part → FitTrackers (after frag3 f).trackers
unfolding after
after_fits frag3 f all part = by_ignored (ignored f.ip f.part f.rules)
  where
    other_fits : FitTrackers (others frag3 f)
    other_fits = without_fits (key_of f.ip) (found frag3 f) (found_fits frag3 f all)

    by_datagram : (datagram : Option (List ℕ)) → FitTrackers (with_own (key_of f.ip) (own frag3 f) (others frag3 f) datagram)
    by_datagram (Some bytes) = other_fits
    by_datagram None =
        subst (All FitsTracker) (sym (map-append (λ (e : DatagramKey × TrackerState). e.1) (others frag3 f) ((key_of f.ip, own frag3 f) ∷ [])))
        (All-push FitsTracker (values_of (others frag3 f)) (own frag3 f) other_fits (own_fits frag3 f all part))

    by_ignored : (why : Option Ignored) → FitTrackers (option_map_or (λ (_ : Ignored). frag3) why (record frag3 { trackers = trackers_after frag3 f })).trackers
    by_ignored (Some why) = all
    by_ignored None = by_datagram (datagram_of (own frag3 f))

folded_fits : (frag3 : Frag3State) (list : List Fragment) → FitTrackers frag3.trackers → All (λ (f : Fragment). AreBytes f.part) list → FitTrackers (fold after frag3 list).trackers
folded_fits frag3 [] all parts = all
folded_fits frag3 (f ∷ later) all parts =
    folded_fits (after frag3 f) later (after_fits frag3 f all (All-head (λ (g : Fragment). AreBytes g.part) f later parts)) (All-tail (λ (g : Fragment). AreBytes g.part) f later parts)

state_fits : (most : ℕ) (list : List Fragment) → All (λ (f : Fragment). AreBytes f.part) list → FitTrackers (state_after most list).trackers
unfolding state_after
state_fits most list parts = folded_fits (record { max_frags = most; trackers = [] }) list (All-nil FitsTracker) parts

-- ---- the fragments of records

said_fits : (way : Way) (r : LinkedRecord) → HoldsBytes r → IfOk (said_by way r) FitsFields
unfolding said_by
said_fits way r fits = record_fits r.link r.captured.bytes way.checks fits

fragment_fits : (said : Result Fields Skip) → IfOk said FitsFields → IfSome (fragment_fields said) FitsFields
fragment_fits (Err why) fits = tt
fragment_fits (Ok fields) fits = by_test (is_fragment fields.body)
  where
    by_test : (test : Bool) → IfSome (cond test (Some fields) None) FitsFields
    by_test true = fits
    by_test false = tt

packet_fits : (said : Result Fields Skip) → IfOk said FitsFields → IfSome (packet_fields said) FitsFields
packet_fits (Err why) fits = tt
packet_fits (Ok fields) fits = by_test (is_fragment fields.body)
  where
    by_test : (test : Bool) → IfSome (cond test None (Some fields)) FitsFields
    by_test true = tt
    by_test false = fits

abbrev FitsPart : Fragment → Type 0
FitsPart f = AreBytes f.part

part_fits : (way : Way) (config : FragConfig) (r : LinkedRecord) → HoldsBytes r → IfSome (fragment_in way config r) FitsPart
part_fits way config r fits = by_fields (fragment_fields (said_by way r)) (fragment_fits (said_by way r) (said_fits way r fits))
  where
    by_fields : (fields : Option Fields) → IfSome fields FitsFields → IfSome (option_map (fragment_of way config r.captured.moment) fields) FitsPart
    by_fields None fit = tt
    by_fields (Some fields) fit = fit.bytes

mapped_fit : {X Y : Type 0} (P : X → Type 0) (Q : Y → Type 0) (h : X → Option Y) → ((x : X) → P x → IfSome (h x) Q) → (xs : List X) → All P xs → All Q (filter_map h xs)
mapped_fit {X} {Y} P Q h each [] all = All-nil Q
mapped_fit {X} {Y} P Q h each (x ∷ later) all = by_value (h x) refl (each x (All-head P x later all)) (mapped_fit P Q h each later (All-tail P x later all))
  where
    by_value : (value : Option Y) → h x ≡ value → IfSome (h x) Q → All Q (filter_map h later) → All Q (filter_map h (x ∷ later))
    by_value None is one others = rw is others
    by_value (Some y) is one others = let own : Q y = subst (λ (v : Option Y). IfSome v Q) is one in rw is (All-cons Q y (filter_map h later) own others)

fragments_fit : (way : Way) (config : FragConfig) (records : List LinkedRecord) → All HoldsBytes records → All FitsPart (fragments way config records)
fragments_fit way config records all = mapped_fit HoldsBytes FitsPart (fragment_in way config) (λ r fits. part_fits way config r fits) records all

-- what waits after records
abbrev FitsWaiting : Option Frag3State → Type 0
FitsWaiting waiting = IfSome waiting (λ (frag3 : Frag3State). FitTrackers frag3.trackers)

waiting_fits : (way : Way) (records : List LinkedRecord) → All HoldsBytes records → FitsWaiting (frag3_after way records)
unfolding frag3_after
waiting_fits way records all = by_config way.frag
  where
    by_config : (config : Option FragConfig) → FitsWaiting (option_map (λ (c : FragConfig). state_after c.max_frags (fragments way c records)) config)
    by_config None = tt
    by_config (Some c) = state_fits c.max_frags (fragments way c records) (fragments_fit way c records all)

-- ---- a datagram that is completed

record FitsDatagram (datagram : Datagram) : Type 0 where
  ip_fits : FitsIp datagram.ip
  bytes : AreBytes datagram.bytes

head_fits : (fields : Fields) → FitsFields fields → FitsIp (whole_head fields.ip)
head_fits fields fits = record { version = fits.ip_fits.version; src = fits.ip_fits.src; dst = fits.ip_fits.dst; protocol = fits.ip_fits.protocol }

taken_fits : (frag3 : Frag3State) (f : Fragment) → FitsIp (whole_head f.ip) → FitTrackers frag3.trackers → AreBytes f.part → IfSome (completed_datagram (taken frag3 f)) FitsDatagram
unfolding taken
taken_fits frag3 f ip all part = by_ignored (ignored f.ip f.part f.rules)
  where
    by_bytes : (bytes : Option (List ℕ)) → IfSome bytes (AreBytes) → IfSome (completed_datagram (answer_of f.ip bytes)) FitsDatagram
    by_bytes None fits = tt
    by_bytes (Some bytes) fits = record { ip_fits = ip; bytes = fits }

    by_ignored : (why : Option Ignored) → IfSome (completed_datagram (option_map_or answer.Ignored why (answer_of f.ip (datagram_of (own frag3 f))))) FitsDatagram
    by_ignored (Some why) = tt
    by_ignored None = by_bytes (datagram_of (own frag3 f)) (datagram_fits (own frag3 f) (own_fits frag3 f all part))

completed_fits : (way : Way) (waiting : Option Frag3State) (moment : Moment) (fields : Fields)
    → FitsWaiting waiting
    → FitsFields fields
    → IfSome (datagram_of_fragment way waiting moment fields) FitsDatagram
unfolding datagram_of_fragment
completed_fits way waiting moment fields all fits = by_both way.frag waiting all
  where
    by_both : (frag : Option FragConfig) (o : Option Frag3State) → FitsWaiting o
        → IfSome (option_and_then (λ (config : FragConfig). option_and_then (λ (frag3 : Frag3State). completed_datagram (taken frag3 (fragment_of way config moment fields))) o) frag) FitsDatagram
    by_both None o fit = tt
    by_both (Some config) None fit = tt
    by_both (Some config) (Some frag3) fit = taken_fits frag3 (fragment_of way config moment fields) (head_fits fields fits) fit fits.bytes

brought_datagram : (way : Way) (before : List LinkedRecord) (r : LinkedRecord) → All HoldsBytes before → HoldsBytes r → IfSome (datagram_in way before r) FitsDatagram
unfolding datagram_in
brought_datagram way before r earlier fits = by_fields (fragment_fields (said_by way r)) (fragment_fits (said_by way r) (said_fits way r fits))
  where
    by_fields : (fields : Option Fields) → IfSome fields FitsFields → IfSome (option_and_then (datagram_of_fragment way (frag3_after way before) r.captured.moment) fields) FitsDatagram
    by_fields None fit = tt
    by_fields (Some fields) fit = completed_fits way (frag3_after way before) r.captured.moment fields (waiting_fits way before earlier) fit

-- ---- what is inspected

-- an item by its head
abbrev pub FitsBrought : RecordItem → Type 0
FitsBrought item = FitsHead item.head

brought : (kind : ItemKind) (moment : Moment) (fields : Option Fields) → IfSome fields FitsFields → IfSome (option_map (item_of kind moment) fields) FitsBrought
brought kind moment None fit = tt
brought kind moment (Some fields) fit = (fit.ip_fits, fit.ports)

pub fragment_brought : (way : Way) (r : LinkedRecord) → HoldsBytes r → IfSome (fragment_item way r) FitsBrought
unfolding fragment_item
fragment_brought way r fits = brought kind.Fragment r.captured.moment (fragment_fields (said_by way r)) (fragment_fits (said_by way r) (said_fits way r fits))

ok_fits : (said : Result Fields Skip) → IfOk said FitsFields → IfSome (result_ok said) FitsFields
ok_fits (Ok fields) fit = fit
ok_fits (Err why) fit = tt

rebuilt_brought : (checks : Checks) (moment : Moment) (datagram : Option Datagram) → IfSome datagram FitsDatagram → IfSome (datagram_item checks moment datagram) FitsBrought
rebuilt_brought checks moment None fit = tt
rebuilt_brought checks moment (Some datagram) fit =
    brought kind.Rebuilt moment (result_ok (datagram_said checks datagram)) (ok_fits (datagram_said checks datagram) (rebuilt_fits datagram.ip datagram.bytes checks fit.ip_fits fit.bytes))

first_of : (one other : Option RecordItem) → IfSome one FitsBrought → IfSome other FitsBrought → IfSome (option_or one other) FitsBrought
first_of None other a b = b
first_of (Some item) other a b = a

pub packet_brought : (way : Way) (before : List LinkedRecord) (r : LinkedRecord) → All HoldsBytes before → HoldsBytes r → IfSome (packet_in way before r) FitsBrought
unfolding packet_in
packet_brought way before r earlier fits =
    first_of (option_map (item_of kind.Packet r.captured.moment) (packet_fields (said_by way r))) (datagram_item way.checks r.captured.moment (datagram_in way before r))
    (brought kind.Packet r.captured.moment (packet_fields (said_by way r)) (packet_fits (said_by way r) (said_fits way r fits)))
    (rebuilt_brought way.checks r.captured.moment (datagram_in way before r) (brought_datagram way before r earlier fits))
