-- What is written under `--unified2` is the text of records, each of which can be read back.
use Rattle.std.proofs.Common.{◌≡◌, ℕ, zero, suc, ◌+◌, ◌/◌, ◌%◌, ◌^◌, ◌<◌, ◌≤◌, List, [], ◌∷◌, ◌++◌, Option, Some, None, length}
use Rattle.std.proofs.Common.{map, take, drop, refl, sym, ap, subst, ◌∙◌, append_assoc, arith, slice_get, inl, inr}
use Rattle.std.specs.Prelude.{IfSome, fold}
use Rattle.std.specs.List.{All, flat_map}
use Rattle.std.proofs.lemmas.List.{take-append-drop, take_at, drop_at}
use Rattle.std.proofs.lemmas.List.Concat.{flat_map-append}
use Rattle.std.proofs.lemmas.List.Elements.{All-append, All-cons, All-drop, All-from_recursion, All-head, All-map, All-nil, All-tail, All-take}
use mathlib.Core.List.{IsPrefix}
use Rattle.edge_io.specs.Along.{trail, trail_from}
use Rattle.edge_io.specs.declared.link.Link.{Link}
use Rattle.edge_io.specs.declared.link.Link.TheVariants.{Ethernet, RawIp, Cooked}
use Rattle.edge_io.specs.declared.moment.Moment.{Moment}
use Rattle.packet_decode.specs.declared.item.ItemHead.{ItemHead}
use Rattle.rule_types.specs.declared.rule.Rule.{Rule}
use Rattle.conf_types.specs.declared.classes.Class.{Class}
use Rattle.event_filters.specs.Events.{kept}
use Rattle.flow_lanes.specs.declared.answer.Hits.{Hits}
use Rattle.record_jobs.specs.Way.{LinkedRecord}
use Rattle.unified2_out.specs.declared.record.U2.{U2}
use Rattle.unified2_out.specs.declared.record.U2.TheVariants.{Event as an_event, Packet as a_packet}
use Rattle.unified2_out.specs.Records.{AllFit, AreOfOneVersion, IsInRange, event_octets, event_ports, event_words, packet_words, unified2_text}
use Rattle.unified2_out.specs.Reading.{IsRecord, AreRecordsOf, joined_text}
use Rattle.command_words.specs.declared.asked.AlertForm.{AlertForm}
use Rattle.command_words.specs.declared.asked.AlertForm.TheVariants as form
use Rattle.flow_lanes.specs.Fits as of_lanes
use Rattle.flow_lanes.specs.Fits.{FitsBody, FitsHead, FitsHits}
use Rattle.packet_decode.specs.declared.packet.Body.{Body}
use Rattle.packet_decode.specs.declared.packet.Body.TheVariants as body
use Rattle.packet_decode.specs.Versions.{version_of}
use Rattle.edge_io.specs.declared.address.Addr.{Addr}
use Rattle.edge_io.specs.declared.address.Addr.TheVariants.{V4, V6}
use Rattle.alert_lines.specs.Beside.{beside, whats}
use Rattle.alert_lines.specs.Lines.{text_of, texts_from}
use Rattle.alert_lines.specs.RecordLines.{entry_lines}
use Rattle.alert_lines.specs.Events.{Alert, Event, event_at, event_of, filtered_item, item_events}
use Rattle.alert_lines.specs.Unified2.{class_number, event_record, first_port, link_number, packet_record, records_text, second_port}
use Rattle.alert_lines.proofs.Beside.{whats-beside, whats-own}
use Rattle.snort_engine.specs.Answer.{capture_answer}
use Rattle.snort_engine.specs.Course.{Plan, Way, Lists, IsFileWay, most_file_bytes}
use Rattle.snort_engine.specs.Lines.{alert_count, lines}
use Rattle.snort_engine.specs.Records.{records_of}
use Rattle.snort_engine.specs.Trace.{CaptureState, Open, Closed, items_of, closing_items, closing_events, closing_alerts, last_of, no_record, record_alerts, record_events, trace}
use Rattle.snort_engine.specs.ReadBack.{FitsRecord, FitsRule, entries, entries_from}
use Rattle.snort_engine.proofs.Courses.FileWays.{file_way-one}
use Rattle.snort_engine.proofs.Fits.Items.{items_fit}
use Rattle.snort_engine.proofs.Fits.Records.{records_fit}
use Rattle.snort_engine.proofs.Lines.Laws.{events-items}

-- ---- lists of which all fit

-- all answers along a list fit, where those to each input that fits do
all_along : {X A : Type 0} (P : X → Type 0) (Q : A → Type 0) (f : List X → X → List A) (before xs : List X)
    → ((earlier : List X) (x : X) → P x → All Q (f earlier x)) → All P xs → All Q (trail_from f before xs)
all_along {X} {A} P Q f before [] each all = All-nil Q
all_along {X} {A} P Q f before (x ∷ xs) each all =
    All-append Q (f before x) (trail_from f (before ++ x ∷ []) xs) (each before x (All-head P x xs all))
    (all_along P Q f (before ++ x ∷ []) xs each (All-tail P x xs all))

all_flat : {X A : Type 0} (Q : A → Type 0) (f : X → List A) (xs : List X) → ((x : X) → All Q (f x)) → All Q (flat_map f xs)
all_flat {X} {A} Q f [] each = All-nil Q
all_flat {X} {A} Q f (x ∷ xs) each = All-append Q (f x) (flat_map f xs) (each x) (all_flat Q f xs each)

all_map : {X A : Type 0} (Q : A → Type 0) (f : X → A) (xs : List X) → ((x : X) → Q (f x)) → All Q (map f xs)
all_map {X} {A} Q f xs each = All-map Q f xs (λ k d lt. each _)

-- ---- the events

-- what is known of an event
record FitsEvent (event : Event) : Type 0 where
  head : FitsHead event.head
  rule : FitsRule event.rule

rule_fits : (rules : List Rule) (head : ItemHead) (place : ℕ) (found : Option Rule) → slice_get rules place ≡ found → All FitsRule rules → FitsHead head
    → All FitsEvent (event_at rules head place)
rule_fits rules head place None is all fits = rw is (All-nil FitsEvent)
rule_fits rules head place (Some rule) is all fits =
    rw is (All-cons FitsEvent (event_of head rule) [] (record { head = fits; rule = rule_at rules place rule is all }) (All-nil FitsEvent))
  where
    rule_at : (rs : List Rule) (at : ℕ) (r : Rule) → slice_get rs at ≡ Some r → All FitsRule rs → FitsRule r
    rule_at [] at r found every = cc
    rule_at (first ∷ later) zero r found every =
        let same : first ≡ r = cc in
        subst FitsRule same (All-head FitsRule first later every)
    rule_at (first ∷ later) (suc at) r found every = rule_at later at r found (All-tail FitsRule first later every)

-- the events of an item
item_fits : (plan : Plan) (before : List Hits) (hits : Hits) → All FitsRule plan.rules → FitsHead hits.head → All FitsEvent (item_events plan.config plan.rules before hits)
unfolding item_events
item_fits plan before hits rules fits =
    all_flat FitsEvent (event_at plan.rules hits.head) (kept plan.config plan.rules (map filtered_item before) (filtered_item hits)) (λ place. rule_fits plan.rules hits.head place _ refl rules fits)

-- the events of items after others
events_fit : (plan : Plan) (before items : List Hits) → All FitsRule plan.rules → All FitsHits items
    → All FitsEvent (trail_from (item_events plan.config plan.rules) before items)
events_fit plan before items rules all =
    all_along FitsHits FitsEvent (item_events plan.config plan.rules) before items
    (λ earlier hits fits. item_fits plan earlier hits rules fits) all

-- ---- the alerts

-- what is known of an alert
record FitsAlert (alert : Alert) : Type 0 where
  what : FitsEvent alert.what
  source : FitsRecord alert.source

alerts_fit : (alerts : List Alert) → All FitsEvent (whats alerts) → All (λ (alert : Alert). FitsRecord alert.source) alerts → All FitsAlert alerts
alerts_fit [] whats_fit sources_fit = All-nil FitsAlert
alerts_fit (alert ∷ later) whats_fit sources_fit =
    All-cons FitsAlert alert later
    (record {
      what = All-head FitsEvent alert.what (whats later) whats_fit;
      source = All-head (λ (a : Alert). FitsRecord a.source) alert later sources_fit;
    })
    (alerts_fit later (All-tail FitsEvent alert.what (whats later) whats_fit) (All-tail (λ (a : Alert). FitsRecord a.source) alert later sources_fit))

-- the front and the back of a list of which all fit
all_front : {X : Type 0} (P : X → Type 0) (xs ys : List X) → All P (xs ++ ys) → All P xs
all_front {X} P xs ys all = subst (All P) (take_at xs ys (length xs) refl) (All-take P (length xs) (xs ++ ys) all)

all_back : {X : Type 0} (P : X → Type 0) (xs ys : List X) → All P (xs ++ ys) → All P ys
all_back {X} P xs ys all = subst (All P) (drop_at xs ys (length xs) refl) (All-drop P (length xs) (xs ++ ys) all)

-- the alerts of records
open_fit : (plan : Plan) (records : List LinkedRecord) → All FitsRule plan.rules → All FitsRecord records → All FitsAlert (trail_from (record_alerts plan) [] records)
open_fit plan records rules captured =
    let alerts = trail_from (record_alerts plan) [] records in
    let items = all_front FitsHits (items_of plan records) (closing_items plan records) (items_fit plan records captured) in
    let events = events_fit plan [] (items_of plan records) rules items in
    let same : whats alerts ≡ trail (item_events plan.config plan.rules) (items_of plan records) =
    whats-own (record_events plan) [] records ∙ sym (events-items plan records) in
    alerts_fit alerts (subst (All FitsEvent) (sym same) events)
    (all_along FitsRecord (λ (alert : Alert). FitsRecord alert.source) (record_alerts plan) [] records
    (λ earlier r fit. all_map (λ (alert : Alert). FitsRecord alert.source) (beside r) (record_events plan earlier r) (λ event. fit)) captured)

-- the last of records fits where all do
last_fits : (start : LinkedRecord) (records : List LinkedRecord) → FitsRecord start → All FitsRecord records → FitsRecord (fold (λ _ r. r) start records)
last_fits start [] first all = first
last_fits start (r ∷ later) first all = last_fits r later (All-head FitsRecord r later all) (All-tail FitsRecord r later all)

no_record_fits : FitsRecord no_record
no_record_fits = record { short = omega arith; bytes = All-nil (λ value. value < 256 ^ 1) }

-- the alerts of the flows that end with a capture
closing_fit : (plan : Plan) (records : List LinkedRecord) → All FitsRule plan.rules → All FitsRecord records → All FitsAlert (closing_alerts plan records)
unfolding closing_alerts closing_events
closing_fit plan records rules captured =
    let items = all_back FitsHits (items_of plan records) (closing_items plan records) (items_fit plan records captured) in
    let events = trail_from (item_events plan.config plan.rules) (items_of plan records) (closing_items plan records) in
    let last = last_of records in
    let last_fit : FitsRecord last = last_fits no_record records no_record_fits captured in
    alerts_fit (map (beside last) events)
    (subst (All FitsEvent) (sym (whats-beside last events)) (events_fit plan (items_of plan records) (closing_items plan records) rules items))
    (all_map (λ (alert : Alert). FitsRecord alert.source) (beside last) events (λ event. last_fit))

trace_fits : (plan : Plan) (records : List LinkedRecord) (state : CaptureState) → All FitsRule plan.rules → All FitsRecord records → All FitsAlert (trace plan [] records state)
unfolding trace
trace_fits plan records Open rules captured = open_fit plan records rules captured
trace_fits plan records Closed rules captured =
    All-append FitsAlert (trail_from (record_alerts plan) [] records) (closing_alerts plan records) (open_fit plan records rules captured) (closing_fit plan records rules captured)

-- ---- their records

class_fits : (class : Option ℕ) → IfSome class (λ place. place + 1 < 2 ^ 32) → class_number class < 256 ^ 4
class_fits None fits = omega arith
class_fits (Some place) fits = omega (arith, fits)

link_fits : (link : Link) → link_number link < 256 ^ 4
link_fits Ethernet = omega arith
link_fits RawIp = omega arith
link_fits Cooked = omega arith

-- a number of four bytes
abbrev IsWord : ℕ → Type 0
IsWord value = value < 256 ^ 4

numbered : (before : ℕ) → IsWord ((before + 1) % 2 ^ 32)
numbered before = omega arith

timed : (nanos : ℕ) → IsWord (nanos / 1000000000 % 2 ^ 32) × IsWord (nanos / 1000 % 1000000)
timed nanos = (omega arith, omega arith)

none : IsWord 0
none = omega arith

small_word : (value : ℕ) → value < 2 ^ 32 → IsWord value
small_word value fits = omega (arith, fits)

-- two addresses, and two ports, as an event has them
one_version : (a b : Addr) → version_of a ≡ version_of b → AreOfOneVersion a b
one_version (V4 a) (V4 b) same = tt
one_version (V4 a) (V6 b) same = cc
one_version (V6 a) (V4 b) same = cc
one_version (V6 a) (V6 b) same = tt

in_range : (a : Addr) → of_lanes.IsInRange a → IsInRange a
in_range (V4 a) fits = fits
in_range (V6 a) fits = fits

ports_fit : (carried : Body) → FitsBody carried → (first_port carried < 256 ^ 2) × (second_port carried < 256 ^ 2)
ports_fit (body.Tcp head) fits = fits
ports_fit (body.Udp sport dport) fits = fits
ports_fit (body.Stream sport dport) fits = fits
ports_fit (body.Icmp kind code id seq) fits = (omega (arith, fits.0), omega (arith, fits.1))
ports_fit body.Other fits = (omega arith, omega arith)
ports_fit body.Fragment fits = (omega arith, omega arith)

event_is : (before : ℕ) (event : Event) → FitsEvent event → IsRecord (an_event (event_record before event))
event_is before event fits =
    let head = fits.head.0 in
    let rule = fits.rule in
    let moment = timed event.head.moment.nanos in
    let ports = ports_fit event.head.body fits.head.1 in
    let protocol : event.head.ip.protocol < 256 ^ 1 = let a = head.protocol in omega (arith, a) in
    let zero_octet : 0 < 256 ^ 1 = omega arith in
    record {
      writable = one_version event.head.ip.src event.head.ip.dst head.version;
      fits = record {
        words = All-from_recursion IsWord (event_words (event_record before event)) (
          none,
          (
            numbered before,
            (
              moment.0,
              (
                moment.1,
                (
                  small_word event.rule.sid rule.sid,
                  (
                    small_word event.rule.gid rule.gid,
                    (
                      small_word event.rule.rev rule.rev,
                      (class_fits event.rule.class rule.class, (small_word event.rule.priority rule.priority, tt)),
                    ),
                  ),
                ),
              ),
            ),
          ),
        );
        src = in_range event.head.ip.src head.src;
        dst = in_range event.head.ip.dst head.dst;
        ports = All-from_recursion (λ value. value < 256 ^ 2) (event_ports (event_record before event)) (ports.0, (ports.1, tt));
        octets =
            All-from_recursion (λ value. value < 256 ^ 1) (event_octets (event_record before event))
            (protocol, (zero_octet, (zero_octet, (zero_octet, tt))));
      };
    }

packet_is : (before : ℕ) (moment : Moment) (source : LinkedRecord) → FitsRecord source → IsRecord (a_packet (packet_record before moment source))
packet_is before moment source fits =
    let short : length source.captured.bytes ≤ 262144 = fits.short in
    let of_event = timed moment.nanos in
    let of_packet = timed source.captured.moment.nanos in
    let size : IsWord (length source.captured.bytes) = omega (arith, short) in
    let writable : 28 + length source.captured.bytes ≤ 1048576 = omega (arith, short) in
    let words = All-from_recursion IsWord (packet_words (packet_record before moment source))
    (none, (numbered before, (of_event.0, (of_packet.0, (of_packet.1, (link_fits source.link, (size, tt))))))) in
    record { writable = writable; fits = (words, fits.bytes) }

entries_are : (before : ℕ) (alerts : List Alert) → All FitsAlert alerts → All IsRecord (entries_from before alerts)
entries_are before [] fits = All-nil IsRecord
entries_are before (alert ∷ later) fits =
    let fit = All-head FitsAlert alert later fits in
    let one = an_event (event_record before alert.what) in
    let two = a_packet (packet_record before alert.what.head.moment alert.source) in
    let rest = entries_from (before + 1) later in
    All-cons IsRecord one (two ∷ rest) (event_is before alert.what fit.what)
    (All-cons IsRecord two rest (packet_is before alert.what.head.moment alert.source fit.source)
    (entries_are (before + 1) later (All-tail FitsAlert alert later fits)))

joined_texts : (classes : List Class) (before : ℕ) (alerts : List Alert) → joined_text (entries_from before alerts) ≡ texts_from (text_of form.Unified2 classes) before alerts
unfolding records_text
joined_texts classes before [] = refl
joined_texts classes before (alert ∷ later) =
    let one = unified2_text (an_event (event_record before alert.what)) in
    let two = unified2_text (a_packet (packet_record before alert.what.head.moment alert.source)) in
    ap (λ (x : List ℕ). one ++ (two ++ x)) (joined_texts classes (before + 1) later)
    ∙ sym (append_assoc one two (texts_from (text_of form.Unified2 classes) (before + 1) later))

-- ---- the law

-- what is written is the records of the alerts
pub are_entries : (plan : Plan) (records : List LinkedRecord) (state : CaptureState) → plan.form ≡ form.Unified2 → All FitsRule plan.rules → All FitsRecord records
    → AreRecordsOf (lines plan [] records state) (entries plan [] records state)
unfolding lines entries
are_entries plan records state is rules captured =
    let alerts = trace plan [] records state in
    let count = alert_count plan [] in
    record {
      each = entries_are count alerts (trace_fits plan records state rules captured);
      joined = joined_texts plan.config.classes count alerts ∙ ap (λ (f : AlertForm). texts_from (text_of f plan.config.classes) count alerts) (sym is);
    }

pub answer_entries : (plan : Plan) (bytes warnings : List ℕ) → plan.form ≡ form.Unified2 → All FitsRule plan.rules → AllFit 1 bytes
    → AreRecordsOf (capture_answer plan warnings (Some bytes)).alerts (entries plan [] (records_of plan bytes).records Closed)
unfolding capture_answer
answer_entries plan bytes warnings is rules all = are_entries plan (records_of plan bytes).records Closed is rules (records_fit plan bytes all)

-- the first of the records of bytes are the records of a beginning of these bytes
pub first_entries : (bytes : List ℕ) (written : List U2) (count : ℕ) → AreRecordsOf bytes written
    → AreRecordsOf (joined_text (take count written)) (take count written) × IsPrefix (joined_text (take count written)) bytes
first_entries bytes written count are = (
  record { each = All-take IsRecord count written are.each; joined = refl },
  (
    joined_text (drop count written),
    sym (flat_map-append unified2_text (take count written) (drop count written))
        ∙ ap joined_text (take-append-drop count written)
        ∙ are.joined,
  ),
)

-- a file that holds records tells a line for each
pub tells_entries : (name bytes : List ℕ) (written : List U2) (way : Way) → AreRecordsOf bytes written → length bytes ≤ most_file_bytes
    → IsFileWay name (Some bytes) way → way ≡ Lists (entry_lines written)
tells_entries name bytes written way are short is =
    file_way-one name (Some bytes) way (Lists (entry_lines written)) is (inr (short, inl (record { entries = written; are = are; is = refl })))
