-- Items on their way to lines: what the filters of events keep of them, and what is counted.
--
-- Each item is beside the record whose decoding made its job, which neither filters nor counts look at.
-- A step says what it does to whatever items were given before: so steps follow one another, and a batch
-- is its items, one by one. To try it on: of two items of one address, of which each would alert, under
-- `event_filter` with `type limit` and `count 1` the first has its line, and the second none.
use Rattle.std.specs.Prelude.{◌≡◌, ℕ, List, ◌++◌, Option, Result, OnOk, IfOk, length, map}
use Rattle.std.specs.List.{flat_map}
use Rattle.edge_io.specs.Along.{trail}
use Rattle.edge_io.specs.declared.sink.Sink.{Ghosts as SinkOf}
use Rattle.packet_decode.specs.declared.item.ItemHead.{ItemHead}
use Rattle.conf_types.specs.declared.classes.Class.{Class}
use Rattle.conf_types.specs.declared.config.Config.{Config}
use Rattle.rule_types.specs.declared.rule.Rule.{Rule}
use Rattle.flow_lanes.specs.declared.answer.Hits.{Hits}
use Rattle.flow_lanes.specs.declared.answer.JobHits.{JobHits}
use Rattle.event_filters.specs.Filtering.{IsGiven}
use Rattle.record_jobs.specs.Way.{LinkedRecord}
use Rattle.command_words.specs.declared.asked.AlertForm.{AlertForm}
use Rattle.alert_lines.specs.declared.lines.Subject as code
use Rattle.alert_lines.specs.declared.writer.Shown as lent
use Rattle.alert_lines.specs.declared.writer.AlertWriter.{AlertWriter}
use Rattle.alert_lines.specs.declared.tally.Tally.{Tally}
use Rattle.alert_lines.specs.Beside.{Beside, beside, carried, whats}
use Rattle.alert_lines.specs.Events.{event_at, filtered_item, item_events}
use Rattle.alert_lines.specs.Lines.{text_of, texts_from}
use Rattle.alert_lines.specs.Events.{hit_count}
use Rattle.alert_lines.specs.declared.fault.WriteFault.{WriteFault}
use Rattle.alert_lines.specs.Gathering.{Sending, Emits, EmitsBy}

-- ---- the rules at some places

-- an item whose events are shown: in which form, by which classes and rules, and its record
pub record Subject : Type 0 where
  pub form : AlertForm
  pub classes : List Class
  pub rules : List Rule
  pub source : LinkedRecord
  pub head : ItemHead

abbrev pub subject_of : code.Subject → Subject
subject_of subject = record {
  form = subject.form;
  classes = subject.classes.now;
  rules = subject.rules.now;
  source = subject.origin.now;
  head = subject.head.now;
}

-- the lines of the rules at these places, after this many alerts
unfoldable pub places_lines : Subject → ℕ → List ℕ → List ℕ
places_lines subject before places =
    texts_from (text_of subject.form subject.classes) before
    (map (beside subject.source) (flat_map (event_at subject.rules subject.head) places))

-- how many alerts the rules at these places give
unfoldable pub places_count : List Rule → ItemHead → List ℕ → ℕ
places_count rules head places = length (flat_map (event_at rules head) places)

-- the lines of the rules at these places are on their way, and were counted
pub record ShowsPlaces (subject : Subject) (before : ℕ) (places : List ℕ) (old new : Sending) (outcome : Result ℕ WriteFault) :
    Type 0 where
  pub emits : Emits (places_lines subject before places) old new outcome
  pub counted : IfOk outcome (λ count. count ≡ places_count subject.rules subject.head places)

-- ---- items

-- an item with all rules that match it, beside the record whose decoding made its job
abbrev pub SourcedItem : Type 0
SourcedItem = Beside LinkedRecord Hits

-- the lines of items after earlier items, each of whose events was an alert
unfoldable pub items_lines : AlertForm → Config → List Rule → List Hits → List SourcedItem → List ℕ
items_lines form config rules before items =
    texts_from (text_of form config.classes) (length (trail (item_events config rules) before))
    (carried (item_events config rules) before items)

-- what is counted of items
unfoldable pub tally_of : Config → List Rule → List Hits → Tally
tally_of config rules items = record {
  items = length items;
  hits = hit_count items;
  alerts = length (trail (item_events config rules) items);
}

-- what a writer counted
abbrev pub tally_in : AlertWriter → Tally
tally_in writer = writer.tally

-- the texts that wait in it
abbrev pub waiting_in : AlertWriter → List ℕ
waiting_in writer = writer.block.items

-- a writer's filters were given these items, and these were counted
pub record IsWriterAfter (config : Config) (rules : List Rule) (before : List Hits) (writer : AlertWriter) : Type 0 where
  pub given : IsGiven config rules (map filtered_item before) writer.filters
  pub tally : tally_in writer ≡ tally_of config rules before

-- whatever items were given, the one stands for them where the other did
abbrev pub StaysAfter : AlertWriter → AlertWriter → Type 0
StaysAfter old new =
    (config : Config) (rules : List Rule) (before : List Hits) → IsWriterAfter config rules before old
    → IsWriterAfter config rules before new

-- items that were given before
pub record Earlier (config : Config) (rules : List Rule) (writer : AlertWriter) : Type 0 where
  pub items : List Hits
  pub hold : IsWriterAfter config rules items writer

-- a writer, and the sink
pub record Showing : Type 0 where
  pub writer : AlertWriter
  pub written : Option (List ℕ)
  pub faults : ℕ

abbrev pub showing : {A : Type 0} → SinkOf A → AlertWriter → A → Showing
showing a writer alerts = record { writer = writer; written = a.written alerts; faults = a.faults alerts }

abbrev pub sending_of : Showing → Sending
sending_of now = record { written = now.written; block = waiting_in now.writer; faults = now.faults }

-- by what items are shown: in which form of alerts, by which configuration and rules
pub record Shown : Type 0 where
  pub form : AlertForm
  pub config : Config
  pub rules : List Rule

abbrev pub shown_by : lent.Shown → Shown
shown_by by = record { form = by.form; config = by.config.now; rules = by.rules.now }

-- whatever items were given before: the filters were given these too, and their lines are on their way
pub record Shows {A : Type 0} (by : Shown) (items : List SourcedItem) (old new : Showing) (outcome : Result A WriteFault) :
    Type 0 where
  pub holds : OnOk outcome ((before : List Hits) → IsWriterAfter by.config by.rules before old.writer
      → IsWriterAfter by.config by.rules (before ++ whats items) new.writer)
  pub emits : EmitsBy (λ (before : Earlier by.config by.rules old.writer).
      items_lines by.form by.config by.rules before.items items)
      (sending_of old) (sending_of new) outcome

-- the items of jobs, in the order of the jobs
abbrev pub hits_in : List JobHits → List Hits
hits_in jobs = flat_map (λ (job : JobHits). job.items) jobs
