-- How the showing of a capture ends, from the reader that was opened to the last line.
--
-- What is left for a reader are the records that it has yet to give. To try it on: where a write fails
-- in the lines of the second batch, the lines of the first were written, a part of those of the second
-- may be, and the bytes of two batches were taken.
use Rattle.std.specs.Prelude.{◌≡◌, ℕ, ◌+◌, ◌-◌, ◌<◌, ◌≤◌, min, ◌⊎◌, Bool, true, false, List, [], ◌++◌, length, Option}
use Rattle.std.specs.Prelude.{None, Some, Result, Ok, Err, ⊤}
use Rattle.edge_io.specs.Told.{before, grown}
use Rattle.edge_io.specs.declared.host.Host.{Ghosts as HostOf}
use Rattle.edge_io.specs.declared.pattern.Span.{Span}
use Rattle.edge_io.specs.declared.sink.Sink.{Ghosts as SinkOf}
use Rattle.option_eval.specs.Places.{Means}
use Rattle.option_eval.specs.RuleSet.{Rules, FindWhatIsMeant}
use Rattle.rule_eval.specs.Hits.{Test, Tells}
use Rattle.record_jobs.specs.Way.{LinkedRecord}
use Rattle.alert_lines.specs.declared.fault.WriteFault.{WriteFault}
use Rattle.alert_lines.specs.Written.{WritesPart}
use Rattle.alert_lines.specs.Gathering.{Sending}
use Rattle.snort_engine.specs.declared.counts.Counts.{Counts}
use Rattle.snort_engine.specs.declared.detect.Detector.{Detector}
use Rattle.pcapng_input.specs.declared.fault.ReadFault.{ReadFault}
use Rattle.snort_engine.specs.declared.plan.Plan as code
use Rattle.snort_engine.specs.declared.reader.RecordReader.{RecordReader}
use Rattle.snort_engine.specs.declared.stop.RunStop.{RunStop}
use Rattle.snort_engine.specs.declared.stop.RunStop.TheVariants as stop
use Rattle.pcapng_input.specs.declared.fault.ReadFault.TheVariants as fault
use Rattle.snort_engine.specs.Course.{Plan}
use Rattle.snort_engine.specs.Steps.Sources.{source_name}
use Rattle.pcap_input.specs.Cut.{AreWithin, Ending, Clean, Refused, first_records}
use Rattle.snort_engine.specs.Records.{Recording}
use Rattle.snort_engine.specs.Outside.{by}
use Rattle.snort_engine.specs.Steps.Seen.{OfSeen}
use Rattle.snort_engine.specs.Steps.Reader.{recording_for, number_of, HasRead, IsReadable}
use Rattle.snort_engine.specs.Trace.{Open, Closed, CaptureState}
use Rattle.snort_engine.specs.Lines.{lines}
use Rattle.snort_engine.specs.Counts.{counts_of}
use Rattle.snort_engine.specs.ReadAhead.{batch, AreBatches}
use Rattle.snort_engine.specs.Steps.Stop.{is_whole, write_stop}
use Rattle.snort_engine.specs.Steps.Detecting.{IsDetectorAfter, IsClosable, Knows, Closes}

-- the test says which rules of a set match, by what its patterns find
pub record IsTest {P : Type 0} (finds : P → List ℕ → Option Span) (set : Rules P) (test : Test) : Type 0 where
  pub means : Means
  pub find : FindWhatIsMeant finds means set
  pub tells : Tells means test

-- the plan that the code works by, where this test says which rules match
abbrev pub plan_of : {P : Type 0} → Test → code.Plan P → Plan
plan_of matches plan = record {
  source = source_name plan.source;
  limit = plan.limit;
  checks = plan.checks;
  config = plan.setup.config;
  hosts = plan.setup.hosts;
  flush = plan.flush;
  rules = plan.setup.set.rules;
  matches = matches;
  form = plan.form;
  counted = plan.counted;
}

-- whatever test says which rules match, this holds of the plan that it makes
abbrev pub OfTest : {P : Type 0} → (P → List ℕ → Option Span) → code.Plan P → (Plan → Type 0) → Type 0
OfTest finds plan Holds = (matches : Test) → IsTest finds plan.setup.set matches → Holds (plan_of matches plan)

-- ---- the showing

-- what is left of the capture and what was written, where they are told
pub record Streams : Type 0 where
  pub left : Option (List ℕ)
  pub written : Option (List ℕ)

-- the streams of a host and of a sink of alerts
abbrev pub streams : {H A : Type 0} → HostOf H → SinkOf A → H → A → Streams
streams h a host alerts = record { left = h.left host; written = a.written alerts }

-- something holds of both streams, before and after, by whatever may be seen of the host
abbrev pub OfStreams : {H A : Type 0} → HostOf H → SinkOf A → H → H → A → A → (Streams → Streams → Type 0) → Type 0
OfStreams h a host_old host_new alerts_old alerts_new Holds =
    OfSeen h host_new (λ seen. Holds (streams (by seen h) a host_old alerts_old) (streams (by seen h) a host_new alerts_new))

-- the lines of a capture's first records
unfoldable pub lines_of : Plan → List LinkedRecord → CaptureState → List ℕ
lines_of plan records state = lines plan [] records state

-- what these bytes hold for a reader, up to the plan's limit
abbrev pub recording_by : Plan → RecordReader → List ℕ → Recording
recording_by plan reader rest = first_records plan.limit (recording_for reader rest)

-- the lines of the records that these bytes hold for a reader
abbrev pub lines_left : Plan → RecordReader → List ℕ → CaptureState → List ℕ
lines_left plan reader rest state = lines_of plan (recording_by plan reader rest).records state

-- the counts of the records that these bytes hold for a reader
abbrev pub counts_left : Plan → RecordReader → List ℕ → Counts
counts_left plan reader rest = counts_of plan (recording_by plan reader rest).records

-- all lines of the bytes that were left were written, they end so, and all was counted
pub record IsShownWhole (plan : Plan) (reader : RecordReader) (rest : List ℕ) (ending : Ending ReadFault) (old new : Streams)
    (counts : Counts) : Type 0 where
  pub ends : (recording_by plan reader rest).ending ≡ ending
  pub wrote : new.written ≡ grown old.written (lines_left plan reader rest Closed)
  pub counted : counts ≡ counts_left plan reader rest

-- the lines of the records that are whole within the bytes taken were written
pub record IsReadCutShort (plan : Plan) (reader : RecordReader) (old new : Streams) : Type 0 where
  pub taken : List ℕ
  pub took : old.left ≡ before taken new.left
  pub wrote : new.written ≡ grown old.written (lines_left plan reader taken Open)

-- all records that the plan reads of the bytes that were left are whole within those that were taken
abbrev pub IsReadOut : Plan → RecordReader → List ℕ → Option (List ℕ) → Type 0
IsReadOut plan reader taken left =
    (rest : List ℕ) → left ≡ Some rest → (recording_by plan reader rest).records ≡ (recording_by plan reader taken).records

-- how far was read where the showing ends so: to the end, if nothing cut it short; at a write fault in whole batches,
-- or to the end, or to where the host failed
abbrev pub HasReadTo : Plan → RecordReader → List ℕ → Option (List ℕ) → Type 0 → Result (Unit {0}) RunStop → Type 0
HasReadTo plan reader taken left failed (Ok done) = IsReadOut plan reader taken left
HasReadTo plan reader taken left failed (Err (stop.Capture fault.Failed)) = ⊤
HasReadTo plan reader taken left failed (Err (stop.Capture fault.NoMemory)) = ⊤
HasReadTo plan reader taken left failed (Err stop.NoMemory) = ⊤
HasReadTo plan reader taken left failed (Err stop.CannotWrite) =
    AreBatches (recording_by plan reader taken).records ⊎ (IsReadOut plan reader taken left ⊎ failed)
HasReadTo plan reader taken left failed (Err why) = IsReadOut plan reader taken left

-- of the records that are whole within the bytes taken, the lines of those given were written, and maybe more: of whole
-- batches, after which at most one more was read, or of all; without the limit there are no more of them than it lets;
-- where the showing ends so, and the host failed or did not, no more was read than may be
pub record IsCloseAfter (plan : Plan) (reader : RecordReader) (old new : Streams) (failed : Type 0)
    (outcome : Result (Unit {0}) RunStop) : Type 0 where
  pub taken : List ℕ
  pub took : old.left ≡ before taken new.left
  pub given : List LinkedRecord
  pub last : List LinkedRecord
  pub are : (recording_by plan reader taken).records ≡ given ++ last
  pub batches : AreBatches given ⊎ (last ≡ [])
  pub few : length last ≤ batch
  pub more : List ℕ
  pub wrote : new.written ≡ grown old.written (lines_of plan given Open ++ more)
  pub within : AreWithin plan.limit (recording_for reader taken).records
  pub to : HasReadTo plan reader taken old.left failed outcome

-- a part of the lines that were left was written, and no other byte
abbrev pub WritesSome : Plan → RecordReader → Streams → Streams → Type 0
WritesSome plan reader old new =
    (rest : List ℕ) → old.left ≡ Some rest → WritesPart old.written (lines_left plan reader rest Closed) new.written

-- the capture was shown to an ending
abbrev pub ShowsTo : Plan → RecordReader → Ending ReadFault → Streams → Streams → Counts → Type 0
ShowsTo plan reader ending old new counts =
    (rest : List ℕ) → old.left ≡ Some rest → IsShownWhole plan reader rest ending old new counts

-- how the showing ends: at the end of the capture; cut off by the host; stopped by the sink or for
-- want of memory; or at what can't be read
abbrev pub ShowsCapture : Plan → RecordReader → Streams → Streams → Counts → Result (Unit {0}) RunStop → Type 0
ShowsCapture plan reader old new counts (Ok done) = ShowsTo plan reader Clean old new counts
ShowsCapture plan reader old new counts (Err (stop.Capture fault.Failed)) =
    IsReadCutShort plan reader old new × WritesSome plan reader old new
ShowsCapture plan reader old new counts (Err (stop.Capture fault.NoMemory)) = WritesSome plan reader old new
ShowsCapture plan reader old new counts (Err (stop.Capture why)) = ShowsTo plan reader (Refused why) old new counts
ShowsCapture plan reader old new counts (Err stop.CannotWrite) = WritesSome plan reader old new
ShowsCapture plan reader old new counts (Err stop.NoMemory) = WritesSome plan reader old new
ShowsCapture plan reader old new counts (Err why) = ⊥

-- ---- batch by batch

-- how many records may still be read after this many, where there is a limit
abbrev pub IsRoom : Option ℕ → ℕ → Option ℕ → Type 0
IsRoom None count room = room ≡ None
IsRoom (Some limit) count None = ⊥
IsRoom (Some limit) count (Some room) = count + room ≡ limit

-- how many records the next batch has at most
abbrev pub most_at : Option ℕ → ℕ
most_at None = batch
most_at (Some room) = min batch room

-- how many may still be read after this many more
abbrev pub room_after : Option ℕ → ℕ → Option ℕ
room_after None count = None
room_after (Some room) count = Some (room - count)

-- how far a showing has come: the reader, how many records may still be read, the detector, and what is told
pub record Point : Type 0 where
  pub reader : RecordReader
  pub room : Option ℕ
  pub detector : Detector
  pub streams : Streams

abbrev pub point : RecordReader → Option ℕ → Detector → Streams → Point
point reader room detector told = record { reader = reader; room = room; detector = detector; streams = told }

-- a batch may come: the reader may be asked for records, and the detector is known and was given no more than the
-- reader gave
pub record MayGoOn {P : Type 0} (plan : code.Plan P) (reader : RecordReader) (detector : Detector) : Type 0 where
  pub readable : IsReadable reader
  pub known : Knows plan detector
  pub after : detector.front.counts.records ≤ number_of reader

-- a batch came: the reader has given more records, and another batch may come
pub record MayGoFurther {P : Type 0} (plan : code.Plan P) (old new : RecordReader) (detector : Detector) : Type 0 where
  pub further : number_of old < number_of new
  pub ready : MayGoOn plan new detector

-- from the first reader on some records were given, in whole batches or all that may be, the detector stands for
-- them, and their lines were written
pub record IsUnderWay (plan : Plan) (first : RecordReader) (start : Streams) (now : Point) : Type 0 where
  pub given : List LinkedRecord
  pub read : HasRead first now.reader given start.left now.streams.left
  pub room_is : IsRoom plan.limit (length given) now.room
  pub batches : AreBatches given ⊎ (most_at now.room ≡ 0)
  pub holds : IsDetectorAfter plan given now.detector
  pub wrote : now.streams.written ≡ grown start.written (lines_of plan given Open)

-- all records were given, up to this ending, the detector stands for them, and their lines were written:
-- nothing is closed yet
pub record IsAtEnd (plan : Plan) (first : RecordReader) (start : Streams) (now : Streams) (detector : Detector)
    (ending : Ending ReadFault) : Type 0 where
  pub given : List LinkedRecord
  pub ends : (rest : List ℕ) → start.left ≡ Some rest → recording_by plan first rest ≡ record { records = given; ending = ending }
  pub holds : IsDetectorAfter plan given detector
  pub wrote : now.written ≡ grown start.written (lines_of plan given Open)

-- how the reading of all batches ends
abbrev pub Comes : Plan → RecordReader → Streams → Streams → Detector → Result (Unit {0}) RunStop → Type 0
Comes plan first start now detector (Ok done) = IsAtEnd plan first start now detector Clean
Comes plan first start now detector (Err (stop.Capture fault.Failed)) =
    IsReadCutShort plan first start now × WritesSome plan first start now
Comes plan first start now detector (Err (stop.Capture fault.NoMemory)) = WritesSome plan first start now
Comes plan first start now detector (Err (stop.Capture why)) = IsAtEnd plan first start now detector (Refused why)
Comes plan first start now detector (Err stop.CannotWrite) = WritesSome plan first start now
Comes plan first start now detector (Err stop.NoMemory) = WritesSome plan first start now
Comes plan first start now detector (Err why) = ⊥

-- how the reading of all batches ends, and the lines follow its records closely
abbrev pub ComesOver : Plan → RecordReader → Streams → Streams → Type 0 → Detector → Result (Unit {0}) RunStop → Type 0
ComesOver plan first start now failed detector outcome =
    Comes plan first start now detector outcome × IsCloseAfter plan first start now failed outcome

-- a showing that was under way is so still, after one more batch, or all batches are read
abbrev pub ShowsOn : Plan → Point → Point → Type 0 → Result Bool RunStop → Type 0
ShowsOn plan old new failed (Ok true) =
    (first : RecordReader) (start : Streams) → IsUnderWay plan first start old → IsUnderWay plan first start new
ShowsOn plan old new failed (Ok false) =
    (first : RecordReader) (start : Streams) → IsUnderWay plan first start old
    → ComesOver plan first start new.streams failed new.detector (Ok tt)
ShowsOn plan old new failed (Err why) =
    (first : RecordReader) (start : Streams) → IsUnderWay plan first start old
    → ComesOver plan first start new.streams failed new.detector (Err why)

-- ---- the end

-- where the work on a capture came to its end so, it may be closed with this detector
abbrev pub MayClose : {P A : Type 0} → code.Plan P → Detector → Result A RunStop → Type 0
MayClose plan detector outcome = is_whole outcome ≡ true → IsClosable plan detector

-- what was cut short is left as it was
abbrev pub IsLeft : Result (Unit {0}) RunStop → Result (Unit {0}) RunStop → Sending → Sending → Type 0
IsLeft shown result old new = (is_whole shown ≡ false) × (result ≡ shown) × (new.written ≡ old.written)

-- what came to its end is closed
abbrev pub IsClosedWhole : Plan → Detector → Result (Unit {0}) RunStop → Result (Unit {0}) RunStop
    → Sending → Sending → Counts → Type 0
IsClosedWhole plan detector shown result old new counts =
    (is_whole shown ≡ true) × (result ≡ shown) × Closes plan detector old new (Ok counts)

-- the closing of what came to its end was stopped
abbrev pub IsClosedInPart : Plan → Detector → Result (Unit {0}) RunStop → Result (Unit {0}) RunStop
    → Sending → Sending → Type 0
IsClosedInPart plan detector shown result old new =
    (is_whole shown ≡ true)
    × ((why : WriteFault) × (result ≡ Err (write_stop why)) × Closes plan detector old new (Err why))

-- how a capture whose batches ended so is closed
unfoldable pub ClosesShown : Plan → Detector → Result (Unit {0}) RunStop
    → Sending → Sending → Counts → Result (Unit {0}) RunStop → Type 0
ClosesShown plan detector shown old new counts result =
    IsLeft shown result old new
    ⊎ (IsClosedWhole plan detector shown result old new counts ⊎ IsClosedInPart plan detector shown result old new)
