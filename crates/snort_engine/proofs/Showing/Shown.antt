-- The steps of showing a capture.
use Rattle.std.proofs.Common.{◌≡◌, ℕ, ◌<◌, ◌≤◌, Bool, true, false, List, [], ◌++◌, length, Option, Some, None, Result, Ok, Err, refl, sym, ap, subst, ◌∙◌, append_assoc, arith, inl, inr, ◌⊎◌, ⊎_elim}
use Rattle.std.proofs.lemmas.List.{append-nil}
use Rattle.edge_io.specs.Told.{grown}
use Rattle.edge_io.proofs.Told.{grown-nil, grown-grown}
use Rattle.record_jobs.specs.Way.{LinkedRecord}
use Rattle.alert_lines.specs.declared.fault.WriteFault.{WriteFault}
use Rattle.alert_lines.specs.declared.fault.WriteFault.TheVariants as write
use Rattle.alert_lines.specs.Written.{WritesPart}
use Rattle.alert_lines.specs.Gathering.{Sending}
use Rattle.alert_lines.proofs.Emitting.{gathers_settled}
use Rattle.alert_lines.proofs.Prefixes.{WritesPart-all, WritesPart-after, WritesPart-longer}
use Rattle.snort_engine.specs.declared.counts.Counts.{Counts}
use Rattle.snort_engine.specs.declared.detect.Detector.{Detector}
use Rattle.pcapng_input.specs.declared.fault.ReadFault.{ReadFault}
use Rattle.pcapng_input.specs.declared.fault.ReadFault.TheVariants as fault
use Rattle.snort_engine.specs.declared.reader.RecordReader.{RecordReader}
use Rattle.snort_engine.specs.declared.stop.RunStop.{RunStop}
use Rattle.snort_engine.specs.declared.stop.RunStop.TheVariants as stop
use Rattle.snort_engine.specs.Course.{Plan}
use Rattle.pcap_input.specs.Cut.{AreWithin, Ending, Clean, Refused, first_records}
use Rattle.snort_engine.specs.Records.{Recording}
use Rattle.snort_engine.specs.Steps.Reader.{IsFresh, recording_for, HasRead, AreWhole, EndsWith, IsRefusedBy}
use Rattle.snort_engine.specs.Steps.Stop.{is_whole, write_stop}
use Rattle.snort_engine.specs.Trace.{Open, Closed}
use Rattle.snort_engine.specs.Lines.{lines}
use Rattle.snort_engine.specs.Counts.{counts_of}
use Rattle.snort_engine.specs.Steps.Batch.{Place, HasStopped, Reaches, ReadsOn, lacks_memory, more_of}
use Rattle.snort_engine.specs.declared.batch.BatchEnd.{BatchEnd}
use Rattle.snort_engine.specs.declared.batch.BatchEnd.TheVariants.{More, End, Fault}
use Rattle.snort_engine.specs.ReadAhead.{batch, AreBatches}
use Rattle.snort_engine.specs.Steps.Detecting.{Advances, Closes, IsDetectorAfter, ShowsRecordsPart, closing_lines, records_stage}
use Rattle.snort_engine.specs.Steps.Showing.{Streams, Point, lines_of, lines_left, recording_by, IsRoom, most_at, room_after, IsReadOut, HasReadTo, IsUnderWay, IsAtEnd, IsReadCutShort, IsCloseAfter}
use Rattle.snort_engine.specs.Steps.Showing.{WritesSome, ShowsTo, ShowsCapture, Comes, ComesOver, ShowsOn, IsLeft, IsClosedWhole, IsClosedInPart, ClosesShown}
use Rattle.snort_engine.proofs.Records.Limits.{limit-front, below_limit, at_limit, within_limit, room_first, room_further, room_left, room_within, batches_none, batches_further, batches_last}
use Rattle.snort_engine.proofs.Records.Reading.{reading-start, reading-told, reading-whole}
use Rattle.snort_engine.proofs.Lines.Laws.{lines_of-nil, lines_of-closed, lines_of-append}

-- nothing was done yet
pub under_way-start : (plan : Plan) (reader : RecordReader) (room : Option ℕ) (detector : Detector) (old : Streams) → IsFresh reader → room ≡ plan.limit → IsDetectorAfter plan [] detector
    → IsUnderWay plan reader old (record { reader = reader; room = room; detector = detector; streams = old })
under_way-start plan reader room detector old fresh all holds = record {
  given = [];
  read = reading-start reader old.left fresh;
  room_is = subst (λ (r : Option ℕ). IsRoom plan.limit 0 r) (sym all) (room_first plan.limit);
  batches = inl batches_none;
  holds = holds;
  wrote = sym (grown-nil old.written) ∙ ap (grown old.written) (sym (lines_of-nil plan));
}

-- the lines of a batch after those of the records before it
lines_of-batch : (plan : Plan) (given records : List LinkedRecord) → lines_of plan (given ++ records) Open ≡ lines_of plan given Open ++ lines plan given records Open
lines_of-batch plan given records = lines_of-append plan given records Open

-- the records that are whole within the bytes taken are those so far
cut_off : (plan : Plan) (first : RecordReader) (room : Option ℕ) (given : List LinkedRecord) (old after : Streams) → IsRoom plan.limit (length given) room
    → after.written ≡ grown old.written (lines_of plan given Open) → AreWhole first given old.left after.left → IsReadCutShort plan first old after
cut_off plan first room given old after is wrote whole = record {
  taken = whole.taken;
  took = whole.took;
  wrote = wrote ∙ ap (λ (x : List LinkedRecord). grown old.written (lines_of plan x Open)) (sym (within_limit plan.limit room given (recording_for first whole.taken) is whole.are));
}

-- what was written of the lines of some records, and of no others, is a part of all
part_of_all : (plan : Plan) (first reader : RecordReader) (room : Option ℕ) (given : List LinkedRecord) (old : Streams) (left new : Option (List ℕ)) → IsRoom plan.limit (length given) room
    → HasRead first reader given old.left left
    → WritesPart old.written (lines_of plan given Open) new
    → (whole : List ℕ) → old.left ≡ Some whole → WritesPart old.written (lines_left plan first whole Closed) new
part_of_all plan first reader room given old left new is read part whole told =
    let found = reading-told first reader given old.left left whole read told in
    let others = (first_records room (recording_for reader found.0)).records in
    let all : lines_left plan first whole Closed
    ≡ lines_of plan given Open ++ lines plan given others Closed =
    ap (λ (c : Recording). lines_of plan (first_records plan.limit c).records Closed) found.2
    ∙ ap (λ (c : Recording). lines_of plan c.records Closed) (limit-front plan.limit room given (recording_for reader found.0) is)
    ∙ lines_of-append plan given others Closed in
    let P : List ℕ → Type 0 = λ x. WritesPart old.written x new in
    subst P (sym all) (WritesPart-longer old.written new (lines_of plan given Open) _ part)

-- a test has one answer
not_both : (b : Bool) → b ≡ true → b ≡ false → ⊥
not_both b yes_ no_ = let e : true ≡ false = sym yes_ ∙ no_ in cc

-- ---- what was reached

-- whatever was reached, reading was at a reader after the records, and went no record further
stopped_at : (first : RecordReader) (given : List LinkedRecord) (left_first : Option (List ℕ)) (now : Place) (reached : BatchEnd) → Reaches first given left_first now reached
    → HasStopped first given left_first now.left
stopped_at first given left_first now More read = record {
  following = now.reader;
  still = now.left;
  read = read;
  whole = reading-whole first now.reader given left_first now.left read;
}
stopped_at first given left_first now End (stopped, ends) = stopped
stopped_at first given left_first now (Fault why) (stopped, ends) = stopped

-- what was reached from the first reader on
reached_after : (plan : Plan) (first : RecordReader) (start : Streams) (old : Point) (now : Place) (reached : BatchEnd) (going : IsUnderWay plan first start old)
    → ReadsOn (record { reader = old.reader; records = []; left = old.streams.left }) now reached → Reaches first (going.given ++ now.records) start.left now reached
reached_after plan first start old now reached going reads =
    reads first going.given start.left (subst (λ (given : List LinkedRecord). HasRead first old.reader given start.left old.streams.left) (sym (append-nil going.given)) going.read)

-- ---- how far was read

-- an ending after records that were given, where more might have been read, is the plan's
ended_by : (plan : Plan) (first : RecordReader) (room : Option ℕ) (given : List LinkedRecord) (left : Option (List ℕ)) (ending : Ending ReadFault) → IsRoom plan.limit (length given) room
    → 0 < most_at room → EndsWith first given left ending
    → (whole : List ℕ) → left ≡ Some whole → recording_by plan first whole ≡ record { records = given; ending = ending }
ended_by plan first room given left ending is some ends = λ whole told. ap (first_records plan.limit) (ends whole told) ∙ below_limit plan.limit room given ending is some

-- the limit, where no more may be read, ends the plan's reading
limited_by : (plan : Plan) (first reader : RecordReader) (room : Option ℕ) (given : List LinkedRecord) (left_first left : Option (List ℕ)) → HasRead first reader given left_first left
    → IsRoom plan.limit (length given) room → most_at room ≡ 0
    → (whole : List ℕ) → left_first ≡ Some whole → recording_by plan first whole ≡ record { records = given; ending = Clean }
limited_by plan first reader room given left_first left read is none = λ whole told.
    let found = reading-told first reader given left_first left whole read told in
    ap (first_records plan.limit) found.2 ∙ at_limit plan.limit room given (recording_for reader found.0) is none

-- where an ending is the plan's, all is whole within what was taken
out_by : (plan : Plan) (first : RecordReader) (given : List LinkedRecord) (ending : Ending ReadFault) (taken : List ℕ) (left : Option (List ℕ))
    → ((whole : List ℕ) → left ≡ Some whole → recording_by plan first whole ≡ record { records = given; ending = ending })
    → (recording_by plan first taken).records ≡ given → IsReadOut plan first taken left
out_by plan first given ending taken left ends are = λ whole told. ap (λ (r : Recording). r.records) (ends whole told) ∙ sym are

module _ (plan : Plan) (first : RecordReader) (room : Option ℕ) (given : List LinkedRecord) (left : Option (List ℕ)) (failed : Type 0) (is : IsRoom plan.limit (length given) room)
    (some : 0 < most_at room) (taken : List ℕ)
    (are : (recording_by plan first taken).records ≡ given) where
  -- the capture ends
  read_out : (ending : Ending ReadFault) → EndsWith first given left ending → IsReadOut plan first taken left
  read_out ending ends = out_by plan first given ending taken left (ended_by plan first room given left ending is some ends) are

  -- the capture is refused, or couldn't be read on
  fault_to : (why : ReadFault) → IsRefusedBy first given left why → HasReadTo plan first taken left failed (Err (stop.Capture why))
  fault_to (fault.Bad why) ends = read_out (Refused (fault.Bad why)) ends
  fault_to fault.Failed ends = tt
  fault_to fault.NoMemory ends = tt

  -- where lines after the records that were given weren't written, too
  fault_unwritten : (why : ReadFault) → IsRefusedBy first given left why → (why ≡ fault.Failed → failed) → (why ≡ fault.NoMemory → ⊥) → IsReadOut plan first taken left ⊎ failed
  fault_unwritten (fault.Bad why) ends rose lacks = inl (read_out (Refused (fault.Bad why)) ends)
  fault_unwritten fault.Failed ends rose lacks = inr (rose refl)
  fault_unwritten fault.NoMemory ends rose lacks = absurd (lacks refl)

-- a batch was read whose lines weren't all written
unwritten_to : (plan : Plan) (first : RecordReader) (room : Option ℕ) (given records : List LinkedRecord) (left_first : Option (List ℕ)) (now : Place) (reached : BatchEnd) (failed : Type 0)
    (taken : List ℕ)
    → IsRoom plan.limit (length (given ++ records)) (room_after room (length records)) → AreBatches given ⊎ (most_at room ≡ 0)
    → (reached ≡ More → length records ≡ most_at room) → ((reached ≡ More → ⊥) → length records < most_at room)
    → (reached ≡ Fault fault.Failed → failed) → (reached ≡ Fault fault.NoMemory → ⊥) → Reaches first (given ++ records) left_first now reached
    → (recording_by plan first taken).records ≡ given ++ records
    → AreBatches (recording_by plan first taken).records ⊎ (IsReadOut plan first taken left_first ⊎ failed)
unwritten_to plan first room given records left_first now More failed taken is batches full short rose lacks read are = ⊎_elim
    (λ (whole : AreBatches (given ++ records)). inl (subst AreBatches (sym are) whole))
    (λ (none : most_at (room_after room (length records)) ≡ 0).
    inr
    (inl (out_by plan first (given ++ records) Clean taken left_first (limited_by plan first now.reader (room_after room (length records)) (given ++ records) left_first now.left read is none) are)))
    (batches_further room given records batches (full refl))
unwritten_to plan first room given records left_first now End failed taken is batches full short rose lacks (stopped, ends) are =
    inr (inl (read_out plan first (room_after room (length records)) (given ++ records) left_first failed is (room_left room (length records) (short (λ e. cc))) taken are Clean ends))
unwritten_to plan first room given records left_first now (Fault why) failed taken is batches full short rose lacks (stopped, refused) are =
    inr (fault_unwritten plan first (room_after room (length records)) (given ++ records) left_first failed is (room_left room (length records) (short (λ e. cc))) taken are why refused
    (λ same. rose (ap (λ (f : ReadFault). Fault f) same)) (λ same. lacks (ap (λ (f : ReadFault). Fault f) same)))

-- ---- the end of all batches

-- the lines of all whole records were written: they follow closely
close_by : (plan : Plan) (first : RecordReader) (room : Option ℕ) (given : List LinkedRecord) (old after : Streams) (failed : Type 0) (outcome : Result (Unit {0}) RunStop)
    → IsRoom plan.limit (length given) room
    → after.written ≡ grown old.written (lines_of plan given Open) → AreWhole first given old.left after.left
    → ((taken : List ℕ) → (recording_by plan first taken).records ≡ given → HasReadTo plan first taken old.left failed outcome)
    → IsCloseAfter plan first old after failed outcome
close_by plan first room given old after failed outcome is wrote whole to = record {
  taken = whole.taken;
  took = whole.took;
  given = given;
  last = [];
  are = within_limit plan.limit room given (recording_for first whole.taken) is whole.are ∙ sym (append-nil given);
  batches = inr refl;
  few = omega arith;
  more = [];
  wrote = wrote ∙ ap (grown old.written) (sym (append-nil (lines_of plan given Open)));
  within = subst (AreWithin plan.limit) (sym whole.are) (room_within plan.limit room given is);
  to = to whole.taken (within_limit plan.limit room given (recording_for first whole.taken) is whole.are);
}

-- all records were given, where more might have been read
at_end : (plan : Plan) (first : RecordReader) (room : Option ℕ) (given : List LinkedRecord) (old after : Streams) (detector : Detector) (ending : Ending ReadFault)
    → IsRoom plan.limit (length given) room → 0 < most_at room
    → IsDetectorAfter plan given detector
    → after.written ≡ grown old.written (lines_of plan given Open)
    → EndsWith first given old.left ending → IsAtEnd plan first old after detector ending
at_end plan first room given old after detector ending is some holds wrote ends = record {
  given = given;
  ends = ended_by plan first room given old.left ending is some ends;
  holds = holds;
  wrote = wrote;
}

-- a refusal of the capture, after records whose lines were written
fault_comes : (plan : Plan) (first : RecordReader) (room : Option ℕ) (given : List LinkedRecord) (old after : Streams) (detector : Detector) (why : ReadFault) → IsRoom plan.limit (length given) room
    → 0 < most_at room
    → IsDetectorAfter plan given detector
    → after.written ≡ grown old.written (lines_of plan given Open)
    → HasStopped first given old.left after.left → IsRefusedBy first given old.left why → Comes plan first old after detector (Err (stop.Capture why))
fault_comes plan first room given old after detector why is some holds wrote stopped ends = by_fault why ends
  where
    part : WritesSome plan first old after
    part = part_of_all plan first stopped.following room given old stopped.still after.written is stopped.read (WritesPart-all old.written after.written _ wrote)

    to : (f : ReadFault) → EndsWith first given old.left (Refused f) → IsAtEnd plan first old after detector (Refused f)
    to f ends_so = at_end plan first room given old after detector (Refused f) is some holds wrote ends_so

    by_fault : (f : ReadFault) → IsRefusedBy first given old.left f → Comes plan first old after detector (Err (stop.Capture f))
    by_fault (fault.Bad bad) ends = to (fault.Bad bad) ends
    by_fault fault.Failed ends = (cut_off plan first room given old after is wrote stopped.whole, part)
    by_fault fault.NoMemory ends = part

-- the lines were not all written
showing_stops : (plan : Plan) (first : RecordReader) (old after : Streams) (detector : Detector) (why : WriteFault) → WritesSome plan first old after
    → Comes plan first old after detector (Err (write_stop why))
showing_stops plan first old after detector write.Unwritten some = some
showing_stops plan first old after detector write.NoMemory some = some

-- ---- a batch

-- no record may be read any more
pub nothing_left : (plan : Plan) (old : Point) (failed : Type 0) → most_at old.room ≡ 0 → ShowsOn plan old old failed (Ok false)
nothing_left plan old failed none = λ first start going.
    let stopped = reading-whole first old.reader going.given start.left old.streams.left going.read in
    let ends : (whole : List ℕ) → start.left ≡ Some whole → recording_by plan first whole ≡ record { records = going.given; ending = Clean } =
    limited_by plan first old.reader old.room going.given start.left old.streams.left going.read going.room_is none in (
      record { given = going.given; ends = ends; holds = going.holds; wrote = going.wrote },
      close_by plan first old.room going.given start old.streams failed (Ok tt) going.room_is going.wrote stopped (λ taken are. out_by plan first going.given Clean taken start.left ends are),
    )

-- a sink, and no text that waits
abbrev pub at_sink : Option (List ℕ) → ℕ → Sending
at_sink written faults = record { written = written; block = []; faults = faults }

-- a batch was shown after the records that were given
batch_is : (plan : Plan) (records : List LinkedRecord) (old new : Point) (first : RecordReader) (start : Streams) (going : IsUnderWay plan first start old) (faults after : ℕ) (done : Unit {0})
    → Advances (records_stage plan) records old.detector new.detector (at_sink old.streams.written faults) (at_sink new.streams.written after) (Ok done)
    → IsDetectorAfter plan (going.given ++ records) new.detector × (new.streams.written ≡ grown start.written (lines_of plan (going.given ++ records) Open))
batch_is plan records old new first start going faults after done shows =
    let came = shows.emits.whole (record { inputs = going.given; hold = going.holds }) in (
      shows.holds going.given going.holds,
      gathers_settled (lines plan going.given records Open) _ _ refl refl came
          ∙ ap (λ (x : Option (List ℕ)). grown x (lines plan going.given records Open)) going.wrote
          ∙ grown-grown start.written (lines_of plan going.given Open) (lines plan going.given records Open)
          ∙ ap (grown start.written) (sym (lines_of-batch plan going.given records)),
    )

-- a batch was read and shown
pub batch_shown : (plan : Plan) (records : List LinkedRecord) (old new : Point) (failed : Type 0) (reached : BatchEnd) (faults after : ℕ) (done : Unit {0})
    → length records ≤ most_at old.room → new.room ≡ room_after old.room (length records)
    → (reached ≡ More → length records ≡ most_at old.room) → ((reached ≡ More → ⊥) → length records < most_at old.room)
    → ReadsOn (record { reader = old.reader; records = []; left = old.streams.left }) (record { reader = new.reader; records = records; left = new.streams.left }) reached
    → Advances (records_stage plan) records old.detector new.detector (at_sink old.streams.written faults) (at_sink new.streams.written after) (Ok done)
    → ShowsOn plan old new failed (more_of reached)
batch_shown plan records old new failed reached faults after done few room_is full fewer reads shows = by_case reached full fewer reads
  where
    room_now : (first : RecordReader) (start : Streams) (going : IsUnderWay plan first start old) → IsRoom plan.limit (length (going.given ++ records)) new.room
    room_now first start going =
        subst (λ (r : Option ℕ). IsRoom plan.limit (length (going.given ++ records)) r) (sym room_is) (room_further plan.limit old.room going.given records going.room_is few)

    some_left : length records < most_at old.room → 0 < most_at new.room
    some_left short = subst (λ (r : Option ℕ). 0 < most_at r) (sym room_is) (room_left old.room (length records) short)

    by_case : (r : BatchEnd) → (r ≡ More → length records ≡ most_at old.room) → ((r ≡ More → ⊥) → length records < most_at old.room)
        → ReadsOn (record { reader = old.reader; records = []; left = old.streams.left }) (record { reader = new.reader; records = records; left = new.streams.left }) r
        → ShowsOn plan old new failed (more_of r)
    by_case More all short on = λ first start going.
        let own = batch_is plan records old new first start going faults after done shows in record {
          given = going.given ++ records;
          read = reached_after plan first start old (record { reader = new.reader; records = records; left = new.streams.left }) More going on;
          room_is = room_now first start going;
          batches = subst (λ (r : Option ℕ). AreBatches (going.given ++ records) ⊎ (most_at r ≡ 0)) (sym room_is) (batches_further old.room going.given records going.batches (all refl));
          holds = own.0;
          wrote = own.1;
        }
    by_case End all short on = λ first start going.
        let given = going.given ++ records in
        let own = batch_is plan records old new first start going faults after done shows in
        let came = reached_after plan first start old (record { reader = new.reader; records = records; left = new.streams.left }) End going on in
        let some = some_left (short (λ e. cc)) in (
          at_end plan first new.room given start new.streams new.detector Clean (room_now first start going) some own.0 own.1 came.1,
          close_by plan first new.room given start new.streams failed (Ok tt) (room_now first start going) own.1 came.0.whole
              (λ taken are. read_out plan first new.room given start.left failed (room_now first start going) some taken are Clean came.1),
        )
    by_case (Fault why) all short on = λ first start going.
        let given = going.given ++ records in
        let own = batch_is plan records old new first start going faults after done shows in
        let came = reached_after plan first start old (record { reader = new.reader; records = records; left = new.streams.left }) (Fault why) going on in
        let some = some_left (short (λ e. cc)) in (
          fault_comes plan first new.room given start new.streams new.detector why (room_now first start going) some own.0 own.1 came.0 came.1,
          close_by plan first new.room given start new.streams failed (Err (stop.Capture why)) (room_now first start going) own.1 came.0.whole
              (λ taken are. fault_to plan first new.room given start.left failed (room_now first start going) some taken are why came.1),
        )

-- no batch is larger than a batch may be
batch_few : (room : Option ℕ) (count : ℕ) → count ≤ most_at room → count ≤ batch
batch_few None count few = few
batch_few (Some room) count few = omega (arith, few)

-- where a batch of these records is the last that is read, how far is known by its reading
abbrev ReadsTo : Plan → List LinkedRecord → Point → Type 0 → RunStop → Type 0
ReadsTo plan records old failed why =
    (first : RecordReader) (start : Streams) (going : IsUnderWay plan first start old) (taken : List ℕ) → (recording_by plan first taken).records ≡ going.given ++ records
    → HasReadTo plan first taken start.left failed (Err why)

-- a batch was read, and a part of its lines was written
batch_part : (plan : Plan) (records : List LinkedRecord) (old new : Point) (failed : Type 0) (reached : BatchEnd) (why : WriteFault)
    → length records ≤ most_at old.room → ReadsTo plan records old failed (write_stop why)
    → ReadsOn (record { reader = old.reader; records = []; left = old.streams.left }) (record { reader = new.reader; records = records; left = new.streams.left }) reached
    → ShowsRecordsPart plan records old.detector old.streams.written new.streams.written
    → ShowsOn plan old new failed (Err (write_stop why))
unfolding WritesPart ShowsRecordsPart
batch_part plan records old new failed reached why few to reads shown = λ first start going.
    let given = going.given ++ records in
    let text = lines plan going.given records Open in
    let now : Place = record { reader = new.reader; records = records; left = new.streams.left } in
    let room_is = room_further plan.limit old.room going.given records going.room_is few in
    let stopped = stopped_at first given start.left now reached (reached_after plan first start old now reached going reads) in
    let own : WritesPart old.streams.written text new.streams.written = shown going.given going.holds in
    let part = own.0 in
    let some : WritesPart start.written (lines_of plan given Open) new.streams.written =
    subst (λ (x : List ℕ). WritesPart start.written x new.streams.written) (sym (lines_of-batch plan going.given records))
    (WritesPart-after start.written old.streams.written new.streams.written _ _ going.wrote own) in (
      showing_stops plan first start new.streams new.detector why
          (part_of_all plan first stopped.following (room_after old.room (length records)) given start stopped.still new.streams.written room_is stopped.read some),
      record {
        taken = stopped.whole.taken;
        took = stopped.whole.took;
        given = going.given;
        last = records;
        are = within_limit plan.limit (room_after old.room (length records)) given (recording_for first stopped.whole.taken) room_is stopped.whole.are;
        batches = batches_last old.room going.given records going.batches few;
        few = batch_few old.room (length records) few;
        more = part;
        wrote = own.2 ∙ ap (λ (x : Option (List ℕ)). grown x part) going.wrote ∙ grown-grown start.written (lines_of plan going.given Open) part;
        within = subst (AreWithin plan.limit) (sym stopped.whole.are) (room_within plan.limit (room_after old.room (length records)) given room_is);
        to = to first start going stopped.whole.taken (within_limit plan.limit (room_after old.room (length records)) given (recording_for first stopped.whole.taken) room_is stopped.whole.are);
      },
    )

-- where a write failed, or memory was lacking for the lines
pub batch_stops : (plan : Plan) (records : List LinkedRecord) (old new : Point) (failed : Type 0) (reached : BatchEnd) (why : WriteFault)
    → length records ≤ most_at old.room
    → (reached ≡ More → length records ≡ most_at old.room) → ((reached ≡ More → ⊥) → length records < most_at old.room)
    → (reached ≡ Fault fault.Failed → failed) → lacks_memory reached ≡ false
    → ReadsOn (record { reader = old.reader; records = []; left = old.streams.left }) (record { reader = new.reader; records = records; left = new.streams.left }) reached
    → ShowsRecordsPart plan records old.detector old.streams.written new.streams.written
    → ShowsOn plan old new failed (Err (write_stop why))
batch_stops plan records old new failed reached why few full fewer rose enough reads shown =
    batch_part plan records old new failed reached why few (by_fault why) reads shown
  where
    not_lacking : reached ≡ Fault fault.NoMemory → ⊥
    not_lacking same = not_both (lacks_memory reached) (ap lacks_memory same) enough

    by_fault : (stopped : WriteFault) → ReadsTo plan records old failed (write_stop stopped)
    by_fault write.Unwritten = λ first start going taken are.
        unwritten_to plan first old.room going.given records start.left (record { reader = new.reader; records = records; left = new.streams.left }) reached failed taken
        (room_further plan.limit old.room going.given records going.room_is few) going.batches full fewer rose not_lacking
        (reached_after plan first start old (record { reader = new.reader; records = records; left = new.streams.left }) reached going reads) are
    by_fault write.NoMemory = λ first start going taken are. tt

-- a batch, where memory was lacking for reading
pub batch_lacks : (plan : Plan) (records : List LinkedRecord) (old new : Point) (failed : Type 0) (reached : BatchEnd)
    → length records ≤ most_at old.room
    → ReadsOn (record { reader = old.reader; records = []; left = old.streams.left }) (record { reader = new.reader; records = records; left = new.streams.left }) reached
    → ShowsRecordsPart plan records old.detector old.streams.written new.streams.written
    → ShowsOn plan old new failed (Err stop.NoMemory)
batch_lacks plan records old new failed reached few reads shown =
    batch_part plan records old new failed reached write.NoMemory few (λ first start going taken are. tt) reads shown

-- lines that were shown, or a part of them
pub part_shown : (plan : Plan) (records : List LinkedRecord) (old new : Detector) (first last : Option (List ℕ)) (faults after : ℕ) (answer : Result (Unit {0}) WriteFault)
    → Advances (records_stage plan) records old new (at_sink first faults) (at_sink last after) answer → ShowsRecordsPart plan records old first last
unfolding ShowsRecordsPart
part_shown plan records old new first last faults after (Ok done) shows = λ before holds.
    WritesPart-all first last _ (gathers_settled _ _ _ refl refl (shows.emits.whole (record { inputs = before; hold = holds })))
part_shown plan records old new first last faults after (Err why) shows = λ before holds. shows.emits.part (record { inputs = before; hold = holds })

-- how far was read from the start, where the host may have failed before
to_since : (plan : Plan) (first : RecordReader) (taken : List ℕ) (left : Option (List ℕ)) (later since : Type 0) (outcome : Result (Unit {0}) RunStop) → (later → since)
    → HasReadTo plan first taken left later outcome → HasReadTo plan first taken left since outcome
to_since plan first taken left later since (Ok done) rises to = to
to_since plan first taken left later since (Err (stop.Capture fault.Failed)) rises to = tt
to_since plan first taken left later since (Err (stop.Capture fault.NoMemory)) rises to = tt
to_since plan first taken left later since (Err stop.NoMemory) rises to = tt
to_since plan first taken left later since (Err stop.CannotWrite) rises to =
    ⊎_elim (λ whole. inl whole) (λ (other : IsReadOut plan first taken left ⊎ later). inr (⊎_elim (λ out. inl out) (λ rose. inr (rises rose)) other)) to
to_since plan first taken left later since (Err why) rises to = to

pub comes_since : (plan : Plan) (first : RecordReader) (start now : Streams) (later since : Type 0) (detector : Detector) (outcome : Result (Unit {0}) RunStop) → (later → since)
    → ComesOver plan first start now later detector outcome
    → ComesOver plan first start now since detector outcome
comes_since plan first start now later since detector outcome rises (came, close) = (
  came,
  record {
    taken = close.taken;
    took = close.took;
    given = close.given;
    last = close.last;
    are = close.are;
    batches = close.batches;
    few = close.few;
    more = close.more;
    wrote = close.wrote;
    within = close.within;
    to = to_since plan first close.taken start.left later since outcome rises close.to;
  },
)

-- ---- the closing

-- where nothing was read yet, the lines follow the records closely
pub close-start : (plan : Plan) (reader : RecordReader) (old : Streams) (failed : Type 0) → IsFresh reader → IsCloseAfter plan reader old old failed (Err stop.NoMemory)
close-start plan reader old failed fresh =
    close_by plan reader plan.limit [] old old failed (Err stop.NoMemory) (room_first plan.limit)
    (sym (grown-nil old.written) ∙ ap (grown old.written) (sym (lines_of-nil plan)))
    (reading-whole reader reader [] old.left old.left (reading-start reader old.left fresh))
    (λ taken are. tt)

-- a capture at its end was closed
closed_to : (plan : Plan) (first : RecordReader) (start now : Streams) (detector : Detector) (ending : Ending ReadFault) (written : Option (List ℕ)) (faults after : ℕ) (counts : Counts)
    → IsAtEnd plan first start now detector ending
    → Closes plan detector (at_sink now.written faults) (at_sink written after) (Ok counts)
    → (left : Option (List ℕ)) → ShowsTo plan first ending start (record { left = left; written = written }) counts
closed_to plan first start now detector ending written faults after counts came closes left = λ whole told.
    let cut = came.ends whole told in record {
      ends = ap (λ (c : Recording). c.ending) cut;
      wrote = gathers_settled (closing_lines plan came.given) _ _ refl refl (closes.emits.whole (record { inputs = came.given; hold = came.holds }))
          ∙ ap (λ (x : Option (List ℕ)). grown x (closing_lines plan came.given)) came.wrote
          ∙ grown-grown start.written (lines_of plan came.given Open) (closing_lines plan came.given)
          ∙ ap (grown start.written) (sym (ap (λ (c : Recording). lines_of plan c.records Closed) cut ∙ lines_of-closed plan came.given));
      counted = closes.counted came.given came.holds ∙ sym (ap (λ (c : Recording). counts_of plan c.records) cut);
    }

-- what was closed in part was written in part
closed_some : (plan : Plan) (first : RecordReader) (start now : Streams) (detector : Detector) (ending : Ending ReadFault) (written : Option (List ℕ)) (faults after : ℕ) (why : WriteFault)
    → IsAtEnd plan first start now detector ending
    → Closes plan detector (at_sink now.written faults) (at_sink written after) (Err why)
    → (left : Option (List ℕ)) → WritesSome plan first start (record { left = left; written = written })
closed_some plan first start now detector ending written faults after why came part left = λ whole told.
    subst (λ (x : List ℕ). WritesPart start.written x written)
    (sym (ap (λ (c : Recording). lines_of plan c.records Closed) (came.ends whole told) ∙ lines_of-closed plan came.given))
    (WritesPart-after start.written now.written written (lines_of plan came.given Open) (closing_lines plan came.given) came.wrote
    (part.emits.part (record { inputs = came.given; hold = came.holds })))

-- a part of lines stopped the showing of them
stopped_some : (plan : Plan) (first : RecordReader) (start after : Streams) (counts : Counts) (why : WriteFault) → WritesSome plan first start after
    → ShowsCapture plan first start after counts (Err (write_stop why))
stopped_some plan first start after counts write.Unwritten some = some
stopped_some plan first start after counts write.NoMemory some = some

-- how the showing ends, by how the batches ended and how it was closed
module _ (plan : Plan) (first : RecordReader) (start now : Streams) (detector : Detector) (written : Option (List ℕ)) (faults after : ℕ) (counts : Counts) where
  abbrev after_it : Streams
  after_it = record { left = now.left; written = written }

  -- the sink before and after the closing
  abbrev sink_then : Sending
  sink_then = record { written = now.written; block = []; faults = faults }

  abbrev sink_now : Sending
  sink_now = record { written = written; block = []; faults = after }

  -- cut short before it was closed
  left_so : (shown : Result (Unit {0}) RunStop) → is_whole shown ≡ false → Comes plan first start now detector shown → written ≡ now.written → ShowsCapture plan first start after_it counts shown
  left_so (Ok done) cut came same = absurd cc
  left_so (Err (stop.Capture fault.Failed)) cut came same = (
    record { taken = came.0.taken; took = came.0.took; wrote = same ∙ came.0.wrote },
    λ whole told. subst (λ (w : Option (List ℕ)). WritesPart start.written (lines_left plan first whole Closed) w) (sym same) (came.1 whole told),
  )
  left_so (Err stop.CannotWrite) cut came same = λ whole told. subst (λ (w : Option (List ℕ)). WritesPart start.written (lines_left plan first whole Closed) w) (sym same) (came whole told)
  left_so (Err (stop.Capture fault.NoMemory)) cut came same = λ whole told.
      subst (λ (w : Option (List ℕ)). WritesPart start.written (lines_left plan first whole Closed) w) (sym same) (came whole told)
  left_so (Err stop.NoMemory) cut came same = λ whole told. subst (λ (w : Option (List ℕ)). WritesPart start.written (lines_left plan first whole Closed) w) (sym same) (came whole told)
  left_so (Err why) cut came same = absurd cc

  -- a showing that came to its end was closed
  closed_so : (shown : Result (Unit {0}) RunStop) → is_whole shown ≡ true → Comes plan first start now detector shown → Closes plan detector sink_then sink_now (Ok counts)
      → ShowsCapture plan first start after_it counts shown
  closed_so (Ok done) whole came closes = closed_to plan first start now detector Clean written faults after counts came closes now.left
  closed_so (Err (stop.Capture fault.Failed)) whole came closes = absurd cc
  closed_so (Err (stop.Capture fault.NoMemory)) whole came closes = absurd cc
  closed_so (Err stop.CannotWrite) whole came closes = absurd cc
  closed_so (Err stop.NoMemory) whole came closes = absurd cc
  closed_so (Err (stop.Capture why)) whole came closes = closed_to plan first start now detector (Refused why) written faults after counts came closes now.left
  closed_so (Err why) whole came closes = absurd came

  -- closed in part
  closed_part_so : (shown : Result (Unit {0}) RunStop) (why : WriteFault) → is_whole shown ≡ true → Comes plan first start now detector shown → Closes plan detector sink_then sink_now (Err why)
      → ShowsCapture plan first start after_it counts (Err (write_stop why))
  closed_part_so (Ok done) why whole came part = stopped_some plan first start after_it counts why (closed_some plan first start now detector Clean written faults after why came part now.left)
  closed_part_so (Err (stop.Capture fault.Failed)) why whole came part = absurd cc
  closed_part_so (Err (stop.Capture fault.NoMemory)) why whole came part = absurd cc
  closed_part_so (Err stop.CannotWrite) why whole came part = absurd cc
  closed_part_so (Err stop.NoMemory) why whole came part = absurd cc
  closed_part_so (Err (stop.Capture other)) why whole came part =
      stopped_some plan first start after_it counts why (closed_some plan first start now detector (Refused other) written faults after why came part now.left)
  closed_part_so (Err other) why whole came part = absurd came

  pub closed_show : (shown result_then : Result (Unit {0}) RunStop) → Comes plan first start now detector shown → ClosesShown plan detector shown sink_then sink_now counts result_then
      → ShowsCapture plan first start (record { left = now.left; written = written }) counts result_then
  unfolding ClosesShown
  closed_show shown result_then came how =
      ⊎_elim
      (λ (left : IsLeft shown result_then sink_then sink_now).
      subst (λ (r : Result (Unit {0}) RunStop). ShowsCapture plan first start after_it counts r) (sym left.1) (left_so shown left.0 came left.2))
      (λ shut. ⊎_elim
      (λ (whole : IsClosedWhole plan detector shown result_then sink_then sink_now counts).
      subst (λ (r : Result (Unit {0}) RunStop). ShowsCapture plan first start after_it counts r) (sym whole.1) (closed_so shown whole.0 came whole.2))
      (λ (part : IsClosedInPart plan detector shown result_then sink_then sink_now).
      subst (λ (r : Result (Unit {0}) RunStop). ShowsCapture plan first start after_it counts r) (sym part.1.1) (closed_part_so shown part.1.0 part.0 came part.1.2))
      shut)
      how

  -- what was written in the closing comes after what was written before
  wrote_more : (shown : Result (Unit {0}) RunStop) → is_whole shown ≡ true → Comes plan first start now detector shown
      → ((records : List LinkedRecord) → IsDetectorAfter plan records detector → (more : List ℕ) × (written ≡ grown now.written more))
      → (more : List ℕ) × (written ≡ grown now.written more)
  wrote_more (Ok done) whole came more = more came.given came.holds
  wrote_more (Err (stop.Capture fault.Failed)) whole came more = absurd cc
  wrote_more (Err (stop.Capture fault.NoMemory)) whole came more = absurd cc
  wrote_more (Err stop.CannotWrite) whole came more = absurd cc
  wrote_more (Err stop.NoMemory) whole came more = absurd cc
  wrote_more (Err (stop.Capture why)) whole came more = more came.given came.holds
  wrote_more (Err why) whole came more = absurd came

  -- a closing that was stopped stopped after the end
  end_to : (failed : Type 0) (taken : List ℕ) (why : WriteFault) → IsReadOut plan first taken start.left → HasReadTo plan first taken start.left failed (Err (write_stop why))
  end_to failed taken write.Unwritten out = inr (inl out)
  end_to failed taken write.NoMemory out = tt

  closing_to : (failed : Type 0) (taken : List ℕ) (shown : Result (Unit {0}) RunStop) (why : WriteFault) → is_whole shown ≡ true → HasReadTo plan first taken start.left failed shown
      → HasReadTo plan first taken start.left failed (Err (write_stop why))
  closing_to failed taken (Ok done) why whole to = end_to failed taken why to
  closing_to failed taken (Err (stop.Capture fault.Failed)) why whole to = absurd cc
  closing_to failed taken (Err (stop.Capture fault.NoMemory)) why whole to = absurd cc
  closing_to failed taken (Err stop.CannotWrite) why whole to = absurd cc
  closing_to failed taken (Err stop.NoMemory) why whole to = absurd cc
  closing_to failed taken (Err other) why whole to = end_to failed taken why to

  closer : (failed : Type 0) (shown result_then : Result (Unit {0}) RunStop) → IsCloseAfter plan first start now failed shown → (more : List ℕ) → written ≡ grown now.written more
      → ((taken : List ℕ) → HasReadTo plan first taken start.left failed shown → HasReadTo plan first taken start.left failed result_then) → IsCloseAfter plan first start after_it failed result_then
  closer failed shown result_then close more wrote to = record {
    taken = close.taken;
    took = close.took;
    given = close.given;
    last = close.last;
    are = close.are;
    batches = close.batches;
    few = close.few;
    more = close.more ++ more;
    wrote = wrote ∙ ap (λ (x : Option (List ℕ)). grown x more) close.wrote
        ∙ grown-grown start.written (lines_of plan close.given Open ++ close.more) more
        ∙ ap (grown start.written) (append_assoc (lines_of plan close.given Open) close.more more);
    within = close.within;
    to = to close.taken close.to;
  }

  pub closed_after : (failed : Type 0) (shown result_then : Result (Unit {0}) RunStop) → ComesOver plan first start now failed detector shown
      → ClosesShown plan detector shown sink_then sink_now counts result_then
      → IsCloseAfter plan first start (record { left = now.left; written = written }) failed result_then
  unfolding ClosesShown WritesPart
  closed_after failed shown result_then (came, close) how =
      let same : result_then ≡ shown → (taken : List ℕ) → HasReadTo plan first taken start.left failed shown → HasReadTo plan first taken start.left failed result_then =
      λ is taken to. subst (λ (r : Result (Unit {0}) RunStop). HasReadTo plan first taken start.left failed r) (sym is) to in
      ⊎_elim
      (λ (left : IsLeft shown result_then sink_then sink_now). closer failed shown result_then close [] (left.2 ∙ sym (grown-nil now.written)) (same left.1))
      (λ shut. ⊎_elim
      (λ (whole : IsClosedWhole plan detector shown result_then sink_then sink_now counts).
      let more = wrote_more shown whole.0 came (λ records holds. (closing_lines plan records, gathers_settled _ _ _ refl refl (whole.2.emits.whole (record { inputs = records; hold = holds })))) in
      closer failed shown result_then close more.0 more.1 (same whole.1))
      (λ (part : IsClosedInPart plan detector shown result_then sink_then sink_now).
      let more = wrote_more shown part.0 came (λ records holds. let own = part.1.2.emits.part (record { inputs = records; hold = holds }) in (own.0, own.2)) in
      closer failed shown result_then close more.0 more.1
      (λ taken to. subst (λ (r : Result (Unit {0}) RunStop). HasReadTo plan first taken start.left failed r) (sym part.1.1) (closing_to failed taken shown part.1.0 part.0 to)))
      shut)
      how
