-- What the calls of a reader give, one after another, is what the capture's bytes hold.
use Rattle.std.proofs.Common.{◌≡◌, ℕ, List, [], ◌∷◌, ◌++◌, Option, Some, None, Result, Ok, Err, length, refl, sym, ap, ◌∙◌, ⊎_elim}
use Rattle.std.specs.Prelude.{IsErrOf}
use Rattle.edge_io.specs.Files.{Files}
use Rattle.pcap_input.proofs.Cuts.{first_records-none, first_records-reached, front_of_front, front_of_none}
use Rattle.pcap_input.proofs.Told.{split_told}
use Rattle.pcapng_input.specs.declared.capture.NgRecord.{NgRecord}
use Rattle.pcapng_input.specs.declared.capture.NgFault.{NgFault}
use Rattle.pcapng_input.specs.declared.capture.NgFault.TheVariants as fault
use Rattle.pcap_input.specs.Cut.{Ending, Clean, Cut, first_records, with_front}
use Rattle.pcapng_input.specs.Blocks.{opening, Next, Ends, Follows, next_of, records_left, ng_records}
use Rattle.pcap_input.specs.Reader.{Tells}
use Rattle.pcapng_input.specs.Reader.{Reading, Opens, TakesHead, Answers}
use Rattle.pcapng_input.specs.Calls.{IsOpenCall, IsNextCall, IsOfBytes, IsEnding, HasGiven, none, one_more, HasRead, IsBelow, IsLastCall, ReadsCut, ReadsAll, ReadsFirst}
use Rattle.pcapng_input.proofs.Blocks.Heads.{tells_opened}
use Rattle.pcapng_input.proofs.Captures.Records.{records_left-ends, records_left-follows}
use Rattle.pcapng_input.proofs.Captures.Endings.{below_limit, ng_records-skips, ng_records-refused}

-- ---- a call of `open`

-- `open` gave a reader: some bytes are left, and the capture's records are those that they hold for it
record IsAfter (bytes : List ℕ) (first : Reading) (left : Option (List ℕ)) : Type 0 where
  fresh : first.refused ≡ None
  rest : List ℕ
  still : left ≡ Some rest
  all : (limit : Option ℕ) → ng_records bytes limit ≡ Ok (first_records limit (records_left first.walk rest))

after_head : (contents : Option Files) (name bytes : List ℕ) (first : Reading) (left : Option (List ℕ))
    → Tells contents name bytes
    → first.refused ≡ None → TakesHead contents name (Ok first) left → IsAfter bytes first left
after_head contents name bytes first left tells fresh takes =
    let split = split_told takes.whole left takes.taken bytes takes.took (tells_opened contents name bytes takes.whole tells takes.opened) in
    record {
      fresh = fresh;
      rest = split.rest;
      still = split.still;
      all = λ limit. ng_records-skips bytes limit first.walk split.rest (ap opening split.joined ∙ takes.shows split.rest);
    }

after_open : (contents : Option Files) (name bytes : List ℕ) (first : Reading) (left : Option (List ℕ))
    → Tells contents name bytes
    → IsOpenCall contents name (Ok first) left → IsAfter bytes first left
after_open contents name bytes first left tells call =
    let opens = call.gives bytes tells in
    ⊎_elim
    (λ (takes : TakesHead contents name (Ok first) left). after_head contents name bytes first left tells opens.2 takes)
    (λ (failed : IsErrOf (Ok first) fault.Failed × (left ≡ None)). let no : Ok first ≡ Err fault.Failed = failed.0 in cc)
    call.takes

-- `open` was refused
refused_open : (contents : Option Files) (name bytes : List ℕ) (limit : Option ℕ) (why : NgFault) → IsOfBytes why
    → Opens (Err why) (opening bytes) → ng_records bytes limit ≡ Err why
refused_open contents name bytes limit fault.NotPcapng shown opens = ng_records-refused bytes limit _ opens
refused_open contents name bytes limit (fault.Truncated at) shown opens = ng_records-refused bytes limit _ opens
refused_open contents name bytes limit (fault.BadBlock at) shown opens = ng_records-refused bytes limit _ opens
refused_open contents name bytes limit (fault.LinkType at link) shown opens = ng_records-refused bytes limit _ opens
refused_open contents name bytes limit (fault.TooLong at len) shown opens = ng_records-refused bytes limit _ opens
refused_open contents name bytes limit fault.TooMany shown opens = ng_records-refused bytes limit _ opens
refused_open contents name bytes limit fault.Failed shown opens = absurd shown
refused_open contents name bytes limit fault.NoMemory shown opens = absurd shown

-- ---- calls of `next`

-- calls of `next` gave these records: some bytes are left, and after these records come those that they hold
-- for the reader
record GoesOn (first : Reading) (whole : List ℕ) (given : List NgRecord) (last : Reading) (left : Option (List ℕ)) : Type 0 where
  fresh : last.refused ≡ None
  rest : List ℕ
  still : left ≡ Some rest
  cut : records_left first.walk whole ≡ with_front given (records_left last.walk rest)

goes_on : (first : Reading) (left_first : Option (List ℕ)) (whole : List ℕ) → first.refused ≡ None → left_first ≡ Some whole
    → (given : List NgRecord) (last : Reading) (left : Option (List ℕ)) → HasGiven first left_first given last left
    → GoesOn first whole given last left
goes_on first left_first whole fresh told given last left none = record { fresh = fresh; rest = whole; still = told; cut = refl }
goes_on first left_first whole fresh told given last left (one_more {given = front} {old = old} {left_old = left_old} {last = newest} gave call) =
    let before = goes_on first left_first whole fresh told front old left_old gave in
    let split = split_told left_old left call.takes.taken before.rest call.takes.took before.still in
    let holds : next_of old.walk before.rest ≡ Follows newest last.walk split.rest = ap (next_of old.walk) split.joined ∙ call.takes.goes split.rest in
    let after = records_left last.walk split.rest in
    record {
      fresh = call.takes.fresh;
      rest = split.rest;
      still = split.still;
      cut = before.cut
          ∙ ap (with_front front) (records_left-follows old.walk before.rest newest last.walk split.rest holds)
          ∙ front_of_front front (newest ∷ []) after;
    }

-- ---- the end

-- an answer that is an ending
next_ends : (answer : Result (Option NgRecord) NgFault) (next : Next) (ending : Ending NgFault) → IsEnding answer ending
    → Answers answer next → next ≡ Ends ending
next_ends (Ok None) next ending is answers = answers ∙ ap Ends (sym is)
next_ends (Ok (Some given)) next ending is answers = absurd is
next_ends (Err fault.NotPcapng) next ending is answers = answers ∙ ap Ends (sym is.1)
next_ends (Err (fault.Truncated at)) next ending is answers = answers ∙ ap Ends (sym is.1)
next_ends (Err (fault.BadBlock at)) next ending is answers = answers ∙ ap Ends (sym is.1)
next_ends (Err (fault.LinkType at link)) next ending is answers = answers ∙ ap Ends (sym is.1)
next_ends (Err (fault.TooLong at len)) next ending is answers = answers ∙ ap Ends (sym is.1)
next_ends (Err fault.TooMany) next ending is answers = answers ∙ ap Ends (sym is.1)
next_ends (Err fault.Failed) next ending is answers = absurd is.0
next_ends (Err fault.NoMemory) next ending is answers = absurd is.0

-- the limit was reached after these records
reached : (first : Reading) (whole : List ℕ) (cut : Cut NgRecord NgFault) (last : Reading) (left : Option (List ℕ)) (limit : Option ℕ)
    → GoesOn first whole cut.records last left
    → limit ≡ Some (length cut.records) → cut.ending ≡ Clean → first_records limit (records_left first.walk whole) ≡ cut
reached first whole cut last left limit on is clean =
    ap (λ (l : Option ℕ). first_records l (records_left first.walk whole)) is
    ∙ ap (first_records (Some (length cut.records))) on.cut
    ∙ first_records-reached cut.records (records_left last.walk on.rest)
    ∙ ap (λ (ending : Ending NgFault). let c : Cut NgRecord NgFault = record { records = cut.records; ending = ending } in c) (sym clean)

-- one more call gave the ending
ended : (first : Reading) (whole : List ℕ) (cut : Cut NgRecord NgFault) (last : Reading) (left : Option (List ℕ)) (limit : Option ℕ)
    → GoesOn first whole cut.records last left
    → IsBelow limit (length cut.records) → IsLastCall last left cut.ending
    → first_records limit (records_left first.walk whole) ≡ cut
ended first whole cut last left limit on below ends =
    let none_next = next_ends ends.answer (next_of last.walk on.rest) cut.ending ends.ends (ends.call.gives on.fresh on.rest on.still) in
    let all : records_left first.walk whole ≡ cut =
    on.cut ∙ ap (with_front cut.records) (records_left-ends last.walk on.rest cut.ending none_next)
    ∙ front_of_none cut.records cut.ending in
    ap (first_records limit) all ∙ below_limit limit cut below

-- ---- a capture that was opened and read

-- where a capture was opened, no record is read yet
pub read-none : (contents : Option Files) (name : List ℕ) (reader : Reading) (left : Option (List ℕ))
    → IsOpenCall contents name (Ok reader) left
    → HasRead contents name [] reader left
read-none contents name reader left call = record { first = reader; left_first = left; opened = call; gave = none }

-- one more record was given
pub read-more : (contents : Option Files) (name : List ℕ) (given : List NgRecord) (old new : Reading) (last : NgRecord) (left_old left_new : Option (List ℕ))
    → HasRead contents name given old left_old → IsNextCall old new (Ok (Some last)) left_old left_new
    → HasRead contents name (given ++ last ∷ []) new left_new
read-more contents name given old new last left_old left_new read call =
    record { first = read.first; left_first = read.left_first; opened = read.opened; gave = one_more read.gave call }

-- ---- the laws

all_cut : (contents : Option Files) (name bytes : List ℕ) (limit : Option ℕ) (cut : Cut NgRecord NgFault) → Tells contents name bytes
    → ReadsCut contents name limit cut → ng_records bytes limit ≡ Ok cut
all_cut contents name bytes limit cut tells reads =
    let first = reads.read.first in
    let after = after_open contents name bytes first reads.read.left_first tells reads.read.opened in
    let on = goes_on first reads.read.left_first after.rest after.fresh after.still cut.records reads.reader reads.left reads.read.gave in
    after.all limit
    ∙ ap Ok (
    ⊎_elim
    (λ (at : (limit ≡ Some (length cut.records)) × (cut.ending ≡ Clean)). reached first after.rest cut reads.reader reads.left limit on at.0 at.1)
    (λ (ends : IsBelow limit (length cut.records) × IsLastCall reads.reader reads.left cut.ending).
    ended first after.rest cut reads.reader reads.left limit on ends.0 ends.1)
    reads.ended
    )

pub reads_all : ReadsAll
reads_all contents name bytes limit (Ok cut) tells reads = all_cut contents name bytes limit cut tells reads
reads_all contents name bytes limit (Err why) tells reads = refused_open contents name bytes limit why reads.2 (reads.1.gives bytes tells)

pub reads_first : ReadsFirst
reads_first contents name bytes given reader left tells read =
    let first = read.first in
    let after = after_open contents name bytes first read.left_first tells read.opened in
    let on = goes_on first read.left_first after.rest after.fresh after.still given reader left read.gave in (
      records_left first.walk after.rest,
      (records_left reader.walk on.rest).records,
      after.all None ∙ ap Ok (first_records-none (records_left first.walk after.rest)),
      ap (λ (cut : Cut NgRecord NgFault). cut.records) on.cut,
    )
