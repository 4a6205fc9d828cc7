-- What blocks that were read, one after the other, show of what comes next.
use Rattle.std.proofs.Common.{◌≡◌, ℕ, ◌<◌, List, [], ◌++◌, Option, Some, None, Result, Ok, Err, refl, sym, ap, subst, append_assoc, ◌∙◌}
use Rattle.std.specs.Prelude.{IfSome, IfNone}
use Rattle.edge_io.specs.Told.{before}
use Rattle.edge_io.specs.Files.{Files, IsUnopened}
use Rattle.pcap_input.proofs.Told.{none_taken, split_told}
use Rattle.pcapng_input.specs.declared.capture.NgRecord.{NgRecord}
use Rattle.pcapng_input.specs.declared.capture.NgFault.{NgFault}
use Rattle.pcapng_input.specs.declared.capture.NgFault.TheVariants as fault
use Rattle.pcapng_input.specs.declared.walk.Walk.{Walk}
use Rattle.pcapng_input.specs.declared.step.BlockRead.TheVariants as read
use Rattle.pcap_input.specs.Cut.{Ending, Clean, Refused}
use Rattle.pcapng_input.specs.Blocks.{last_place, refused, step_of, Ends, next_of}
use Rattle.pcapng_input.specs.Steps.{EndsBy, Shows, IsAtEnd}
use Rattle.pcapng_input.specs.Reader.{Reading, Answers, TakesRecord, TakesBlocks, ShowsRefusal, TakesNone, GoesBy, Goes, HasPassed, IsNothing}
use Rattle.pcapng_input.proofs.Blocks.Taking.{took_after}
use Rattle.pcapng_input.proofs.Captures.Moving.{skips_on, skips_near}
use Rattle.pcapng_input.proofs.Captures.Nexts.{next_of-stops, next_of-gives, next_of-skips, next_of-same, none_ends}

-- no block was read yet
pub passed_start : (walk : Walk) (left : Option (List ℕ)) → HasPassed walk walk left left
passed_start walk left = record { taken = []; took = none_taken left; goes = λ more. refl }

-- what comes next for the first walk, after what the two took
on_after : (first walk : Walk) (left_first left : Option (List ℕ)) (passed : HasPassed first walk left_first left) (taken more : List ℕ)
    → next_of first ((passed.taken ++ taken) ++ more) ≡ next_of walk (taken ++ more)
on_after first walk left_first left passed taken more = ap (next_of first) (append_assoc passed.taken taken more) ∙ passed.goes (taken ++ more)

-- a block was skipped
pub passed_more : (first walk after : Walk) (left_first left left_after : Option (List ℕ))
    → HasPassed first walk left_first left → Shows (step_of walk) after (Ok read.Skipped) left left_after → HasPassed first after left_first left_after
passed_more first walk after left_first left left_after passed shown = record {
  taken = passed.taken ++ shown.taken;
  took = took_after passed.taken shown.taken left_first left left_after passed.took shown.took;
  goes = λ more. on_after first walk left_first left passed shown.taken more ∙ next_of-skips walk (shown.taken ++ more) after more (shown.shows more);
}

-- a record was read
pub goes_given : (first walk after : Walk) (given : NgRecord) (left_first left left_after : Option (List ℕ))
    → HasPassed first walk left_first left → Shows (step_of walk) after (Ok (read.Record given)) left left_after → Goes first after (Ok (Some given)) left_first left_after
goes_given first walk after given left_first left left_after passed shown = record {
  taken = passed.taken ++ shown.taken;
  took = took_after passed.taken shown.taken left_first left left_after passed.took shown.took;
  goes = λ more. on_after first walk left_first left passed shown.taken more ∙ next_of-gives walk (shown.taken ++ more) given after more (shown.shows more);
}

-- no byte was left
pub goes_ended : (first walk after : Walk) (left_first left left_after : Option (List ℕ))
    → HasPassed first walk left_first left → Shows (step_of walk) after (Ok read.End) left left_after → Goes first after (Ok None) left_first left_after
goes_ended first walk after left_first left left_after passed shown = record {
  taken = passed.taken ++ shown.taken;
  took = took_after passed.taken shown.taken left_first left left_after passed.took shown.took;
  goes = (
    λ more. on_after first walk left_first left passed shown.taken more ∙ next_of-same walk after (shown.taken ++ more) more (shown.shows.1 more),
    λ rest still. on_after first walk left_first left passed shown.taken rest ∙ next_of-stops walk (shown.taken ++ rest) Clean (shown.shows.0.told rest still),
  );
}

-- a refusal, by the bytes of the block that was refused
refusal : (first walk : Walk) (why : NgFault) (left_first left left_after : Option (List ℕ)) (passed : HasPassed first walk left_first left) (taken : List ℕ)
    → EndsBy (step_of walk) (refused why) taken left_after
    → (next_of first (passed.taken ++ taken) ≡ Ends (Refused why)) × ((rest : List ℕ) → left_after ≡ Some rest → next_of first ((passed.taken ++ taken) ++ rest) ≡ Ends (Refused why))
refusal first walk why left_first left left_after passed taken ends = (
  passed.goes taken ∙ next_of-stops walk taken (Refused why) ends.shown,
  λ rest still. on_after first walk left_first left passed taken rest ∙ next_of-stops walk (taken ++ rest) (Refused why) (ends.told rest still),
)

none_after : (first walk : Walk) (left_first left : Option (List ℕ)) (passed : HasPassed first walk left_first left) (taken : List ℕ)
    → (ending : Ending NgFault) × (next_of walk taken ≡ Ends ending) → (ending : Ending NgFault) × (next_of first (passed.taken ++ taken) ≡ Ends ending)
none_after first walk left_first left passed taken ends = (ends.0, passed.goes taken ∙ ends.1)

refused_by : (first walk after : Walk) (why : NgFault) (left_first left left_after : Option (List ℕ)) (passed : HasPassed first walk left_first left)
    (shown : Shows (step_of walk) after (Err why) left left_after) → GoesBy first after (Err why) (passed.taken ++ shown.taken) left_after
refused_by first walk after fault.NotPcapng left_first left left_after passed shown = refusal first walk _ left_first left left_after passed shown.taken shown.shows
refused_by first walk after (fault.Truncated at) left_first left left_after passed shown = refusal first walk _ left_first left left_after passed shown.taken shown.shows
refused_by first walk after (fault.BadBlock at) left_first left left_after passed shown = refusal first walk _ left_first left left_after passed shown.taken shown.shows
refused_by first walk after (fault.LinkType at link) left_first left left_after passed shown = refusal first walk _ left_first left left_after passed shown.taken shown.shows
refused_by first walk after (fault.TooLong at len) left_first left left_after passed shown = refusal first walk _ left_first left left_after passed shown.taken shown.shows
refused_by first walk after fault.TooMany left_first left left_after passed shown = refusal first walk _ left_first left left_after passed shown.taken shown.shows
refused_by first walk after fault.Failed left_first left left_after passed shown = none_after first walk left_first left passed shown.taken (none_ends walk shown.taken shown.shows)
refused_by first walk after fault.NoMemory left_first left left_after passed shown = none_after first walk left_first left passed shown.taken (none_ends walk shown.taken shown.shows)

pub goes_refused : (first walk after : Walk) (why : NgFault) (left_first left left_after : Option (List ℕ))
    → HasPassed first walk left_first left → Shows (step_of walk) after (Err why) left left_after → Goes first after (Err why) left_first left_after
goes_refused first walk after why left_first left left_after passed shown = record {
  taken = passed.taken ++ shown.taken;
  took = took_after passed.taken shown.taken left_first left left_after passed.took shown.took;
  goes = refused_by first walk after why left_first left left_after passed shown;
}

-- where the bytes that were left are told, the answer is what comes next in them
answers_by : (old new : Walk) (answer : Result (Option NgRecord) NgFault) (taken rest whole : List ℕ) (left : Option (List ℕ))
    → whole ≡ taken ++ rest → left ≡ Some rest → GoesBy old new answer taken left → Answers answer (next_of old whole)
answers_by old new (Ok None) taken rest whole left joined still goes = ap (next_of old) joined ∙ goes.1 rest still
answers_by old new (Ok (Some given)) taken rest whole left joined still goes = (new, (rest, ap (next_of old) joined ∙ goes rest))
answers_by old new (Err fault.Failed) taken rest whole left joined still goes = tt
answers_by old new (Err fault.NoMemory) taken rest whole left joined still goes = tt
answers_by old new (Err fault.NotPcapng) taken rest whole left joined still goes = ap (next_of old) joined ∙ goes.1 rest still
answers_by old new (Err (fault.Truncated at)) taken rest whole left joined still goes = ap (next_of old) joined ∙ goes.1 rest still
answers_by old new (Err (fault.BadBlock at)) taken rest whole left joined still goes = ap (next_of old) joined ∙ goes.1 rest still
answers_by old new (Err (fault.LinkType at link)) taken rest whole left joined still goes = ap (next_of old) joined ∙ goes.1 rest still
answers_by old new (Err (fault.TooLong at len)) taken rest whole left joined still goes = ap (next_of old) joined ∙ goes.1 rest still
answers_by old new (Err fault.TooMany) taken rest whole left joined still goes = ap (next_of old) joined ∙ goes.1 rest still

pub goes_answers : (old new : Walk) (answer : Result (Option NgRecord) NgFault) (left_old left_new : Option (List ℕ))
    → Goes old new answer left_old left_new → (rest : List ℕ) → left_old ≡ Some rest → Answers answer (next_of old rest)
goes_answers old new answer left_old left_new goes whole told =
    let split = split_told left_old left_new goes.taken whole goes.took told in
    answers_by old new answer goes.taken split.rest whole left_new split.joined split.still goes.goes

-- a record, the end, and a refusal for the reader
pub goes_record : (old new : Reading) (given : NgRecord) (left_old left_new : Option (List ℕ))
    → Goes old.walk new.walk (Ok (Some given)) left_old left_new → new.refused ≡ None → TakesRecord old new given left_old left_new
goes_record old new given left_old left_new goes fresh = record { taken = goes.taken; took = goes.took; goes = goes.goes; fresh = fresh }

pub goes_blocks : (old new : Reading) (left_old left_new : Option (List ℕ))
    → Goes old.walk new.walk (Ok None) left_old left_new → new.refused ≡ None → TakesBlocks old new left_old left_new
goes_blocks old new left_old left_new goes fresh = record { taken = goes.taken; took = goes.took; goes = goes.goes.0; fresh = fresh }

shows_by : (old new : Walk) (why : NgFault) (taken : List ℕ) (left : Option (List ℕ)) → GoesBy old new (Err why) taken left → ShowsRefusal why (next_of old taken)
shows_by old new fault.NotPcapng taken left goes = goes.0
shows_by old new (fault.Truncated at) taken left goes = goes.0
shows_by old new (fault.BadBlock at) taken left goes = goes.0
shows_by old new (fault.LinkType at link) taken left goes = goes.0
shows_by old new (fault.TooLong at len) taken left goes = goes.0
shows_by old new fault.TooMany taken left goes = goes.0
shows_by old new fault.Failed taken left goes = goes
shows_by old new fault.NoMemory taken left goes = goes

pub goes_none : (old : Reading) (new : Walk) (why : NgFault) (left_old left_new : Option (List ℕ))
    → Goes old.walk new (Err why) left_old left_new → TakesNone old why left_old left_new
goes_none old new why left_old left_new goes =
    record { taken = goes.taken; took = goes.took; shows = shows_by old.walk new why goes.taken left_new goes.goes }

-- a block that is skipped lies below the last place, and the next one after it
pub skipped_moves : (walk after : Walk) (left left_after : Option (List ℕ)) → Shows (step_of walk) after (Ok read.Skipped) left left_after → (walk.at < after.at) × (walk.at < last_place)
skipped_moves walk after left left_after shown =
    ((skips_on walk (shown.taken ++ []) after [] (shown.shows [])).0, skips_near walk (shown.taken ++ []) after [] (shown.shows []))

-- where nothing is open, nothing was taken, and nothing is open
pub still_unopened : (old new : Option Files) (left_old left_new : Option (List ℕ)) (taken : List ℕ) → new ≡ old → left_old ≡ before taken left_new → IsUnopened old left_old → IsUnopened new left_new
unfolding before
still_unopened None new left_old left_new taken same took unopened = absurd unopened
still_unopened (Some files) new left_old None taken same took unopened = subst (λ (contents : Option Files). IsUnopened contents None) (sym same) refl
still_unopened (Some files) new left_old (Some left) taken same took unopened =
    let never : None ≡ Some (taken ++ left) = sym unopened ∙ took in
    cc

pub err_nothing : (why : NgFault) → IsAtEnd (Err why) → IsNothing (Err why)
err_nothing fault.Failed ends = tt
err_nothing why ends = absurd ends

-- a record, or none, for the reader
pub takes_by : (old new : Reading) (answer : Option NgRecord) (left_old left_new : Option (List ℕ)) → Goes old.walk new.walk (Ok answer) left_old left_new → new.refused ≡ None
    → IfSome answer (λ given. TakesRecord old new given left_old left_new)
takes_by old new None left_old left_new goes fresh = tt
takes_by old new (Some given) left_old left_new goes fresh = goes_record old new given left_old left_new goes fresh

pub ended_by : (old new : Reading) (answer : Option NgRecord) (left_old left_new : Option (List ℕ)) → Goes old.walk new.walk (Ok answer) left_old left_new → new.refused ≡ None
    → IfNone answer (TakesBlocks old new left_old left_new)
ended_by old new None left_old left_new goes fresh = goes_blocks old new left_old left_new goes fresh
ended_by old new (Some given) left_old left_new goes fresh = tt

pub none_refused : (refused : Option NgFault) → ((why : NgFault) → refused ≡ Some why → ⊥) → refused ≡ None
none_refused None not_some = refl
none_refused (Some why) not_some = absurd (not_some why refl)
