-- What a reader of a pcapng capture stands for, and how its answers follow from the bytes of the file.
--
-- A reader has walked over some blocks; or it has refused, and answers that refusal from then on. Its
-- answers are those of `Blocks`, but that memory may lack and the host may fail.
-- To try it on: a reader of a file with one section header, of 28 bytes, is at 28 and has no interface;
-- where 28 such bytes follow and no more, it answers that no record is left, and is at 56.
use Rattle.std.specs.Prelude.{◌≡◌, ℕ, List, ◌++◌, Option, Some, None, Result, Ok, Err, ⊤}
use Rattle.edge_io.specs.Told.{before}
use Rattle.edge_io.specs.Files.{Files, IsOpened}
use Rattle.pcapng_input.specs.declared.capture.NgRecord.{NgRecord}
use Rattle.pcapng_input.specs.declared.capture.NgFault.{NgFault}
use Rattle.pcapng_input.specs.declared.capture.NgFault.TheVariants as fault
use Rattle.pcapng_input.specs.declared.walk.Walk.{Walk}
use Rattle.pcapng_input.specs.Steps.{HoldsNone}
use Rattle.pcapng_input.specs.declared.step.BlockRead.{BlockRead}
use Rattle.pcapng_input.specs.declared.step.BlockRead.TheVariants as read
use Rattle.pcap_input.specs.Cut.{Ending, Clean, Refused}
use Rattle.pcapng_input.specs.Blocks.{Step, Stops, Skips, opening, Next, Ends, Follows, next_of}

-- a reader: how far it has walked, and what it has refused
pub record Reading : Type 0 where
  pub walk : Walk
  pub refused : Option NgFault

-- a reader that has refused nothing
abbrev pub reader_at : Walk → Reading
reader_at walk = record { walk = walk; refused = None }

-- the answer is what the first block gives, unless memory lacked or the host failed
abbrev pub Opens : Result Reading NgFault → Step → Type 0
Opens (Ok reader) step = (more : List ℕ) × (step ≡ Skips reader.walk more) × (reader.refused ≡ None)
Opens (Err fault.Failed) step = ⊤
Opens (Err fault.NoMemory) step = ⊤
Opens (Err why) step = step ≡ Stops (Refused why)

-- what the first block's bytes, or fewer, show: where it is read they are exactly it, whatever follows
abbrev pub ShowsHead : Result Reading NgFault → List ℕ → Type 0
ShowsHead (Ok reader) taken = (more : List ℕ) → opening (taken ++ more) ≡ Skips reader.walk more
ShowsHead (Err fault.Failed) taken = HoldsNone (opening taken)
ShowsHead (Err fault.NoMemory) taken = HoldsNone (opening taken)
ShowsHead (Err why) taken = opening taken ≡ Stops (Refused why)

-- some bytes were taken off the front of what the name held, and they show the answer
pub record TakesHead (contents : Option Files) (name : List ℕ) (answer : Result Reading NgFault)
    (left : Option (List ℕ)) : Type 0 where
  pub whole : Option (List ℕ)
  pub opened : IsOpened contents name whole
  pub taken : List ℕ
  pub took : whole ≡ before taken left
  pub shows : ShowsHead answer taken

-- the faults of a first block, and that memory lacked or the host failed
abbrev pub IsOfHead : NgFault → Type 0
IsOfHead fault.NotPcapng = ⊤
IsOfHead (fault.Truncated at) = at ≡ 0
IsOfHead (fault.BadBlock at) = at ≡ 0
IsOfHead (fault.LinkType at link) = ⊥
IsOfHead (fault.TooLong at len) = ⊥
IsOfHead fault.TooMany = ⊥
IsOfHead fault.Failed = ⊤
IsOfHead fault.NoMemory = ⊤

-- a first block is skipped, or refused so
abbrev pub IsHeadAnswer : Result BlockRead NgFault → Type 0
IsHeadAnswer (Ok read.End) = ⊥
IsHeadAnswer (Ok read.Skipped) = ⊤
IsHeadAnswer (Ok (read.Record given)) = ⊥
IsHeadAnswer (Err why) = IsOfHead why

-- the answer is what comes next, unless memory lacked or the host failed
abbrev pub Answers : Result (Option NgRecord) NgFault → Next → Type 0
Answers (Ok None) next = next ≡ Ends Clean
Answers (Ok (Some given)) next = (walk : Walk) × ((rest : List ℕ) × (next ≡ Follows given walk rest))
Answers (Err fault.NoMemory) next = ⊤
Answers (Err fault.Failed) next = ⊤
Answers (Err why) next = next ≡ Ends (Refused why)

-- exactly the bytes up to the end of the record's block were taken: whatever follows them, that record
-- comes first, and after it the reader goes on with what follows
pub record TakesRecord (old new : Reading) (given : NgRecord) (left_old left_new : Option (List ℕ)) : Type 0 where
  pub taken : List ℕ
  pub took : left_old ≡ before taken left_new
  pub goes : (more : List ℕ) → next_of old.walk (taken ++ more) ≡ Follows given new.walk more
  pub fresh : new.refused ≡ None

-- only blocks that are skipped were taken: whatever follows them, the reader goes on with it
pub record TakesBlocks (old new : Reading) (left_old left_new : Option (List ℕ)) : Type 0 where
  pub taken : List ℕ
  pub took : left_old ≡ before taken left_new
  pub goes : (more : List ℕ) → next_of old.walk (taken ++ more) ≡ next_of new.walk more
  pub fresh : new.refused ≡ None

-- these bytes alone show the refusal; where memory lacked or the host failed, they hold no record
abbrev pub ShowsRefusal : NgFault → Next → Type 0
ShowsRefusal fault.NoMemory next = (ending : Ending NgFault) × (next ≡ Ends ending)
ShowsRefusal fault.Failed next = (ending : Ending NgFault) × (next ≡ Ends ending)
ShowsRefusal why next = next ≡ Ends (Refused why)

-- no record is whole within the bytes that were taken, and they show the refusal
pub record TakesNone (reader : Reading) (why : NgFault) (left_old left_new : Option (List ℕ)) : Type 0 where
  pub taken : List ℕ
  pub took : left_old ≡ before taken left_new
  pub shows : ShowsRefusal why (next_of reader.walk taken)

-- what a call on a walk says of what comes next by the bytes that it took, and where the walk then is
abbrev pub GoesBy : Walk → Walk → Result (Option NgRecord) NgFault → List ℕ → Option (List ℕ) → Type 0
GoesBy old new (Ok None) taken left =
    ((more : List ℕ) → next_of old (taken ++ more) ≡ next_of new more)
    × ((rest : List ℕ) → left ≡ Some rest → next_of old (taken ++ rest) ≡ Ends Clean)
GoesBy old new (Ok (Some given)) taken left = (more : List ℕ) → next_of old (taken ++ more) ≡ Follows given new more
GoesBy old new (Err fault.Failed) taken left = (ending : Ending NgFault) × (next_of old taken ≡ Ends ending)
GoesBy old new (Err fault.NoMemory) taken left = (ending : Ending NgFault) × (next_of old taken ≡ Ends ending)
GoesBy old new (Err why) taken left =
    (next_of old taken ≡ Ends (Refused why)) × ((rest : List ℕ) → left ≡ Some rest
    → next_of old (taken ++ rest) ≡ Ends (Refused why))

pub record Goes (old new : Walk) (answer : Result (Option NgRecord) NgFault) (left_old left_new : Option (List ℕ)) : Type 0 where
  pub taken : List ℕ
  pub took : left_old ≡ before taken left_new
  pub goes : GoesBy old new answer taken left_new

-- the walk has come so far over blocks that are skipped
pub record HasPassed (old new : Walk) (left_old left_new : Option (List ℕ)) : Type 0 where
  pub taken : List ℕ
  pub took : left_old ≡ before taken left_new
  pub goes : (more : List ℕ) → next_of old (taken ++ more) ≡ next_of new more

-- no record is left, or the host failed
abbrev pub IsNothing : Result (Option NgRecord) NgFault → Type 0
IsNothing (Ok None) = ⊤
IsNothing (Ok (Some given)) = ⊥
IsNothing (Err fault.Failed) = ⊤
IsNothing (Err why) = ⊥
