-- What the inner steps of the reader promise: a piece of a block, its last four bytes, and a whole block.
--
-- A stage is what comes next (`Blocks`), as a function of the bytes that are not taken yet. A step takes
-- some of them and answers; what it says of the stage it says by the bytes that it took.
-- To try it on: where `known walk block` says what comes after a block's first eight bytes, and a step
-- took the block's other bytes and answered that it is skipped, then whatever follows them, that stage is
-- `Skips`.
use Rattle.std.specs.Prelude.{◌≡◌, ℕ, ◌<◌, ◌≤◌, ◌==◌, Bool, List, [], ◌++◌, length, Option, Some, Result, Ok, Err, ⊤}
use Rattle.edge_io.specs.Told.{before, NothingLeft}
use Rattle.pcap_input.specs.Savefile.{number_at}
use Rattle.pcapng_input.specs.declared.capture.NgFault.{NgFault}
use Rattle.pcapng_input.specs.declared.capture.NgFault.TheVariants as fault
use Rattle.pcapng_input.specs.declared.block.Block.{Block}
use Rattle.pcapng_input.specs.declared.content.BlockContent.{BlockContent}
use Rattle.pcapng_input.specs.declared.content.BlockContent.TheVariants as content
use Rattle.pcapng_input.specs.declared.walk.Walk.{Walk}
use Rattle.pcapng_input.specs.declared.step.BlockRead.{BlockRead}
use Rattle.pcapng_input.specs.declared.step.BlockRead.TheVariants as read
use Rattle.pcap_input.specs.Savefile.{longest, most_records}
use Rattle.pcap_input.specs.Cut.{Clean}
use Rattle.pcapng_input.specs.Blocks.{last_place, inner_length, Step, Stops, Skips, Gives, refused, step_of}

-- why a read of a piece of the block at this place stopped early: nothing is left, or the host failed, or
-- memory lacked
abbrev pub IsCutShort : ℕ → NgFault → Option (List ℕ) → Type 0
IsCutShort place fault.NotPcapng new = ⊥
IsCutShort place (fault.Truncated at) new = (at ≡ place) × NothingLeft new
IsCutShort place (fault.BadBlock at) new = ⊥
IsCutShort place (fault.LinkType at link) new = ⊥
IsCutShort place (fault.TooLong at len) new = ⊥
IsCutShort place fault.TooMany new = ⊥
IsCutShort place fault.Failed new = ⊤
IsCutShort place fault.NoMemory new = ⊤

-- fewer than `len` bytes were taken, for this reason
pub record TakesLess (place len : ℕ) (why : NgFault) (old new : Option (List ℕ)) : Type 0 where
  pub taken : List ℕ
  pub took : old ≡ before taken new
  pub less : length taken < len
  pub cut : IsCutShort place why new

-- exactly `len` bytes were taken
pub record TakesBytes (len : ℕ) (old new : Option (List ℕ)) : Type 0 where
  pub taken : List ℕ
  pub took : old ≡ before taken new
  pub size : length taken ≡ len

-- `len` bytes were taken and then four, which are this number or not
pub record TakesLast (swapped : Bool) (total len : ℕ) (same : Bool) (old new : Option (List ℕ)) : Type 0 where
  pub passed : List ℕ
  pub last : List ℕ
  pub took : old ≡ before (passed ++ last) new
  pub size : length passed ≡ len
  pub four : length last ≡ 4
  pub tells : (number_at swapped 0 4 last == total) ≡ same

-- no record is in these bytes: they end a block before one is whole, or end with a block
abbrev pub HoldsNone : Step → Type 0
HoldsNone (Stops ending) = ⊤
HoldsNone (Skips after more) = more ≡ []
HoldsNone (Gives given after more) = ⊥

-- the bytes taken, and all that were left, have this ending
pub record EndsBy (stage : List ℕ → Step) (step : Step) (taken : List ℕ) (new : Option (List ℕ)) : Type 0 where
  pub shown : stage taken ≡ step
  pub told : (rest : List ℕ) → new ≡ Some rest → stage (taken ++ rest) ≡ step

-- what an answer, and where the walk then is, say of a stage by the bytes taken
abbrev pub ShowsBy : (List ℕ → Step) → Walk → Result BlockRead NgFault → List ℕ → Option (List ℕ) → Type 0
ShowsBy stage walk (Ok read.End) taken new =
    EndsBy stage (Stops Clean) taken new × ((more : List ℕ) → stage (taken ++ more) ≡ step_of walk more)
ShowsBy stage walk (Ok read.Skipped) taken new = (more : List ℕ) → stage (taken ++ more) ≡ Skips walk more
ShowsBy stage walk (Ok (read.Record given)) taken new = (more : List ℕ) → stage (taken ++ more) ≡ Gives given walk more
ShowsBy stage walk (Err fault.Failed) taken new = HoldsNone (stage taken)
ShowsBy stage walk (Err fault.NoMemory) taken new = HoldsNone (stage taken)
ShowsBy stage walk (Err why) taken new = EndsBy stage (refused why) taken new

-- some bytes were taken, and this is what they show
pub record Shows (stage : List ℕ → Step) (walk : Walk) (answer : Result BlockRead NgFault)
    (old new : Option (List ℕ)) : Type 0 where
  pub taken : List ℕ
  pub took : old ≡ before taken new
  pub shows : ShowsBy stage walk answer taken new

-- a packet's captured bytes are within its block, and are no more than a record may have
abbrev pub FitsIn : Block → BlockContent → Type 0
FitsIn block content.Skipped = ⊤
FitsIn block (content.Interface link snaplen) = ⊤
FitsIn block (content.Packet packet) = (packet.captured ≤ inner_length block) × (packet.captured ≤ longest)

-- no packet
abbrev pub IsPlain : BlockContent → Type 0
IsPlain content.Skipped = ⊤
IsPlain (content.Interface link snaplen) = ⊤
IsPlain (content.Packet packet) = ⊥

-- no byte was left, or the host failed
abbrev pub IsAtEnd : Result BlockRead NgFault → Type 0
IsAtEnd (Ok read.End) = ⊤
IsAtEnd (Ok read.Skipped) = ⊥
IsAtEnd (Ok (read.Record given)) = ⊥
IsAtEnd (Err fault.Failed) = ⊤
IsAtEnd (Err why) = ⊥

-- another record may be given, and another block read
pub record HasRoom (walk : Walk) : Type 0 where
  pub few : walk.number < most_records
  pub near : walk.at < last_place
