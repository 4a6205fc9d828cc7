-- What the calls of a reader, one after another, give of a capture: its records and its ending.
--
-- A call is told of by what its contract says, and by no more. A capture is opened, and the next record is
-- asked for until none is left, the answer is a refusal, or as many records were given as a limit says. The
-- law is that this is what the capture's bytes hold (`ng_records`), where they are told.
-- To try it on: of the section header in `Blocks` and one byte more, `open` gives a reader at 28, and the first
-- call of `next` the refusal Truncated at 28: no record, and that ending. So it is under any limit but 0, under
-- which nothing is asked for, and the ending is clean.
use Rattle.std.specs.Prelude.{◌≡◌, ℕ, ◌<◌, List, [], ◌∷◌, ◌++◌, length, Option, Some, None, Result, Ok, Err, IfOk, IfSome, IsErrOf, ⊤, ◌⊎◌}
use Rattle.edge_io.specs.Files.{Files}
use Rattle.pcapng_input.specs.declared.capture.NgRecord.{NgRecord}
use Rattle.pcapng_input.specs.declared.capture.NgFault.{NgFault}
use Rattle.pcapng_input.specs.declared.capture.NgFault.TheVariants as fault
use Rattle.pcap_input.specs.Cut.{Ending, Clean, Refused, Cut}
use Rattle.pcapng_input.specs.Blocks.{opening, next_of, ng_records}
use Rattle.pcap_input.specs.Reader.{Tells}
use Rattle.pcapng_input.specs.Reader.{Reading, Opens, TakesHead, Answers, TakesRecord}

-- ---- one call

-- a call of `open` for this name: its answer, and what is left of the capture then
pub record IsOpenCall (contents : Option Files) (name : List ℕ) (answer : Result Reading NgFault)
    (left : Option (List ℕ)) : Type 0 where
  pub gives : (bytes : List ℕ) → Tells contents name bytes → Opens answer (opening bytes)
  pub takes : TakesHead contents name answer left ⊎ (IsErrOf answer fault.Failed × (left ≡ None))

-- a call of `next`: the reader before and after it, its answer, and what was left of the capture and is left
pub record IsNextCall (old new : Reading) (answer : Result (Option NgRecord) NgFault)
    (left_old left_new : Option (List ℕ)) : Type 0 where
  pub gives : old.refused ≡ None → (rest : List ℕ) → left_old ≡ Some rest → Answers answer (next_of old.walk rest)
  pub takes : IfOk answer (λ given. IfSome given (λ r. TakesRecord old new r left_old left_new))

-- a refusal for what the capture holds: not that the host failed, nor that memory lacked
abbrev pub IsOfBytes : NgFault → Type 0
IsOfBytes fault.Failed = ⊥
IsOfBytes fault.NoMemory = ⊥
IsOfBytes why = ⊤

-- this answer of `next` is this ending
abbrev pub IsEnding : Result (Option NgRecord) NgFault → Ending NgFault → Type 0
IsEnding (Ok None) ending = ending ≡ Clean
IsEnding (Ok (Some given)) ending = ⊥
IsEnding (Err why) ending = IsOfBytes why × (ending ≡ Refused why)

-- ---- calls one after another

-- Calls of `next` gave these records: the reader and what was left before the first of them, and after the last.
pub data HasGiven (first : Reading) (left_first : Option (List ℕ)) : List NgRecord → Reading → Option (List ℕ) → Type 0 where
  -- there was no call,
  none : HasGiven first left_first [] first left_first
  -- or after the others one that gave a record
  one_more : {given : List NgRecord} {old new : Reading} {left_old left_new : Option (List ℕ)} {last : NgRecord}
      → HasGiven first left_first given old left_old → IsNextCall old new (Ok (Some last)) left_old left_new
      → HasGiven first left_first (given ++ last ∷ []) new left_new

-- A capture was opened, and calls of `next` gave these records: where the reader and what is left are then.
pub record HasRead (contents : Option Files) (name : List ℕ) (given : List NgRecord) (reader : Reading)
    (left : Option (List ℕ)) : Type 0 where
  pub first : Reading
  pub left_first : Option (List ℕ)
  pub opened : IsOpenCall contents name (Ok first) left_first
  pub gave : HasGiven first left_first given reader left

-- ---- the end

-- one more record may be asked for after `count` records, where there is a limit
abbrev pub IsBelow : Option ℕ → ℕ → Type 0
IsBelow None count = ⊤
IsBelow (Some limit) count = count < limit

-- a call of `next` gave this ending
pub record IsLastCall (reader : Reading) (left : Option (List ℕ)) (ending : Ending NgFault) : Type 0 where
  pub new : Reading
  pub left_new : Option (List ℕ)
  pub answer : Result (Option NgRecord) NgFault
  pub call : IsNextCall reader new answer left left_new
  pub ends : IsEnding answer ending

-- a capture was read up to this: as many records as the limit says were given, which is a clean ending, or
-- one more call gave the ending
pub record ReadsCut (contents : Option Files) (name : List ℕ) (limit : Option ℕ) (cut : Cut NgRecord NgFault) : Type 0 where
  pub reader : Reading
  pub left : Option (List ℕ)
  pub read : HasRead contents name cut.records reader left
  pub ended : ((limit ≡ Some (length cut.records)) × (cut.ending ≡ Clean))
      ⊎ (IsBelow limit (length cut.records) × IsLastCall reader left cut.ending)

-- what came of reading a capture: the refusal of its first block, or its records and its ending
abbrev pub Reads : Option Files → List ℕ → Option ℕ → Result (Cut NgRecord NgFault) NgFault → Type 0
Reads contents name limit (Err why) = (left : Option (List ℕ)) × IsOpenCall contents name (Err why) left × IsOfBytes why
Reads contents name limit (Ok cut) = ReadsCut contents name limit cut

-- ---- the laws

-- what came of reading a capture whose bytes are told is what they hold, for every limit
abbrev pub ReadsAll : Type 0
ReadsAll = (contents : Option Files) (name bytes : List ℕ) (limit : Option ℕ) (outcome : Result (Cut NgRecord NgFault) NgFault)
    → Tells contents name bytes → Reads contents name limit outcome → ng_records bytes limit ≡ outcome

-- these are the first of the records that the bytes hold
abbrev pub AreFirst : List NgRecord → List ℕ → Type 0
AreFirst given bytes =
    (cut : Cut NgRecord NgFault) × (more : List NgRecord) × (ng_records bytes None ≡ Ok cut) × (cut.records ≡ given ++ more)

-- whatever comes of it, also where the host fails or memory lacks: the records that were given are the first
-- of those that the bytes hold
abbrev pub ReadsFirst : Type 0
ReadsFirst = (contents : Option Files) (name bytes : List ℕ) (given : List NgRecord) (reader : Reading) (left : Option (List ℕ))
    → Tells contents name bytes → HasRead contents name given reader left → AreFirst given bytes
