-- What the inner steps of the reader promise: the file header, and the bytes after a record header.
--
-- They are the parts of `Reader`'s promises, each about the piece that one step reads.
-- To try it on: after a header that says 5, a step that took 5 bytes has taken the record's bytes.
use Rattle.std.specs.Prelude.{◌≡◌, ℕ, ◌<◌, ◌≤◌, List, ◌++◌, length, Option, Result, Ok, Err, ⊤}
use Rattle.edge_io.specs.Told.{before, NothingLeft}
use Rattle.pcap_input.specs.declared.capture.CaptureHead.{CaptureHead}
use Rattle.pcap_input.specs.declared.capture.Record.{Record}
use Rattle.pcap_input.specs.declared.capture.CaptureFault.{CaptureFault}
use Rattle.pcap_input.specs.declared.capture.CaptureFault.TheVariants as fault
use Rattle.pcap_input.specs.Cut.{Refused}
use Rattle.pcap_input.specs.Savefile.{file_header, head_of, Next, Ends, Follows, next_after}
use Rattle.pcap_input.specs.Reader.{Shows}

-- the answer is the head or its refusal, unless the host failed
abbrev pub Reads : Result CaptureHead CaptureFault → Result CaptureHead CaptureFault → Type 0
Reads (Ok head) said = said ≡ Ok head
Reads (Err fault.Failed) said = ⊤
Reads (Err why) said = said ≡ Err why

-- at most the bytes of a file header were taken, and the answer is theirs
pub record TakesFileHeader (answer : Result CaptureHead CaptureFault) (old new : Option (List ℕ)) : Type 0 where
  pub taken : List ℕ
  pub took : old ≡ before taken new
  pub few : length taken ≤ file_header
  pub answers : Reads answer (head_of taken)

-- the answer is what comes next, unless memory lacked or the host failed
abbrev pub GivesOne : Result Record CaptureFault → Next → Type 0
GivesOne (Ok given) next = (rest : List ℕ) × (next ≡ Follows given rest)
GivesOne (Err fault.NoMemory) next = ⊤
GivesOne (Err fault.Failed) next = ⊤
GivesOne (Err why) next = next ≡ Ends (Refused why)

-- exactly the captured bytes after this header were taken
pub record TakesBytes (head : CaptureHead) (number place : ℕ) (header : List ℕ) (given : Record)
    (old new : Option (List ℕ)) : Type 0 where
  pub taken : List ℕ
  pub took : old ≡ before taken new
  pub size : length taken ≡ length given.bytes
  pub goes : (more : List ℕ) → next_after head number place header (taken ++ more) ≡ Follows given more

-- fewer than the captured bytes after this header were taken, and they show the refusal
pub record TakesFewer (head : CaptureHead) (number place : ℕ) (header : List ℕ) (why : CaptureFault)
    (old new : Option (List ℕ)) : Type 0 where
  pub taken : List ℕ
  pub took : old ≡ before taken new
  pub shows : Shows why (next_after head number place header taken)

-- what a read of captured bytes that stopped early says: memory lacked, the host failed, or nothing is left
abbrev pub Stops : ℕ → CaptureFault → Option (List ℕ) → Type 0
Stops place fault.NotPcap new = ⊥
Stops place (fault.LinkType link_type) new = ⊥
Stops place (fault.Truncated at) new = (at ≡ place) × NothingLeft new
Stops place (fault.TooLong at len) new = ⊥
Stops place fault.TooMany new = ⊥
Stops place fault.Failed new = ⊤
Stops place fault.NoMemory new = ⊤

-- fewer than `len` bytes were taken, for this reason
pub record TakesLess (place len : ℕ) (why : CaptureFault) (old new : Option (List ℕ)) : Type 0 where
  pub taken : List ℕ
  pub took : old ≡ before taken new
  pub less : length taken < len
  pub stops : Stops place why new
