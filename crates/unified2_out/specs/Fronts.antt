-- What is at the front of bytes: a kind with a body, and the record that these are.
--
-- A step of the reading: no list of records is spoken of here (`Reading`).
-- To try it on: at the front of 00 00 00 63 00 00 00 02 61 62 63 are the kind 99 and the body 61 62,
-- which are the record of that kind with these bytes; 63 is left.
use Rattle.std.specs.Prelude.{◌≡◌, ℕ, ◌^◌, ◌<◌, ◌≤◌, List, [], ◌∷◌, ◌++◌, length}
use Rattle.edge_io.specs.declared.address.Addr.{Addr}
use Rattle.unified2_out.specs.declared.record.U2Event.{U2Event}
use Rattle.unified2_out.specs.declared.record.U2.{U2}
use Rattle.unified2_out.specs.Records.{address_bytes, event_body, frame_text, unified2_text, kind_of, body_of, most_body_bytes, IsInRange, FitsEvent}
use Rattle.unified2_out.specs.Reading.{IsRecord}

-- the bytes begin with the frame of this kind and this body
pub record IsFrontFrame (bytes : List ℕ) (kind : ℕ) (body : List ℕ) : Type 0 where
  pub kind_fits : kind < 256 ^ 4
  pub short : length body ≤ most_body_bytes
  pub rest : List ℕ
  pub is : bytes ≡ frame_text kind body ++ rest

-- the bytes begin with no frame
abbrev pub HasNoFrame : List ℕ → Type 0
HasNoFrame bytes = (kind : ℕ) (body : List ℕ) → IsFrontFrame bytes kind body → ⊥

-- a record of this kind with this body
pub record IsRecordOf (kind : ℕ) (body : List ℕ) (entry : U2) : Type 0 where
  pub is : IsRecord entry
  pub kind_is : kind_of entry ≡ kind
  pub body_is : body_of entry ≡ body

-- no record has this kind and this body
abbrev pub IsOfNoRecord : ℕ → List ℕ → Type 0
IsOfNoRecord kind body = (entry : U2) → IsRecordOf kind body entry → ⊥

-- an event between these addresses, whose other numbers the words and the tail of its body are
pub record IsEventOf (words : List ℕ) (src dst : Addr) (tail : List ℕ) (event : U2Event) : Type 0 where
  pub src_is : event.src ≡ src
  pub dst_is : event.dst ≡ dst
  pub body_is : event_body event ≡ words ++ address_bytes src ++ address_bytes dst ++ tail
  pub fits : IsInRange src → IsInRange dst → FitsEvent event

-- the bytes begin with a record, whose text has this many bytes
pub record IsFrontRecord (bytes : List ℕ) (size : ℕ) (entry : U2) : Type 0 where
  pub is : IsRecord entry
  pub size_is : length (unified2_text entry) ≡ size
  pub rest : List ℕ
  pub begins : bytes ≡ unified2_text entry ++ rest

-- the bytes begin with no record
abbrev pub HasNoRecord : List ℕ → Type 0
HasNoRecord bytes = (size : ℕ) (entry : U2) → IsFrontRecord bytes size entry → ⊥

-- the record that the bytes begin with was added to a list
pub record AddsFront (bytes : List ℕ) (old new : List U2) (size : ℕ) : Type 0 where
  pub entry : U2
  pub front : IsFrontRecord bytes size entry
  pub added : new ≡ old ++ entry ∷ []
