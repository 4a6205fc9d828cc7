-- A form of input: how its bytes come piece by piece, and give lines.
--
-- What has come is a relation of the bytes so far and of the lines that they gave; each form of input has its own, and says
-- how bytes end that have certain lines, and which lines are a beginning of those that bytes have.
-- To try it on: of records of Unified2 an event gives no line before its packet has come, or something else, or the end.
use Rattle.std.specs.Prelude.{◌≡◌, ℕ, ◌⊎◌, List, [], ◌++◌, length}
use Rattle.snort_eve.specs.declared.form.Ending.{Ending}

-- what a form of input says of bytes: that they have these lines and end so; that lines are a beginning of theirs
pub record Meaning : Type 1 where
  pub ends : List ℕ → List ℕ → Ending → Type 0
  pub begins : List ℕ → List ℕ → Type 0

-- a text begins with another one
pub record BeginsWith (text front : List ℕ) : Type 0 where
  pub rest : List ℕ
  pub is : text ≡ front ++ rest

-- lines are a beginning of those that bytes have, whatever follows these
abbrev pub HasBegun : Meaning → List ℕ → List ℕ → Type 0
HasBegun means bytes wrote = (more : List ℕ) → means.begins (bytes ++ more) wrote

-- lines were added of which this holds
pub record Adds (old new : List ℕ) (Holds : List ℕ → Type 0) : Type 0 where
  pub lines : List ℕ
  pub holds : Holds lines
  pub added : new ≡ old ++ lines

-- a piece gives these lines, and each beginning of them is one of the lines of all bytes
pub record Gives (before now : List ℕ → List ℕ → Type 0) (means : Meaning) (piece lines : List ℕ) : Type 0 where
  pub goes : (bytes wrote : List ℕ) → before bytes wrote → now (bytes ++ piece) (wrote ++ lines)
  pub parts : (bytes wrote part : List ℕ) → before bytes wrote → BeginsWith lines part
      → HasBegun means (bytes ++ piece) (wrote ++ part)

-- nothing follows, or it makes no difference
abbrev pub IsLast : Type 0 → List ℕ → Type 0
IsLast foreign more = foreign ⊎ (more ≡ [])

-- at the end, behind so many bytes, these are the last lines
pub record Closes (came : List ℕ → List ℕ → Type 0) (foreign : Type 0) (means : Meaning) (read : ℕ) (ending : Ending)
    (lines : List ℕ) : Type 0 where
  pub whole : (bytes wrote more : List ℕ) → came bytes wrote → IsLast foreign more → read ≡ length bytes
      → means.ends (bytes ++ more) (wrote ++ lines) ending
  pub parts : (bytes wrote more part : List ℕ) → came bytes wrote → IsLast foreign more → BeginsWith lines part
      → means.begins (bytes ++ more) (wrote ++ part)
