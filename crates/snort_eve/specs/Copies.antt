-- A file that is copied as lines, piece by piece, whatever form of input it has.
--
-- What was written is the lines that the bytes gave which came, or a beginning of them where a write failed. By files that
-- agree with what a host answered, the bytes that came are the front of the file.
-- To try it on: of a file of records that a fault cuts in its last piece, the lines are a beginning of those of the whole.
use Rattle.std.specs.Prelude.{◌≡◌, ℕ, ◌^◌, ◌≤◌, ◌⊎◌, List, ◌++◌, length, Option, Some, Result, IsErrOf}
use Rattle.edge_io.specs.Told.{before, grown, NothingLeft, Rose}
use Rattle.edge_io.specs.declared.host.Host.{Ghosts as HostOf}
use Rattle.edge_io.specs.Files.{Files}
use Rattle.snort_eve.specs.Forms.{HasBegun, IsLast, Meaning}
use Rattle.snort_eve.specs.declared.form.Ending.{Ending}
use Rattle.snort_eve.specs.declared.copy.CopyStop.{CopyStop}
use Rattle.snort_eve.specs.declared.copy.CopyStop.TheVariants.{Unread, Unwritten}

-- ---- what is written

-- lines were written of which this holds
pub record Tells (old new : Option (List ℕ)) (Holds : List ℕ → Type 0) : Type 0 where
  pub wrote : List ℕ
  pub holds : Holds wrote
  pub told : new ≡ grown old wrote

-- nothing or a beginning of the lines of a piece
abbrev pub BreaksIn : (List ℕ → List ℕ → Type 0) → Meaning → List ℕ → List ℕ → Type 0
BreaksIn was means piece wrote =
    (bytes earlier : List ℕ) → was bytes earlier → HasBegun means bytes earlier
    → HasBegun means (bytes ++ piece) (earlier ++ wrote)

-- nothing or a beginning of the last lines
abbrev pub BreaksLast : (List ℕ → List ℕ → Type 0) → Type 0 → Meaning → List ℕ → Type 0
BreaksLast came foreign means wrote =
    (bytes earlier more : List ℕ) → came bytes earlier → HasBegun means bytes earlier → IsLast foreign more
    → means.begins (bytes ++ more) (earlier ++ wrote)

-- ---- what is read

-- a file has more bytes than can be counted, by all files that agree
abbrev pub IsLong : (Files → Type 0) → (Files → Option (List ℕ)) → Type 0
IsLong agrees from = (files : Files) → agrees files → (bytes : List ℕ) → from files ≡ Some bytes → 2 ^ 64 ≤ length bytes

-- these bytes came between two states of a host, by all files that agree in the end
abbrev pub Took : (Files → Type 0) → (Files → Option (List ℕ)) → (Files → Option (List ℕ)) → List ℕ → Type 0
Took agrees from to bytes = (files : Files) → agrees files → from files ≡ before bytes (to files)

-- nothing is left, by all files that agree
abbrev pub IsAtEnd : (Files → Type 0) → (Files → Option (List ℕ)) → Type 0
IsAtEnd agrees to = (files : Files) → agrees files → NothingLeft (to files)

-- no byte is left, or what follows makes no difference
abbrev pub IsOver : Type 0 → (Files → Type 0) → (Files → Option (List ℕ)) → Type 0
IsOver foreign agrees to = foreign ⊎ IsAtEnd agrees to

-- a host was only read from: its files stay, and those that agree with it agreed before
pub record Stays {H : Type 0} (g : HostOf H) (old new : H) : Type 0 where
  pub same_contents : g.contents new ≡ g.contents old
  pub earlier : (files : Files) → g.agrees new files → g.agrees old files

-- ---- how far the copying is

-- which bytes may have come with which lines, by which files, and what of these is left; how many bytes were read, and what
-- was written
pub record Point : Type 1 where
  pub came : List ℕ → List ℕ → Type 0
  pub agrees : Files → Type 0
  pub left : Files → Option (List ℕ)
  pub read : ℕ
  pub written : Option (List ℕ)

abbrev pub point : (List ℕ → List ℕ → Type 0) → (Files → Type 0) → (Files → Option (List ℕ)) → ℕ → Option (List ℕ) → Point
point came agrees left read written =
    record { came = came; agrees = agrees; left = left; read = read; written = written }

-- bytes came since the beginning, and their lines were written
pub record Comes (means : Meaning) (from : Files → Option (List ℕ)) (begun : Option (List ℕ)) (here : Point) : Type 0 where
  pub taken : List ℕ
  pub took : Took here.agrees from here.left taken
  pub wrote : List ℕ
  pub come : here.came taken wrote
  pub parts : HasBegun means taken wrote
  pub told : here.written ≡ grown begun wrote
  pub read_is : here.read ≡ length taken

-- a beginning of the lines of the open file was written, by all files that agree
pub record Stops (means : Meaning) (agrees : Files → Type 0) (from : Files → Option (List ℕ)) (old new : Option (List ℕ)) :
    Type 0 where
  pub wrote : List ℕ
  pub told : new ≡ grown old wrote
  pub are : (files : Files) → agrees files → (bytes : List ℕ) → from files ≡ Some bytes → means.begins bytes wrote

-- or it was copied to its end
pub record Copies (means : Meaning) (agrees : Files → Type 0) (from : Files → Option (List ℕ)) (old new : Option (List ℕ))
    (ending : Ending) : Type 0 where
  pub wrote : List ℕ
  pub told : new ≡ grown old wrote
  pub are : (files : Files) → agrees files → (bytes : List ℕ) → from files ≡ Some bytes → means.ends bytes wrote ending

-- wherever the copying began: it goes on from one point to another; it stops behind a point; it can't count further
abbrev pub GoesOn : Meaning → Point → Point → Type 0
GoesOn means here next =
    (from : Files → Option (List ℕ)) (begun : Option (List ℕ)) → Comes means from begun here → Comes means from begun next

abbrev pub StopsAfter : Meaning → Point → (Files → Type 0) → Option (List ℕ) → Type 0
StopsAfter means here agrees new =
    (from : Files → Option (List ℕ)) (begun : Option (List ℕ)) → Comes means from begun here
    → Stops means agrees from begun new

abbrev pub IsLongAfter : Meaning → Point → (Files → Type 0) → Type 0
IsLongAfter means here agrees =
    (from : Files → Option (List ℕ)) (begun : Option (List ℕ)) → Comes means from begun here → IsLong agrees from

-- ---- faults

-- a read that failed raised its count, a write that failed its own, and nothing else did
pub record Counts {A : Type 0} (answer : Result A CopyStop) (reads reads_now writes writes_now : ℕ) : Type 0 where
  pub unread : IsErrOf answer Unread → Rose reads reads_now
  pub unwritten : IsErrOf answer Unwritten → Rose writes writes_now
  pub quiet : (IsErrOf answer Unread → ⊥) → reads_now ≡ reads
  pub quiet_alerts : (IsErrOf answer Unwritten → ⊥) → writes_now ≡ writes
