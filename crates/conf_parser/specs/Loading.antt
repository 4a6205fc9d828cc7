-- What the files that a host loads, or does not, say of a reading.
--
-- What may be seen of a host are files that give all that it answered, or, where it tells none, no files. Seen
-- files give what each load gave; where none are seen, there are some contents that the loads gave. So each
-- answer is that of the reading over some contents, which are those of the seen files, if there are any. A file
-- that is not loaded ends the reading: it is what the reading asks for over all contents that give the files
-- before it and lack this one.
-- To try it on: where a host tells the file `a` with the line `include b`, lacks `b`, and fails at nothing, the
-- reading of `a` asks for `b`, with `a` among the files.
use Rattle.std.specs.Prelude.{◌≡◌, ◌⊎◌, ℕ, zero, suc, ◌-◌, ◌<◌, ◌≤◌, List, Option, Some, None, Result, Ok, Err, ⊤, length, nat_le, nat_lt, if◌then◌else◌}
use Rattle.std.specs.FinMap.{get}
use Rattle.edge_io.specs.Files.{Files, Holds, Lacks, IsLonger}
use Rattle.edge_io.specs.declared.host.LoadFault.{LoadFault}
use Rattle.edge_io.specs.declared.host.LoadFault.TheVariants as load
use Rattle.net_lists.specs.Variables.{Variables}
use Rattle.conf_parser.specs.declared.line.LoadStop.{LoadStop}
use Rattle.conf_parser.specs.declared.line.LoadStop.TheVariants as stop
use Rattle.conf_parser.specs.declared.loaded.Loaded.{Loaded}
use Rattle.conf_parser.specs.declared.reading.Output.{Output}
use Rattle.conf_parser.specs.declared.reading.ReadSoFar.{ReadSoFar}
use Rattle.conf_parser.specs.declared.reading.Stopped.{Stopped}
use Rattle.conf_parser.specs.declared.reading.Stopped.TheVariants as stopped
use Rattle.conf_parser.specs.declared.reading.At.{At}
use Rattle.conf_parser.specs.declared.reading.Opened.{Opened}
use Rattle.conf_parser.specs.declared.line.ConfKind.TheVariants.{TooLarge}
use Rattle.conf_parser.specs.Lines.{content_lines}
use Rattle.conf_parser.specs.Reading.{Contents, Ended, Whole, Refused, Asks, Including, fault_at, file_count, read_with, with_file, most_bytes, lines_read, file_read, read_files}
use Rattle.conf_parser.specs.Loaded.{loaded_of}

-- these contents are those of the seen files, if there are any
abbrev pub Tells : Option Files → Contents → Type 0
Tells None contents = ⊤
Tells (Some files) contents = (number : ℕ) (name : List ℕ) → contents number name ≡ get files name

-- ---- while the reading goes on

-- two contents are the same for the files from one number on, below another
pub record AreSame (low high : ℕ) (seen contents : Contents) : Type 0 where
  pub at : (number : ℕ) (name : List ℕ) → low ≤ number → number < high → contents number name ≡ seen number name

-- One reading is another one, whatever the contents are beyond the files from one number on, below another,
-- whose contents are those that the host may have.
pub record Goes (host : Option Files) (low high : ℕ) (reading next : Contents → Ended) : Type 0 where
  pub seen : Contents
  pub tells : Tells host seen
  pub later : low ≤ high
  pub goes : (contents : Contents) → AreSame low high seen contents → reading contents ≡ next contents

-- a reading asks for this file, over all contents that lack it after the files that the host may have
pub record AsksFor (host : Option Files) (low : ℕ) (reading : Contents → Ended) (name : List ℕ) (output : Output) : Type 0 where
  pub seen : Contents
  pub tells : Tells host seen
  pub later : low ≤ length output.files
  pub asks : (contents : Contents) → AreSame low (length output.files) seen contents → contents (length output.files) name ≡ None
      → reading contents ≡ Asks name output

-- a reading stops so; want of memory is free
abbrev pub Stops : Option Files → ℕ → (Contents → Ended) → Stopped → Type 0
Stops host low reading stopped.NoMemory = ⊤
Stops host low reading (stopped.Refused fault output) = (high : ℕ) × Goes host low high reading (λ contents. Refused fault output)
Stops host low reading (stopped.Asks name output) = AsksFor host low reading name output

-- a reading goes on after what was read, or stops
abbrev pub GoesOn : {A : Type 0} → Option Files → ℕ → (A → ℕ) → (A → Contents → Ended) → (Contents → Ended) → Result A Stopped
    → Type 0
GoesOn host low count next reading (Ok x) = Goes host low (count x) reading (next x)
GoesOn host low count next reading (Err stop) = Stops host low reading stop

-- what was read gives the reading after it
abbrev pub whole_next : ReadSoFar → Contents → Ended
whole_next read contents = Whole read

-- a file that was not loaded has its cause: a fault was counted, or told files lack the name
abbrev pub HasCause : Type 0 → Option Files → Stopped → Type 0
HasCause rose host (stopped.Asks name output) = rose ⊎ Lacks host name
HasCause rose host stop = ⊤

-- unless a reading stops at a file that was not loaded, this holds
abbrev pub UnlessAsks : {A : Type 0} → Type 0 → Result A Stopped → Type 0
UnlessAsks holds (Err (stopped.Asks name output)) = ⊤
UnlessAsks holds result = holds

-- ---- one file

-- how the files are read that a line includes, where includes may nest this many times more below that line
abbrev pub inner : Contents → ℕ → Including
inner contents zero name at read = Whole read
inner contents (suc left) name at read = file_read contents left name at read

-- a file with these bytes, before its lines are read
abbrev pub opened_of : ℕ → List ℕ → ReadSoFar → List ℕ → Opened
opened_of left name read bytes = record {
  source = record { name = name; place = file_count read; depth = 16 - left };
  lines = content_lines bytes;
  read = read_with read.settings (with_file read.output name);
}

-- how many files were read with it
abbrev pub opened_count : Opened → ℕ
opened_count opened = file_count opened.read

-- the reading after the lines of a file
abbrev pub opened_next : ℕ → Opened → Contents → Ended
opened_next left opened contents = lines_read (inner contents left) opened.source opened.lines opened.read

-- what a load answers for a file: its bytes, or that it is too large; a failure and want of memory are free
abbrev pub LoadsFile : Option Files → List ℕ → Result (List ℕ) LoadFault → Type 0
LoadsFile seen name (Ok bytes) = Holds seen name bytes
LoadsFile seen name (Err load.Failed) = ⊤
LoadsFile seen name (Err load.TooLarge) = IsLonger seen name most_bytes
LoadsFile seen name (Err load.NoMemory) = ⊤

-- what was handed on before a file that is too large
abbrev pub output_before : At → List ℕ → Output → Output
output_before at name output = if nat_le 1 at.line then output else with_file output name

-- why a reading stops at a file that is too large; want of memory is free
abbrev pub StopsAtLarge : List ℕ → At → Output → Stopped → Type 0
StopsAtLarge name at output (stopped.Refused fault before) =
    (fault ≡ fault_at at TooLarge) × (before ≡ output_before at name output)
StopsAtLarge name at output stopped.NoMemory = ⊤
StopsAtLarge name at output (stopped.Asks other before) = ⊥

-- why a reading stops at a file that was not loaded
abbrev pub StopsAtFile : List ℕ → At → Output → LoadFault → Stopped → Type 0
StopsAtFile name at output load.Failed stop = stop ≡ stopped.Asks name output
StopsAtFile name at output load.TooLarge stop = StopsAtLarge name at output stop
StopsAtFile name at output load.NoMemory stop = stop ≡ stopped.NoMemory

-- ---- the whole

-- the files and the warnings that are handed out are those of the lines before
pub record AreHandedOut (output : Output) (out : Loaded) : Type 0 where
  pub files : out.files ≡ output.files
  pub warnings : out.warnings ≡ output.warnings

-- the reading was whole: the variables and what it gives
pub record IsWhole (ended : Ended) (vars : Variables) (out : Loaded) : Type 0 where
  pub read : ReadSoFar
  pub whole : ended ≡ Whole read
  pub vars_are : vars ≡ read.settings.vars
  pub out_is : out ≡ loaded_of read

-- what a loading answers and hands out, as its reading ends
abbrev pub Ends : {A : Type 0} → Ended → Result A LoadStop → Variables → Loaded → Type 0
Ends ended (Ok x) vars out = IsWhole ended vars out
Ends ended (Err (stop.Conf fault)) vars out = (output : Output) × (ended ≡ Refused fault output) × AreHandedOut output out
Ends ended (Err (stop.HostFailed name)) vars out = (output : Output) × (ended ≡ Asks name output) × AreHandedOut output out
Ends ended (Err stop.NoMemory) vars out = ⊤

-- the contents of the first files alone
abbrev pub first_files : ℕ → Contents → Contents
first_files count contents number name = if nat_lt number count then contents number name else None

-- the contents that a loading met: those of the files before the one that the host failed at
abbrev pub contents_met : {A : Type 0} → Result A LoadStop → Loaded → Contents → Contents
contents_met (Err (stop.HostFailed name)) out contents = first_files (length out.files) contents
contents_met result out contents = contents

-- a loading is the reading over contents that the host may have
pub record IsLoading {A : Type 0} (host : Option Files) (name : List ℕ) (before : Variables) (result : Result A LoadStop)
    (vars : Variables) (out : Loaded) : Type 0 where
  pub seen : Contents
  pub tells : Tells host seen
  pub ends : Ends (read_files (contents_met result out seen) name before) result vars out

-- Over files that are told, a loading answers as the reading over them ends; where a fault was counted, the host
-- may have failed before.
abbrev pub EndsUnlessFailed : {A : Type 0} → Type 0 → Ended → Result A LoadStop → Variables → Loaded → Type 0
EndsUnlessFailed rose ended (Err (stop.HostFailed name)) vars out =
    rose ⊎ Ends {A = Unit {0}} ended (Err (stop.HostFailed name)) vars out
EndsUnlessFailed rose ended result vars out = Ends ended result vars out

-- what a stopped reading answers, and hands out
abbrev pub HandsOut : Stopped → LoadStop → Loaded → Type 0
HandsOut (stopped.Refused fault output) answer out = (answer ≡ stop.Conf fault) × AreHandedOut output out
HandsOut (stopped.Asks name output) answer out = (answer ≡ stop.HostFailed name) × AreHandedOut output out
HandsOut stopped.NoMemory answer out = answer ≡ stop.NoMemory

-- HostFailed has its cause: a fault was counted, or told files lack the name
abbrev pub HasFailed : Type 0 → Option Files → LoadStop → Type 0
HasFailed rose host (stop.HostFailed name) = rose ⊎ Lacks host name
HasFailed rose host stop = ⊤

-- unless a loading ends with HostFailed, this holds
abbrev pub UnlessHostFailed : {A : Type 0} → Type 0 → Result A LoadStop → Type 0
UnlessHostFailed holds (Err (stop.HostFailed name)) = ⊤
UnlessHostFailed holds result = holds
