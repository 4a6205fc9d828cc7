-- Where a capture comes from: a file of the host, or a seed.
--
-- To try it on: the source of `snort -c r -r p` is the file `p`, and a run opens it once where it is a
-- savefile, and twice where it begins otherwise; that of `snort -c r --generate 5 --seed 7` is made of the
-- seed 7 with 5 packets, and a run opens nothing.
use Rattle.std.specs.Prelude.{◌≡◌, ℕ, List, [], Option, Some, None, ⊤}
use Rattle.edge_io.specs.Files.{Files, Lacks}
use Rattle.command_words.specs.CommandLine.{Run}
use Rattle.snort_engine.specs.declared.plan.CaptureSource.{CaptureSource}
use Rattle.snort_engine.specs.declared.plan.CaptureSource.TheVariants.{File, Made}
use Rattle.snort_engine.specs.Course.{Plan, Way, Goes, Makes}
use Rattle.snort_engine.specs.Steps.Reader.{OpensSo}

-- the name of the file; empty where there is none
abbrev pub source_name : CaptureSource → List ℕ
source_name (File name) = name.now
source_name (Made seed count) = []

-- the capture is made
abbrev pub IsMade : CaptureSource → Type 0
IsMade (File name) = ⊥
IsMade (Made seed count) = ⊤

-- where a run that the words ask for has its capture from, if from anywhere
abbrev pub IsSourceFor : Run → Option CaptureSource → Type 0
IsSourceFor wanted None = (wanted.generate ≡ None) × (wanted.capture ≡ None)
IsSourceFor wanted (Some (File name)) = (wanted.generate ≡ None) × (wanted.capture ≡ Some name.now)
IsSourceFor wanted (Some (Made seed count)) = (wanted.generate ≡ Some count) × (wanted.seed ≡ seed)

-- the way of a plan for a capture of this source
abbrev pub way_from : CaptureSource → Plan → Way
way_from (File name) plan = Goes plan
way_from (Made seed count) plan = Makes plan seed count

-- the host's files are told, and lack the capture of this way
abbrev pub LacksCapture : Option Files → Way → Type 0
LacksCapture told (Goes plan) = Lacks told plan.source
LacksCapture told way = ⊥

-- the host's files are told, and lack the file of this source
abbrev pub LacksSource : Option Files → CaptureSource → Type 0
LacksSource told (File name) = Lacks told name.now
LacksSource told (Made seed count) = ⊥

-- how often a capture was opened on this way
abbrev pub OpensOn : Option Files → Way → Type 0 → ℕ → ℕ → Type 0
OpensOn told (Goes plan) failed old new = OpensSo told plan.source failed old new
OpensOn told way failed old new = new ≡ old
