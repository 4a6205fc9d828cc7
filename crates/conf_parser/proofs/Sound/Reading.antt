-- A whole reading gives a sound configuration.
use Rattle.std.proofs.Common.{◌≡◌, ℕ, List, Result, Ok, Err, sym, ap, subst}
use Rattle.std.specs.Prelude.{Option, OnOk}
use Rattle.edge_io.specs.Files.{Files}
use Rattle.net_lists.specs.Variables.{Variables}
use Rattle.net_lists.proofs.Steps.{Holds}
use Rattle.conf_parser.specs.declared.draft.Settings.{Settings}
use Rattle.conf_parser.specs.declared.given.Onward.{Onward}
use Rattle.conf_parser.specs.declared.line.ConfKind.{ConfKind}
use Rattle.conf_parser.specs.declared.line.LoadStop.{LoadStop}
use Rattle.conf_parser.specs.declared.loaded.Loaded.{Loaded}
use Rattle.conf_parser.specs.declared.reading.ReadSoFar.{ReadSoFar}
use Rattle.conf_parser.specs.Loading.{IsWhole, IsLoading}
use Rattle.conf_parser.specs.Reading.{Contents, Whole, read_files}
use Rattle.conf_parser.specs.Settings.{config_of}
use Rattle.conf_types.specs.Sound.{IsSound}
use Rattle.conf_parser.proofs.Readings.Keeping.{LinesKeep, whole-keeps}
use Rattle.conf_parser.proofs.Sound.Lines.{IsSoundDraft, Kept, first_draft-sound, config_of-sound, conf_line-sound}

-- settings whose draft is sound
abbrev pub HaveSoundDraft : Settings → Type 0
HaveSoundDraft settings = IsSoundDraft settings.draft

-- each line keeps a sound draft
pub lines-keep-sound : LinesKeep HaveSoundDraft
lines-keep-sound spot settings line after is sound = (subst (λ (r : Result Onward ConfKind). Holds Kept r) is (conf_line-sound settings sound spot line)).holds

-- the configuration of a whole reading
pub read_files-sound : (contents : Contents) (name : List ℕ) (variables : Variables) (read : ReadSoFar) → read_files contents name variables ≡ Whole read → IsSound (config_of read.settings.draft)
read_files-sound contents name variables read whole = config_of-sound read.settings.draft (whole-keeps HaveSoundDraft lines-keep-sound contents name variables read first_draft-sound whole)

-- what a whole reading hands out
pub whole-sound : (contents : Contents) (name : List ℕ) (before vars : Variables) (out : Loaded) → IsWhole (read_files contents name before) vars out → IsSound out.config
whole-sound contents name before vars out whole =
    subst IsSound (sym (ap (λ (o : Loaded). o.config) whole.out_is)) (read_files-sound contents name before whole.read whole.whole)

-- what a loading hands out
pub loading-sound : {A : Type 0} (host : Option Files) (name : List ℕ) (before : Variables) (result : Result A LoadStop)
    (vars : Variables) (out : Loaded)
    → IsLoading host name before result vars out
    → OnOk result (IsSound out.config)
loading-sound host name before (Ok x) vars out loading = whole-sound loading.seen name before vars out loading.ends
loading-sound host name before (Err stop) vars out loading = tt
