-- A Unified2 file that was loaded, or was not: its lines, and how it stops a run.
use Rattle.std.proofs.Common.{◌≡◌, ℕ, ◌≤◌, ◌⊎◌, List, Option, Some, Result, Ok, Err, IfErr, length, refl, sym, ap, subst, inl, inr}
use Rattle.std.specs.FinMap.{get}
use Rattle.edge_io.specs.Files.{Files, IsLonger, Lacks}
use Rattle.edge_io.specs.declared.host.LoadFault.{LoadFault}
use Rattle.edge_io.specs.declared.host.LoadFault.TheVariants as load
use Rattle.alert_lines.specs.RecordLines.{AreLinesOf}
use Rattle.snort_engine.specs.declared.status.Status.TheVariants as status
use Rattle.snort_engine.specs.declared.stop.RunStop.{RunStop}
use Rattle.snort_engine.specs.declared.stop.RunStop.TheVariants as stop
use Rattle.snort_engine.specs.Course.{Stops, Lists, IsFileWay, AreListed, most_file_bytes}
use Rattle.snort_engine.specs.Steps.Stop.{stop_text}
use Rattle.snort_engine.specs.Steps.Preparing.{HasCause, ListsBytes, ListsFile, StopsAtFile, stops}

-- the lines of bytes are told
pub are_listed : (bytes lines : List ℕ) → AreLinesOf bytes lines → AreListed bytes (Lists lines)
are_listed bytes lines told = record { entries = told.entries; are = told.are; is = ap Lists told.is }

-- a file that was loaded
pub file_listed : (name bytes : List ℕ) (files : Files) (rose : Type 0) (outcome : Result (List ℕ) RunStop) → get files name ≡ Some bytes → length bytes ≤ most_file_bytes
    → ListsBytes bytes outcome → ListsFile name files rose outcome
unfolding stop_text
file_listed name bytes files rose (Ok lines) is short listed =
    subst (λ (contents : Option (List ℕ)). IsFileWay name contents (Lists lines)) (sym is) (inr (short, inl listed))
file_listed name bytes files rose (Err (stop.BadUnified2 place)) is short bad =
    subst (λ (contents : Option (List ℕ)). IsFileWay name contents (stops (stop.BadUnified2 place))) (sym is) (inr (short, inr (record { place = place; bad = bad; is = refl })))
file_listed name bytes files rose (Err stop.NoMemory) is short listed = cc
file_listed name bytes files rose (Err why) is short listed = absurd listed

pub listed_cause : (bytes : List ℕ) (rose : Type 0) (host : Option Files) (outcome : Result (List ℕ) RunStop) → ListsBytes bytes outcome → IfErr outcome (HasCause rose host)
listed_cause bytes rose host (Ok lines) listed = cc
listed_cause bytes rose host (Err (stop.BadUnified2 place)) bad = cc
listed_cause bytes rose host (Err stop.NoMemory) listed = cc
listed_cause bytes rose host (Err why) listed = absurd listed

-- a file that was not
pub file_unloaded : (name : List ℕ) (files : Files) (rose : Type 0) (fault : LoadFault) (why : RunStop) → StopsAtFile name fault why
    → (fault ≡ load.TooLarge → IsLonger (Some files) name most_file_bytes) → (fault ≡ load.Failed → rose ⊎ Lacks (Some files) name) → ListsFile name files rose (Err why)
unfolding stop_text
file_unloaded name files rose load.Failed (stop.CannotReadFile file) is longer failed = (is, failed refl)
file_unloaded name files rose load.TooLarge (stop.Refused message) is longer failed =
    let (bytes, holds, more) = longer refl in
    subst (λ (contents : Option (List ℕ)). IsFileWay name contents (stops (stop.Refused message))) (sym holds) (inl (more, ap (λ (text : List ℕ). Stops text status.Refused) is))
file_unloaded name files rose fault stop.NoMemory is longer failed = cc
file_unloaded name files rose fault why is longer failed = absurd is

pub unloaded_cause : (name : List ℕ) (host : Option Files) (rose : Type 0) (fault : LoadFault) (why : RunStop) → StopsAtFile name fault why
    → (fault ≡ load.Failed → rose ⊎ Lacks host name) → HasCause rose host why
unloaded_cause name host rose load.Failed (stop.CannotReadFile file) is failed = subst (λ (n : List ℕ). rose ⊎ Lacks host n) (sym is) (failed refl)
unloaded_cause name host rose load.TooLarge (stop.Refused message) is failed = cc
unloaded_cause name host rose fault stop.NoMemory is failed = cc
unloaded_cause name host rose fault why is failed = absurd is
