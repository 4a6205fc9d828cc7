-- A host table that was not loaded, by files that agree with what the host answered.
use Rattle.std.proofs.Common.{◌≡◌, ℕ, ◌<◌, Bool, cond, List, length, Option, Some, Result, Err, refl, sym, ap, subst, ◌∙◌, inl, inr}
use Rattle.std.specs.Prelude.{◌⊎◌, codes}
use Rattle.std.proofs.lemmas.Bool.{lt-leb}
use Rattle.edge_io.specs.Files.{Files, Lacks, IsLonger, AsTold}
use Rattle.edge_io.specs.declared.host.LoadFault.{LoadFault}
use Rattle.edge_io.specs.declared.host.LoadFault.TheVariants as load
use Rattle.edge_io.proofs.Hosts.Seeing.{seen_lacks}
use Rattle.host_table.specs.Hosts.{hosts_of}
use Rattle.snort_setup.specs.declared.stop.SetupStop.{SetupStop}
use Rattle.snort_setup.specs.declared.stop.SetupStop.TheVariants as stop
use Rattle.snort_setup.specs.Texts.{error_line}
use Rattle.snort_setup.specs.Setup.{Refused, Lacks as LacksName, most_bytes, table_read, table_in, table_of}
use Rattle.snort_setup.specs.Stages.{StopsAtTable, TableGives}

-- an answer that is a fault
abbrev unloaded : LoadFault → Result (Unit {0}) LoadFault
unloaded fault = Err fault

-- a failure has its cause by files that agree
pub cause_agreed : (rose : Type 0) (old new : Option Files) (left : Option (List ℕ)) (agrees : Files → Type 0) (left_of : Files → Option (List ℕ)) (name : List ℕ) (files : Files)
    → AsTold new left agrees left_of → new ≡ old → agrees files → rose ⊎ Lacks old name → rose ⊎ Lacks (Some files) name
cause_agreed rose old new left agrees left_of name files law same agree (inl counted) = inl counted
cause_agreed rose old new left agrees left_of name files law same agree (inr lacks) =
    inr (seen_lacks new left agrees left_of name (Some files) law agree (subst (λ (h : Option Files). Lacks h name) (sym same) lacks))

-- how a table that was not loaded ends the setup
pub table_unloaded : (name : List ℕ) (files : Files) (rose : Type 0) (fault : LoadFault) (why : SetupStop) → (unloaded fault ≡ unloaded load.Failed → rose ⊎ Lacks (Some files) name)
    → (unloaded fault ≡ unloaded load.TooLarge → IsLonger (Some files) name most_bytes) → StopsAtTable name fault why → TableGives (Some name) files rose (Err why)
unfolding table_of
table_unloaded name files rose load.Failed (stop.Refused message) failed longer is = absurd is
table_unloaded name files rose load.Failed (stop.CannotRead asked) failed longer is = go (failed refl)
  where
    go : rose ⊎ Lacks (Some files) name → (table_of (Some name) files ≡ Err (LacksName asked)) ⊎ (rose × (Some name ≡ Some asked))
    go (inl counted) = inr (counted, ap Some (sym is))
    go (inr lacks) = inl (ap (table_in name) lacks ∙ ap (λ (n : List ℕ). Err (LacksName n)) (sym is))
table_unloaded name files rose load.Failed stop.NoMemory failed longer is = tt
table_unloaded name files rose load.TooLarge (stop.Refused message) failed longer is =
    let long = longer refl in
    let said = Err (Refused (error_line name 0 (codes "file is too large"))) in
    ap (table_in name) long.1 ∙ ap (λ (b : Bool). cond b (table_read name (hosts_of long.0)) said) (lt-leb (length long.0) most_bytes long.2)
    ∙ ap (λ (m : List ℕ). Err (Refused m)) (sym is)
table_unloaded name files rose load.TooLarge (stop.CannotRead asked) failed longer is = absurd is
table_unloaded name files rose load.TooLarge stop.NoMemory failed longer is = tt
table_unloaded name files rose load.NoMemory (stop.Refused message) failed longer is = let never : stop.Refused message ≡ stop.NoMemory = is in cc
table_unloaded name files rose load.NoMemory (stop.CannotRead asked) failed longer is = let never : stop.CannotRead asked ≡ stop.NoMemory = is in cc
table_unloaded name files rose load.NoMemory stop.NoMemory failed longer is = tt
