-- What is told is among what may be seen, and a cause by what is seen.
use Rattle.std.proofs.Common.{◌≡◌, ℕ, List, Option, refl, sym, subst, inl, inr}
use Rattle.std.specs.Prelude.{◌⊎◌}
use Rattle.edge_io.specs.Files.{Files, Lacks, AsTold, MaySee}
use Rattle.edge_io.specs.declared.host.LoadFault.{LoadFault}
use Rattle.edge_io.specs.declared.host.LoadFault.TheVariants as load
use Rattle.edge_io.proofs.Hosts.Seeing.{told_seen, seen_lacks}
use Rattle.conf_parser.specs.declared.reading.At.{At}
use Rattle.conf_parser.specs.declared.reading.Output.{Output}
use Rattle.conf_parser.specs.declared.reading.Stopped.{Stopped}
use Rattle.conf_parser.specs.declared.reading.Stopped.TheVariants as stopped
use Rattle.conf_parser.specs.Loading.{HasCause, StopsAtFile}
use Rattle.conf_parser.proofs.Readings.Opening.{unloaded}

-- what a host told before may be seen of it
pub told_before : (old new : Option Files) (left : Option (List ℕ)) (agrees : Files → Type 0) (left_of : Files → Option (List ℕ)) → AsTold new left agrees left_of → new ≡ old
    → MaySee new agrees old
told_before old new left agrees left_of law same = subst (MaySee new agrees) same (told_seen new left agrees left_of law)

-- a file that was not loaded has its cause by what is seen
pub seen_cause : (rose : Type 0) (old new : Option Files) (left : Option (List ℕ)) (agrees : Files → Type 0) (left_of : Files → Option (List ℕ)) (stop : Stopped) (seen : Option Files)
    → AsTold new left agrees left_of → new ≡ old → MaySee new agrees seen → HasCause rose old stop → HasCause rose seen stop
seen_cause rose old new left agrees left_of (stopped.Asks name output) seen law same may (inl counted) = inl counted
seen_cause rose old new left agrees left_of (stopped.Asks name output) seen law same may (inr lacks) =
    inr (seen_lacks new left agrees left_of name seen law may (subst (λ (h : Option Files). Lacks h name) (sym same) lacks))
seen_cause rose old new left agrees left_of (stopped.Refused fault output) seen law same may cause = tt
seen_cause rose old new left agrees left_of stopped.NoMemory seen law same may cause = tt

-- the cause of a stop at a file
pub fault_cause : (rose : Type 0) (host : Option Files) (name : List ℕ) (at : At) (output : Output) (fault : LoadFault)
    (stop : Stopped)
    → (unloaded fault ≡ unloaded load.Failed → rose ⊎ Lacks host name)
    → StopsAtFile name at output fault stop
    → HasCause rose host stop
fault_cause rose host name at output load.Failed stop failed is = subst (HasCause rose host) (sym is) (failed refl)
fault_cause rose host name at output load.NoMemory stop failed is = subst (HasCause rose host) (sym is) tt
fault_cause rose host name at output load.TooLarge stopped.NoMemory failed is = tt
fault_cause rose host name at output load.TooLarge (stopped.Refused fault before) failed is = tt
fault_cause rose host name at output load.TooLarge (stopped.Asks other before) failed is = absurd is
