-- What an outcome says of the counts of faults: which faults it tells, and which counts stay.
use Rattle.std.proofs.Common.{◌≡◌, ℕ, ◌≤◌, Bool, true, false, List, Result, Ok, Err, refl, ap, subst, ◌∙◌, inl, inr, ⊎_elim, arith}
use Rattle.std.specs.Prelude.{◌≢◌, ◌⊎◌, OnOk, IfErr, IsErrOf}
use Rattle.edge_io.specs.Told.{Rose}
use Rattle.edge_io.specs.declared.host.LoadFault.{LoadFault}
use Rattle.edge_io.specs.declared.host.LoadFault.TheVariants as load
use Rattle.pcap_input.specs.declared.capture.CaptureFault.{CaptureFault}
use Rattle.pcap_input.specs.declared.capture.CaptureFault.TheVariants as savefile
use Rattle.pcapng_input.specs.declared.capture.NgFault.{NgFault}
use Rattle.pcapng_input.specs.declared.capture.NgFault.TheVariants as blocks
use Rattle.snort_setup.specs.declared.stop.SetupStop.{SetupStop}
use Rattle.snort_setup.specs.declared.stop.SetupStop.TheVariants as setup
use Rattle.snort_setup.specs.Answers.{OnReadyOrRefused}
use Rattle.alert_lines.specs.declared.fault.WriteFault.{WriteFault}
use Rattle.alert_lines.specs.declared.fault.WriteFault.TheVariants as write
use Rattle.snort_engine.specs.declared.batch.BatchEnd.{BatchEnd}
use Rattle.snort_engine.specs.declared.batch.BatchEnd.TheVariants.{More, End, Fault}
use Rattle.pcapng_input.specs.declared.fault.ReadFault.{ReadFault}
use Rattle.pcapng_input.specs.declared.fault.ReadFault.TheVariants as fault
use Rattle.snort_engine.specs.declared.status.Status.{Status}
use Rattle.snort_engine.specs.declared.status.Status.TheVariants as status
use Rattle.snort_engine.specs.declared.stop.RunStop.{RunStop}
use Rattle.snort_engine.specs.declared.stop.RunStop.TheVariants as stop
use Rattle.snort_engine.specs.Answer.{fault_status}
use Rattle.snort_engine.specs.Ending.{IsUncut}
use Rattle.pcapng_input.specs.Faults.{of_savefile, of_blocks}
use Rattle.snort_engine.specs.Steps.Batch.{more_of}
use Rattle.snort_engine.specs.Steps.Causes.{ClosesWith, Faults, HasCauses}
use Rattle.snort_engine.specs.Steps.Preparing.{StopsAtFile}
use Rattle.snort_engine.specs.Steps.Stop.{setup_stop, stop_status, outcome_status, is_uncut, is_written, write_stop, IsWriteStop, WritesQuietly}
use Rattle.snort_engine.proofs.Prefixes.{rose_on, rose_since}

-- ---- statuses

pub status_uncut : (ended : Status) → IsUncut ended → is_uncut ended ≡ true
status_uncut ended uncut =
    ⊎_elim
    (λ (done : ended ≡ status.Done). ap is_uncut done)
    (λ (more : (ended ≡ status.Refused) ⊎ (ended ≡ status.BadCapture)).
    ⊎_elim (λ (refused : ended ≡ status.Refused). ap is_uncut refused) (λ (bad : ended ≡ status.BadCapture). ap is_uncut bad) more)
    uncut

-- what isn't cut short wrote all
pub uncut_written : (ended : Status) → is_uncut ended ≡ true → is_written ended ≡ true
uncut_written status.Done uncut = refl
uncut_written status.Refused uncut = refl
uncut_written status.BadCapture uncut = refl
uncut_written status.HostFault uncut = refl
uncut_written status.WriteFault uncut = absurd cc
uncut_written status.NoMemory uncut = absurd cc

-- ---- stops

-- what was written whole met no fault
pub written_quiet : (outcome : Result (Unit {0}) RunStop) (old new : ℕ) → IfErr outcome IsWriteStop → OnOk outcome (new ≡ old) → WritesQuietly outcome old new
written_quiet (Ok done) old new kind quiet written = quiet
written_quiet (Err stop.CannotWrite) old new kind quiet written = absurd cc
written_quiet (Err why) old new kind quiet written = absurd kind

-- the host didn't fail at a file before the capture
pub setup_uncut : (A : Type 0) (holds : Type 0) (why : SetupStop) → OnReadyOrRefused {A = A} holds (Err why) → is_uncut (stop_status (setup_stop why)) ≡ true → holds
setup_uncut A holds (setup.Refused message) so uncut = so
setup_uncut A holds (setup.CannotRead name) so uncut = absurd cc
setup_uncut A holds setup.NoMemory so uncut = absurd cc

-- where the host failed at a Unified2 file, the run was cut short
failed_uncut : (name : List ℕ) (why : RunStop) → StopsAtFile name load.Failed why → is_uncut (stop_status why) ≡ true → ⊥
failed_uncut name (stop.CannotReadFile file) so uncut = cc
failed_uncut name stop.NoMemory so uncut = cc
failed_uncut name why so uncut = absurd so

pub file_uncut : (A : Type 0) (name : List ℕ) (fault : LoadFault) (why : RunStop) → StopsAtFile name fault why → is_uncut (stop_status why) ≡ true → IsErrOf {T = A} (Err fault) load.Failed → ⊥
file_uncut A name fault why so uncut is =
    let same : fault ≡ load.Failed = cc in
    failed_uncut name why (subst (λ (f : LoadFault). StopsAtFile name f why) same so) uncut

-- ---- causes of how the work on a capture ended

-- the status of a refusal, or of a host that failed
failed_only : (why : ReadFault) → fault_status why ≡ status.HostFault → why ≡ fault.Failed
failed_only fault.Failed is = refl
failed_only fault.NoMemory is = absurd cc
failed_only why is = absurd cc

no_write_fault : (why : ReadFault) → fault_status why ≡ status.WriteFault → ⊥
no_write_fault fault.Failed is = cc
no_write_fault fault.NoMemory is = cc
no_write_fault why is = cc

uncut_unfailed : (A : Type 0) (why : ReadFault) → is_uncut (fault_status why) ≡ true → IsErrOf {T = A} (Err why) fault.Failed → ⊥
uncut_unfailed A why uncut is =
    let same : why ≡ fault.Failed = cc in
    let never : false ≡ true = subst (λ (f : ReadFault). is_uncut (fault_status f) ≡ true) same uncut in
    cc

-- the work went well, and no count rose
pub caused_done : (cause : Type 0) (old new : Faults) → new.host ≡ old.host → new.alerts ≡ old.alerts → HasCauses cause old new status.Done
caused_done cause old new same same_alerts =
    record { write_fault = λ is. absurd cc; read_fault = λ is. absurd cc; quiet = λ uncut. same; quiet_alerts = λ written. same_alerts; later_alerts = omega (arith, same_alerts) }

-- memory was lacking
pub caused_lacking : (cause : Type 0) (old new : Faults) → old.alerts ≤ new.alerts → HasCauses cause old new status.NoMemory
caused_lacking cause old new later =
    record { write_fault = λ is. absurd cc; read_fault = λ is. absurd cc; quiet = λ uncut. absurd cc; quiet_alerts = λ written. absurd cc; later_alerts = later }

-- lines were not all written
pub caused_unwritten : (cause : Type 0) (old new : Faults) (why : WriteFault) → (why ≡ write.Unwritten → Rose old.alerts new.alerts) → old.alerts ≤ new.alerts
    → HasCauses cause old new (stop_status (write_stop why))
caused_unwritten cause old new write.NoMemory counted later = caused_lacking cause old new later
caused_unwritten cause old new write.Unwritten counted later =
    record { write_fault = λ is. counted refl; read_fault = λ is. absurd cc; quiet = λ uncut. absurd cc; quiet_alerts = λ written. absurd cc; later_alerts = later }

-- the capture is refused, or can't be read
pub caused_fault : (A : Type 0) (cause : Type 0) (old new : Faults) (why : ReadFault) → (IsErrOf {T = A} (Err why) fault.Failed → cause)
    → ((IsErrOf {T = A} (Err why) fault.Failed → ⊥) → new.host ≡ old.host) → new.alerts ≡ old.alerts → HasCauses cause old new (fault_status why)
caused_fault A cause old new why failed quiet same_alerts = record {
  write_fault = λ is. absurd (no_write_fault why is);
  read_fault = λ is. failed (ap (λ (f : ReadFault). Err f) (failed_only why is));
  quiet = λ uncut. quiet (uncut_unfailed A why uncut);
  quiet_alerts = λ written. same_alerts;
  later_alerts = omega (arith, same_alerts);
}

-- a batch was read up to what was reached, and its lines were written
pub caused_reached : (cause : Type 0) (old new : Faults) (reached : BatchEnd) → (reached ≡ Fault fault.Failed → cause) → (reached ≢ Fault fault.Failed → new.host ≡ old.host)
    → new.alerts ≡ old.alerts → HasCauses cause old new (outcome_status (more_of reached))
caused_reached cause old new More failed quiet same_alerts = caused_done cause old new (quiet (λ is. cc)) same_alerts
caused_reached cause old new End failed quiet same_alerts = caused_done cause old new (quiet (λ is. cc)) same_alerts
caused_reached cause old new (Fault why) failed quiet same_alerts =
    caused_fault Bool cause old new why
    (λ is. let same : why ≡ fault.Failed = cc in failed (ap (λ (f : ReadFault). Fault f) same))
    (λ unfailed. quiet (λ is. let same : why ≡ fault.Failed = cc in unfailed (ap (λ (f : ReadFault). Err f) same)))
    same_alerts

-- what came before met no fault
pub caused_since : (part cause : Type 0) (old middle new : Faults) (ended : Status) → HasCauses part middle new ended → (part → cause) → middle.host ≡ old.host → middle.alerts ≡ old.alerts
    → HasCauses cause old new ended
caused_since part cause old middle new ended caused since same same_alerts = record {
  write_fault = λ is. subst (λ (n : ℕ). Rose n new.alerts) same_alerts (caused.write_fault is);
  read_fault = λ is. since (caused.read_fault is);
  quiet = λ uncut. caused.quiet uncut ∙ same;
  quiet_alerts = λ written. caused.quiet_alerts written ∙ same_alerts;
  later_alerts = let later = caused.later_alerts in omega (arith, same_alerts, later);
}

-- a capture that is made was read
pub caused_unseen : (cause : Type 0) (host : ℕ) (old new : Faults) (ended : Status) → HasCauses cause old new ended → (cause → ⊥)
    → HasCauses ⊥ (record { host = host; alerts = old.alerts }) (record { host = host; alerts = new.alerts }) ended
caused_unseen cause host old new ended caused never = record {
  write_fault = caused.write_fault;
  read_fault = λ is. never (caused.read_fault is);
  quiet = λ uncut. refl;
  quiet_alerts = caused.quiet_alerts;
  later_alerts = caused.later_alerts;
}

-- what wasn't to be closed ends as it did, and so does what was closed whole
pub closes_same : (old new : ℕ) (ended : Status) → new ≡ old → ClosesWith old new ended ended
closes_same old new ended same =
    record { write_fault = λ is. inl is; read_fault = λ is. is; uncut = λ uncut. uncut; written = λ written. written; quiet_alerts = λ written. same; later_alerts = omega (arith, same) }

-- the lines of the last flows were not all written
pub closes_unwritten : (old new : ℕ) (read : Status) (why : WriteFault) → (why ≡ write.Unwritten → Rose old new) → old ≤ new → ClosesWith old new read (stop_status (write_stop why))
closes_unwritten old new read write.Unwritten counted later =
    record {
      write_fault = λ is. inr (counted refl);
      read_fault = λ is. absurd cc;
      uncut = λ uncut. absurd cc;
      written = λ written. absurd cc;
      quiet_alerts = λ written. absurd cc;
      later_alerts = later;
    }
closes_unwritten old new read write.NoMemory counted later =
    record { write_fault = λ is. absurd cc; read_fault = λ is. absurd cc; uncut = λ uncut. absurd cc; written = λ written. absurd cc; quiet_alerts = λ written. absurd cc; later_alerts = later }

-- records were read, and their capture was closed
pub caused_closed : (cause : Type 0) (old middle new : Faults) (read ended : Status) → HasCauses cause old middle read → ClosesWith middle.alerts new.alerts read ended → new.host ≡ middle.host
    → HasCauses cause old new ended
caused_closed cause old middle new read ended caused closed same =
    let before = caused.later_alerts in
    let after = closed.later_alerts in
    record {
      write_fault = λ is. ⊎_elim
          (λ (earlier : read ≡ status.WriteFault). rose_on old.alerts middle.alerts new.alerts (caused.write_fault earlier) after)
          (λ (rose : Rose middle.alerts new.alerts). rose_since old.alerts middle.alerts new.alerts before rose)
          (closed.write_fault is);
      read_fault = λ is. caused.read_fault (closed.read_fault is);
      quiet = λ uncut. same ∙ caused.quiet (closed.uncut uncut);
      quiet_alerts = λ written. closed.quiet_alerts written ∙ caused.quiet_alerts (closed.written written);
      later_alerts = omega (arith, before, after);
    }

-- ---- faults of either reader

-- what isn't a failure of the host in an answer, isn't one of the reader
pub savefile_unfailed : (A B : Type 0) (why : CaptureFault) (so : ReadFault) → so ≡ of_savefile why → (IsErrOf {T = B} (Err so) fault.Failed → ⊥) → IsErrOf {T = A} (Err why) savefile.Failed → ⊥
savefile_unfailed A B why so is unfailed failed =
    let same : why ≡ savefile.Failed = cc in
    unfailed (ap (λ (f : ReadFault). Err f) (is ∙ ap of_savefile same))

pub blocks_unfailed : (A B : Type 0) (why : NgFault) (so : ReadFault) → so ≡ of_blocks why → (IsErrOf {T = B} (Err so) fault.Failed → ⊥) → IsErrOf {T = A} (Err why) blocks.Failed → ⊥
blocks_unfailed A B why so is unfailed failed =
    let same : why ≡ blocks.Failed = cc in
    unfailed (ap (λ (f : ReadFault). Err f) (is ∙ ap of_blocks same))

-- a file that begins as no savefile does was read
pub otherwise_unfailed : (A : Type 0) (why : CaptureFault) → why ≡ savefile.NotPcap → IsErrOf {T = A} (Err why) savefile.Failed → ⊥
otherwise_unfailed A why other failed =
    let same : savefile.NotPcap ≡ savefile.Failed = cc in
    cc
