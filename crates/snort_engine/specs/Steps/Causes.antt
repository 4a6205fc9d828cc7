-- What the counts of faults say of how the work on a capture ended, both ways.
--
-- A fault is answered only where it was met, and where none is answered none was met: so none is made up, and none is
-- passed over. To try it on: where the sink fails at the second batch, the work ends as WriteFault, and the sink's count
-- rose; where it ends as Done both counts are as before.
use Rattle.std.specs.Prelude.{◌≡◌, ℕ, ◌≤◌, ◌⊎◌, true}
use Rattle.edge_io.specs.Told.{Rose}
use Rattle.edge_io.specs.declared.host.Host.{Ghosts as HostOf}
use Rattle.edge_io.specs.declared.sink.Sink.{Ghosts as SinkOf}
use Rattle.snort_engine.specs.declared.status.Status.{Status}
use Rattle.snort_engine.specs.declared.status.Status.TheVariants as status
use Rattle.snort_engine.specs.Steps.Stop.{is_uncut, is_written}

-- how often the host failed, and the sink of alerts
pub record Faults : Type 0 where
  pub host : ℕ
  pub alerts : ℕ

-- the faults of a host and of a sink
abbrev pub faults_of : {H A : Type 0} → HostOf H → SinkOf A → H → A → Faults
faults_of h a host alerts = record { host = h.faults host; alerts = a.faults alerts }

-- work ended with this status: as WriteFault only where the sink's count rose, and as HostFault only for this cause
pub record HasCauses (cause : Type 0) (old new : Faults) (ended : Status) : Type 0 where
  pub write_fault : ended ≡ status.WriteFault → Rose old.alerts new.alerts
  pub read_fault : ended ≡ status.HostFault → cause
  -- the host's count stays where the work was not cut short. After a fault of reading, writing the lines of what was read
  -- may fail, or lack memory, and then that is told
  pub quiet : is_uncut ended ≡ true → new.host ≡ old.host
  -- the sink's count stays where all was written. Where memory is lacking for reading, a fault of writing the lines of what
  -- was read isn't told
  pub quiet_alerts : is_written ended ≡ true → new.alerts ≡ old.alerts
  pub later_alerts : old.alerts ≤ new.alerts

-- records were read with this status, and their capture was closed with that one: the closing adds a fault of the sink,
-- whose count was so before and after it, or none
pub record ClosesWith (old new : ℕ) (read ended : Status) : Type 0 where
  pub write_fault : ended ≡ status.WriteFault → (read ≡ status.WriteFault) ⊎ Rose old new
  pub read_fault : ended ≡ status.HostFault → read ≡ status.HostFault
  pub uncut : is_uncut ended ≡ true → is_uncut read ≡ true
  pub written : is_written ended ≡ true → is_written read ≡ true
  pub quiet_alerts : is_written ended ≡ true → new ≡ old
  pub later_alerts : old ≤ new
