-- What is seen of the outside: of the host, of both sinks and of the maker of patterns.
--
-- A run is stated over what was seen before it and what is seen afterwards.
-- To try it on: a run that is refused for its words leaves the host and the alert sink as they were,
-- and `ERROR: command line` after the error bytes.
use Rattle.std.specs.Prelude.{◌≡◌, ℕ, ◌≤◌, ◌⊎◌, List, Option}
use Rattle.edge_io.specs.Told.{grown, Rose}
use Rattle.edge_io.specs.Files.{Files, left_by}
use Rattle.edge_io.specs.declared.host.Host.{Ghosts as HostOf}
use Rattle.edge_io.specs.declared.pattern.Refusal.{Refusal}
use Rattle.edge_io.specs.declared.sink.Sink.{Ghosts as SinkOf}
use Rattle.alert_lines.specs.Written.{WritesPart}

-- of the host: its files and what is left of the open capture, where they are told, how often a
-- capture was opened, and how many faults there were; of the two sinks: the bytes written, where they
-- are told, and how many faults there were; of the maker: what it refused
pub record Outside : Type 0 where
  pub files : Option Files
  pub left : Option (List ℕ)
  pub opens : ℕ
  pub host_faults : ℕ
  pub alerts : Option (List ℕ)
  pub alert_faults : ℕ
  pub errors : Option (List ℕ)
  pub error_faults : ℕ
  pub refusals : List Refusal

-- what is seen of a host, of the sinks of alerts and of errors, and of a maker that refused these
abbrev pub outside : {H A E : Type 0} → HostOf H → SinkOf A → SinkOf E → H → A → E → List Refusal → Outside
outside h a e host alerts errors refusals = record {
  files = h.contents host;
  left = h.left host;
  opens = h.opens host;
  host_faults = h.faults host;
  alerts = a.written alerts;
  alert_faults = a.faults alerts;
  errors = e.written errors;
  error_faults = e.faults errors;
  refusals = refusals;
}

-- a host as it is seen by these files, if any
abbrev pub by : {H : Type 0} → Option Files → HostOf H → HostOf H
by seen h = record h { contents = λ _. seen; left = λ host. left_by (h.left_of host) seen }

-- what is seen of the capture and the alert sink alone
pub record Work : Type 0 where
  pub left : Option (List ℕ)
  pub opens : ℕ
  pub host_faults : ℕ
  pub alerts : Option (List ℕ)

-- what is seen of a host and a sink of alerts
abbrev pub work : {H A : Type 0} → HostOf H → SinkOf A → H → A → Work
work h a host alerts = record { left = h.left host; opens = h.opens host; host_faults = h.faults host; alerts = a.written alerts }

-- the part of the outside that the work on a capture touches
abbrev pub work_of : Outside → Work
work_of seen = record { left = seen.left; opens = seen.opens; host_faults = seen.host_faults; alerts = seen.alerts }

-- the message was written, or a part of it where that sink's count rose
pub record TellsMessage (message : List ℕ) (old new : Option (List ℕ)) (rose : Type 0) : Type 0 where
  pub part : WritesPart old message new
  pub whole : (new ≡ grown old message) ⊎ rose

-- no count of faults rose, and the maker refused nothing
pub record NoFault (before after : Outside) : Type 0 where
  pub host : ¬ Rose before.host_faults after.host_faults
  pub alerts : ¬ Rose before.alert_faults after.alert_faults
  pub errors : ¬ Rose before.error_faults after.error_faults
  pub refusals : after.refusals ≡ before.refusals

-- no count fell
pub record NoCountFell (before after : Outside) : Type 0 where
  pub host : before.host_faults ≤ after.host_faults
  pub alerts : before.alert_faults ≤ after.alert_faults
  pub errors : before.error_faults ≤ after.error_faults
