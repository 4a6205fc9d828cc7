-- What is seen of a run over the system, by files that agree with what its host answered.
--
-- To try it on: where the host loaded "a" with 1, 2 and the alert stream took 3, then by files with 1, 2 under "a" these are
-- the files, nothing is left of a capture, and the alerts are 3.
use Rattle.std.specs.Prelude.{ℕ, List, Some}
use Rattle.edge_io.specs.Files.{Files}
use Rattle.edge_io.specs.Answers.{left_after, taken_of}
use Rattle.edge_io.specs.declared.heard_host.HeardHost.{HeardHost}
use Rattle.edge_io.specs.declared.heard_sink.HeardSink.{HeardSink}
use Rattle.edge_io.specs.declared.host.Host.{Ghosts as HostOf}
use Rattle.edge_io.specs.declared.pattern.Refusal.{Refusal}
use Rattle.option_eval.specs.Places.{Means}
use Rattle.snort_engine.specs.declared.status.Status.{Status}
use Rattle.snort_engine.specs.Outside.{Outside, by}
use Rattle.snort_engine.specs.Headline.{Headline}

-- the files are these, and what is left of the open capture is what they leave after the host's answers; the bytes
-- written are those that the streams took
abbrev pub seen_by : {R File Folder Out Err : Type 0} → Files → HeardHost R File Folder → HeardSink Out → HeardSink Err
    → List Refusal → Outside
seen_by files host alerts errors refusals = record {
  files = Some files;
  left = left_after host.heard.answers files;
  opens = host.host.opens;
  host_faults = host.host.faults;
  alerts = Some (taken_of alerts.heard.answers);
  alert_faults = alerts.sink.faults;
  errors = Some (taken_of errors.heard.answers);
  error_faults = errors.sink.faults;
  refusals = refusals;
}

-- the theorem on a run, by all files that agree, with what these show of it before and afterwards
unfoldable pub HeadlineByAgreeing : List (List ℕ) → Means → (Files → Type 0) → (Files → Outside) → (Files → Outside)
    → Status → Type 0
HeadlineByAgreeing words means agree before after ended =
    (files : Files) → agree files → Headline words means (before files) (after files) ended

-- the theorem on a run of any host, by all files that agree with what it answered: these are seen in its place
abbrev pub HeadlineByAnswers : {H : Type 0} → HostOf H → H → List (List ℕ) → Means → (HostOf H → Outside) → (HostOf H → Outside)
    → Status → Type 0
HeadlineByAnswers h host words means before after ended =
    HeadlineByAgreeing words means (h.agrees host) (λ files. before (by (Some files) h)) (λ files. after (by (Some files) h))
    ended
