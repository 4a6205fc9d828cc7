-- What a run tells on the error sink: its warnings, and the message of what stopped it.
--
-- Nothing is written to a sink that has failed once. To try it on: where the configuration `r` is lacking,
-- `ERROR: cannot read r` is told and the status is HostFault; where memory is lacking for that text,
-- `ERROR: no memory` and NoMemory.
use Rattle.std.specs.Prelude.{◌≡◌, ℕ, Bool, ◌&&◌, List, Option, Result, ◌⊎◌}
use Rattle.std.specs.Bool.{OnTrue, OnFalse}
use Rattle.edge_io.specs.Told.{grown}
use Rattle.alert_lines.specs.Written.{WritesPart}
use Rattle.snort_engine.specs.declared.status.Status.{Status}
use Rattle.snort_engine.specs.declared.status.Status.TheVariants as status
use Rattle.snort_engine.specs.declared.stop.RunStop.{RunStop}
use Rattle.snort_engine.specs.Steps.Stop.{is_whole, outcome_status, outcome_text}
use Rattle.snort_engine.specs.declared.counts.Counts.{Counts}
use Rattle.snort_engine.specs.Counts.{told_counts, with_counts}
use Rattle.snort_engine.specs.Messages.{no_memory_text}

-- a text was told, if the sink was well; it is well still where the whole text was written
pub record TellsOn (text : List ℕ) (well : Bool) (old new : Option (List ℕ)) (rose : Type 0) (still : Bool) : Type 0 where
  pub part : WritesPart old text new
  pub whole : OnTrue still (new ≡ grown old text)
  pub failed : OnTrue well (OnFalse still rose)
  pub silent : OnFalse well ((new ≡ old) × (still ≡ well))

-- a text was told last, if the sink was well
pub record TellsLast (text : List ℕ) (well : Bool) (old new : Option (List ℕ)) (rose : Type 0) : Type 0 where
  pub part : WritesPart old text new
  pub whole : OnTrue well ((new ≡ grown old text) ⊎ rose)
  pub silent : OnFalse well (new ≡ old)

-- the counts that are told of a capture: none where they aren't asked for, and none where the work on it
-- was cut short
abbrev pub counts_due : {A : Type 0} → Bool → Result A RunStop → Counts → Option Counts
counts_due counted outcome counts = told_counts (is_whole outcome && counted) counts

-- what is told of the outcome of a capture of this name, with what was counted
abbrev pub outcome_said : {A : Type 0} → List ℕ → Bool → Result A RunStop → Counts → List ℕ
outcome_said source counted outcome counts =
    with_counts (outcome_text source outcome) (counts_due counted outcome counts)

-- this text and the outcome's status, or those of want of memory, after what was told before
abbrev pub Reports : {A : Type 0} → List ℕ → Result A RunStop → Status → (List ℕ → Type 0) → Type 0
Reports text outcome ended Told =
    ((ended ≡ outcome_status outcome) × Told text)
    ⊎ ((ended ≡ status.NoMemory) × Told no_memory_text)
