-- The records that the jobs of a batch were made of.
--
-- The records of a batch are kept until its alerts are written, and for each of its jobs the place of its
-- record. The jobs of the flows that end with a capture have no place, and are of the last record of all.
-- To try it on: of two records of which the first has two jobs and the second one, the places are 0, 0 and 1.
use Rattle.std.specs.Prelude.{ℕ, List, map}
use Rattle.std.specs.List.{flat_map}
use Rattle.std.specs.Borrow.{Bor}
use Rattle.flow_lanes.specs.declared.answer.JobHits.{JobHits}
use Rattle.record_jobs.specs.Way.{LinkedRecord}
use Rattle.alert_lines.specs.declared.sources.Sources.{Sources}
use Rattle.alert_lines.specs.Beside.{Beside, beside, source_in}
use Rattle.alert_lines.specs.Showing.{SourcedItem}

abbrev pub lent_record : Bor LinkedRecord → LinkedRecord
lent_record lent = lent.now

-- the record of the job at a place of a batch, by the place of its record among these: the last one before
-- these where it has none
abbrev pub source_by : Sources → ℕ → LinkedRecord
source_by sources job = source_in sources.records.now sources.last.now sources.places.now job

-- the items of jobs, each beside the record of its job
abbrev pub sourced_items : List (Beside LinkedRecord JobHits) → List SourcedItem
sourced_items jobs = flat_map (λ (b : Beside LinkedRecord JobHits). map (beside b.source) b.what.items) jobs
