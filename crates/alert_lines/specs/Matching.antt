-- What is shown of the matches of jobs.
--
-- The lanes tell of each job those of its items that a rule matches, and of all jobs how many items there are. An
-- item that no rule matches gives no line; it is counted.
-- To try it on: of a job of three items of which a rule matches the second, its line is that of the second
-- alone, and three items are counted.
use Rattle.std.specs.Prelude.{◌≡◌, ℕ, List, ◌++◌, Result, OnOk, filter, length, map, sum_by}
use Rattle.conf_types.specs.declared.config.Config.{Config}
use Rattle.rule_types.specs.declared.rule.Rule.{Rule}
use Rattle.flow_lanes.specs.declared.answer.Hits.{Hits}
use Rattle.flow_lanes.specs.declared.answer.JobHits.{JobHits}
use Rattle.flow_lanes.specs.declared.answer.Matches.{Matches}
use Rattle.flow_lanes.specs.ItemHits.{is_matched, matched_entry}
use Rattle.record_jobs.specs.Way.{LinkedRecord}
use Rattle.alert_lines.specs.declared.writer.AlertWriter.{AlertWriter}
use Rattle.alert_lines.specs.declared.fault.WriteFault.{WriteFault}
use Rattle.alert_lines.specs.Beside.{by_place, whats}
use Rattle.alert_lines.specs.Gathering.{EmitsBy}
use Rattle.alert_lines.specs.Showing.{IsWriterAfter, Earlier, Showing, Shown, SourcedItem, sending_of, items_lines}
use Rattle.alert_lines.specs.Sourcing.{sourced_items}

-- these are the matches of jobs with these items, and the number of all their items
pub record AreMatchesOf (jobs : List JobHits) (found : Matches) : Type 0 where
  pub hits : found.hits.items ≡ map matched_entry jobs
  pub items : found.items ≡ sum_by (λ (job : JobHits). length job.items) jobs

-- of items beside their records those that a rule matches
abbrev pub matched_sourced : List SourcedItem → List SourcedItem
matched_sourced items = filter (λ (told : SourcedItem). is_matched told.what) items

-- jobs that these may be the matches of, and items that were given before theirs
pub record Matched (config : Config) (rules : List Rule) (found : Matches) (writer : AlertWriter) : Type 0 where
  pub jobs : List JobHits
  pub are : AreMatchesOf jobs found
  pub before : Earlier config rules writer

-- whatever jobs these are the matches of, all their items are shown
pub record ShowsMatches {A : Type 0} (by : Shown) (source : ℕ → LinkedRecord) (found : Matches) (old new : Showing)
    (outcome : Result A WriteFault) : Type 0 where
  pub holds : OnOk outcome ((jobs : List JobHits) → AreMatchesOf jobs found
      → (before : List Hits) → IsWriterAfter by.config by.rules before old.writer
      → IsWriterAfter by.config by.rules (before ++ whats (sourced_items (by_place source 0 jobs))) new.writer)
  pub emits : EmitsBy (λ (known : Matched by.config by.rules found old.writer).
      items_lines by.form by.config by.rules known.before.items (sourced_items (by_place source 0 known.jobs)))
      (sending_of old) (sending_of new) outcome
