-- What a run counts, and how it tells it.
--
-- The counts are of a capture that has ended or is refused: how many records were read; how many of them,
-- and of the datagrams put together of them, were skipped, by reason; fragments, and datagrams made
-- whole; flows that began; items, with those that end with the capture; rules that matched; lines; and
-- tries, the rules that were worth being tried on an item. They are this project's own, in twelve lines.
-- To try it on: of one packet that one rule of one alerts on, records, items, hits, alerts and tries are
-- 1 and all others 0.
use Rattle.std.specs.Prelude.{ℕ, Bool, List, [], ◌++◌, Option, None, Some, length, sum, codes, decimal, if◌then◌else◌}
use Rattle.edge_io.specs.Along.{along}
use Rattle.record_jobs.specs.Way.{LinkedRecord}
use Rattle.record_jobs.specs.Counts.{counts, none_counted}
use Rattle.record_jobs.specs.Ready.{all_jobs}
use Rattle.flow_lanes.specs.declared.answer.Hits.{Hits}
use Rattle.flow_lanes.specs.declared.job.Job.{Job}
use Rattle.flow_lanes.specs.Flows.{Detection, answer_tries}
use Rattle.alert_lines.specs.Events.{hit_count}
use Rattle.snort_engine.specs.declared.counts.Counts.{Counts}
use Rattle.snort_engine.specs.Course.{Plan}
use Rattle.snort_engine.specs.Trace.{jobs_way, detection_of, items_of, closing_items, trace, Closed}

-- how many rules were worth being tried on the items of these jobs
abbrev pub try_count : Detection → List Job → ℕ
try_count d jobs = sum (along (answer_tries d) jobs)

-- the items of all records of a capture, and of the flows that end with it
abbrev pub all_items : Plan → List LinkedRecord → List Hits
all_items plan records = items_of plan records ++ closing_items plan records

-- the counts of all records of a capture
unfoldable pub counts_of : Plan → List LinkedRecord → Counts
counts_of plan records = record {
  seen = counts (jobs_way plan) records;
  items = length (all_items plan records);
  hits = hit_count (all_items plan records);
  alerts = length (trace plan [] records Closed);
  tries = try_count (detection_of plan) (all_jobs (jobs_way plan) records);
}

-- nothing was counted
abbrev pub no_counts : Counts
no_counts = record { seen = none_counted; items = 0; hits = 0; alerts = 0; tries = 0 }

-- a count on its line
abbrev pub count_line : List ℕ → ℕ → List ℕ
count_line name count = name ++ codes ": " ++ decimal count ++ codes "\n"

-- all counts, each on its line
unfoldable pub counts_text : Counts → List ℕ
counts_text counts =
    count_line (codes "records") counts.seen.records
    ++ count_line (codes "short") counts.seen.short
    ++ count_line (codes "other") counts.seen.other
    ++ count_line (codes "checksum") counts.seen.checksum
    ++ count_line (codes "malformed") counts.seen.malformed
    ++ count_line (codes "fragments") counts.seen.fragments
    ++ count_line (codes "rebuilt") counts.seen.rebuilt
    ++ count_line (codes "flows") counts.seen.flows
    ++ count_line (codes "items") counts.items
    ++ count_line (codes "hits") counts.hits
    ++ count_line (codes "alerts") counts.alerts
    ++ count_line (codes "tries") counts.tries

-- counts are told, or not
abbrev pub told_counts : Bool → Counts → Option Counts
told_counts told counts = if told then Some counts else None

-- a text, and the counts that are told after it
abbrev pub with_counts : List ℕ → Option Counts → List ℕ
with_counts text None = text
with_counts text (Some counts) = text ++ counts_text counts
