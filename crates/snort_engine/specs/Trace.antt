-- What a plan shows of a capture's records, stage by stage.
--
-- Each record makes jobs: of packets, of datagrams that its fragment makes whole, of flows that end
-- (record_jobs specs/Jobs). Each job has items, packets and stretches of streams, each with all rules
-- that match it (flow_lanes specs/Flows). Each item has events, of which some are kept (alert_lines
-- specs/Events); each that is kept is an alert, beside the record whose decoding made the item's job. A
-- stage depends on what came to it before, and on nothing else: not on lanes or batches. Where the capture
-- has ended, the flows that live then end too, and the last stages go on over these jobs, whose alerts
-- are beside the last record.
-- (Snort Users Manual 2.9, sections 2.2.1 to 2.2.3 for what is put together, 2.4 and 3 for events.)
-- To try it on: a packet with payload `abc` and the rules for `bc`, `x` and `a` shows the alerts of
-- the first and of the third.
use Rattle.std.specs.Prelude.{List, [], ◌++◌, fold, map}
use Rattle.edge_io.specs.Along.{trail, trail_from, chained}
use Rattle.edge_io.specs.declared.link.Link.TheVariants.{Ethernet}
use Rattle.packet_decode.specs.declared.checks.Checks.{Checks}
use Rattle.conf_types.specs.declared.config.Config.{Config}
use Rattle.host_table.specs.declared.host_line.HostLine.{HostLine}
use Rattle.record_jobs.specs.Way.{LinkedRecord, Way as JobsWay}
use Rattle.record_jobs.specs.Jobs.{jobs, finishes}
use Rattle.flow_lanes.specs.declared.answer.Hits.{Hits}
use Rattle.flow_lanes.specs.declared.job.Job.{Job}
use Rattle.flow_lanes.specs.Flows.{Detection, answer}
use Rattle.alert_lines.specs.Beside.{beside, own}
use Rattle.alert_lines.specs.Events.{Alert, Event, item_events}
use Rattle.snort_engine.specs.Course.{Plan}

-- ---- from records to jobs

-- what records are read by
abbrev pub jobs_way_by : Checks → List HostLine → Config → JobsWay
jobs_way_by checks hosts config = record { checks = checks; hosts = hosts; frag = config.frag; stream = config.stream }

abbrev pub jobs_way : Plan → JobsWay
jobs_way plan = jobs_way_by plan.checks plan.hosts plan.config

-- all jobs of records
abbrev pub jobs_of : Plan → List LinkedRecord → List Job
jobs_of plan records = trail (jobs (jobs_way plan)) records

-- ---- from jobs to items with the rules that match

-- what items are made by, and which rules are tried on them
abbrev pub detection_of : Plan → Detection
detection_of plan = record {
  making = record { flush = plan.flush; inserts = plan.config.inserts; stream = plan.config.stream };
  trying = record { rules = plan.rules; matches = plan.matches };
}

-- the items of a job after earlier jobs
unfoldable pub job_items : Detection → List Job → Job → List Hits
job_items d before job = (answer d before job).items

-- all items of records
unfoldable pub items_of : Plan → List LinkedRecord → List Hits
items_of plan records = trail (job_items (detection_of plan)) (jobs_of plan records)

-- ---- all stages

-- the events of a record after earlier records
unfoldable pub record_events : Plan → List LinkedRecord → LinkedRecord → List Event
record_events plan = chained (item_events plan.config plan.rules) (chained (job_items (detection_of plan)) (jobs (jobs_way plan)))

-- the alerts of a record after earlier records
abbrev pub record_alerts : Plan → List LinkedRecord → LinkedRecord → List Alert
record_alerts plan = own (record_events plan)

-- after all records of a capture the flows that live then end: their items, and the alerts of these
unfoldable pub closing_items : Plan → List LinkedRecord → List Hits
closing_items plan records = trail_from (job_items (detection_of plan)) (jobs_of plan records) (finishes (jobs_way plan) records)

unfoldable pub closing_events : Plan → List LinkedRecord → List Event
closing_events plan records = trail_from (item_events plan.config plan.rules) (items_of plan records) (closing_items plan records)

-- what takes the place of the last record where there is none: no flow lives then that could end
abbrev pub no_record : LinkedRecord
no_record = record { link = Ethernet; captured = record { number = 0; moment = record { nanos = 0 }; original = 0; bytes = [] } }

-- the last of these records
abbrev pub last_of : List LinkedRecord → LinkedRecord
last_of records = fold (λ _ r. r) no_record records

unfoldable pub closing_alerts : Plan → List LinkedRecord → List Alert
closing_alerts plan records = map (beside (last_of records)) (closing_events plan records)

-- whether more records may follow, or the capture has ended
pub data CaptureState : Type 0 where
  Open : CaptureState
  Closed : CaptureState

-- what is shown of records after these records, and of the flows that end with the capture
unfoldable pub trace : Plan → List LinkedRecord → List LinkedRecord → CaptureState → List Alert
trace plan before records Open = trail_from (record_alerts plan) before records
trace plan before records Closed = trail_from (record_alerts plan) before records ++ closing_alerts plan (before ++ records)
