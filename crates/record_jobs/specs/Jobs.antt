-- The jobs of a capture's records.
--
-- A record gives its jobs in this order: the end of the flow that its touch evicts; its fragment by itself;
-- and then its packet, or the datagram that its fragment completed, as a packet of its flow, and by itself
-- where its protocol isn't tracked. All have the record's moment. Once the capture is closed each flow that
-- lives ends, in the order of their numbers, at the moment of the last record. Every job has the next
-- number, from 0 on. The order is this project's own.
-- To try it on: with at most one TCP flow, the SYNs from port 1000 and from port 1001 to port 80 give the
-- jobs 0, a packet of flow 0; 1, the end of flow 0; and 2, a packet of flow 1. After them, 3 is the end of
-- flow 1.
use Rattle.std.specs.Prelude.{ℕ, ◌+◌, Bool, List, [], ◌∷◌, ◌++◌, map, fold, length, Option, Some, None, option_and_then, unwrap_or}
use Rattle.std.specs.Option.{option_map, option_to_list}
use Rattle.edge_io.specs.Along.{trail}
use Rattle.edge_io.specs.declared.moment.Moment.{Moment}
use Rattle.stream5_sessions.specs.declared.flows.Touch.{Touch}
use Rattle.stream5_sessions.specs.Liveness.{live_flows}
use Rattle.flow_lanes.specs.declared.job.Job.{Job}
use Rattle.flow_lanes.specs.declared.job.Work.{Work}
use Rattle.flow_lanes.specs.declared.job.Work.TheVariants as work
use Rattle.flow_lanes.specs.Sessions.{is_tcp}
use Rattle.record_jobs.specs.declared.item.RecordItem.{RecordItem}
use Rattle.record_jobs.specs.declared.time.Time.{Time}
use Rattle.record_jobs.specs.Packets.{fragment_item, packet_in}
use Rattle.record_jobs.specs.Touches.{most_flows, touch_in, touches}
use Rattle.record_jobs.specs.Way.{LinkedRecord, Way, toward_address}

-- ---- moments

-- the moment of the first of these records, if there is one
abbrev pub begin_of : List LinkedRecord → Option Moment
begin_of [] = None
begin_of (first ∷ later) = Some first.captured.moment

-- the moment of a record, and of the first one of its capture
abbrev pub time_by : Option Moment → LinkedRecord → Time
time_by begin r = record { first = unwrap_or begin r.captured.moment; now = r.captured.moment }

abbrev pub time_of : List LinkedRecord → LinkedRecord → Time
time_of before r = time_by (begin_of before) r

-- the moment of the last of these records
abbrev pub end_of : List LinkedRecord → Moment
end_of records = fold (λ _ (r : LinkedRecord). r.captured.moment) (record { nanos = 0 }) records

-- ---- what is done for a record

-- an item by itself
abbrev pub alone : RecordItem → Work
alone item = work.Alone item.head item.payload

-- a packet of this flow
unfoldable pub flow_packet : Way → Time → RecordItem → ℕ → Work
flow_packet way time item flow =
    let tcp : Bool = is_tcp item.head.body in
    work.Packet flow item.head item.payload (toward_address way tcp time item.head.ip.dst)
    (toward_address way tcp time item.head.ip.src)

-- a packet that found this of its flow, if it has one
abbrev pub packet_work : Way → Time → Option Touch → RecordItem → Work
packet_work way time None item = alone item
packet_work way time (Some touch) item = flow_packet way time item touch.flow

-- the flow that a touch ends
abbrev pub evicted_by : Option Touch → Option ℕ
evicted_by touch = option_and_then (λ (t : Touch). t.evicted) touch

-- what is done where a touch found this, for a fragment and for a packet
abbrev pub works_by : Way → Time → Option Touch → Option RecordItem → Option RecordItem → List Work
works_by way time touch fragment packet =
    option_to_list (option_map (λ flow. work.Finish flow) (evicted_by touch))
    ++ (option_to_list (option_map alone fragment) ++ option_to_list (option_map (packet_work way time touch) packet))

-- what is done for a record after these records, in order
unfoldable pub works : Way → List LinkedRecord → LinkedRecord → List Work
works way before r = works_by way (time_of before r) (touch_in way before r) (fragment_item way r) (packet_in way before r)

-- ---- jobs

-- jobs at one moment, numbered from this number on
abbrev pub numbered : ℕ → Moment → List Work → List Job
numbered number moment [] = []
numbered number moment (todo ∷ later) = record { number = number; moment = moment; work = todo } ∷ numbered
    (number + 1) moment later

-- how many jobs these records have
unfoldable pub job_count : Way → List LinkedRecord → ℕ
job_count way records = length (trail (works way) records)

-- the jobs of a record after these records
unfoldable pub jobs : Way → List LinkedRecord → LinkedRecord → List Job
jobs way before r = numbered (job_count way before) r.captured.moment (works way before r)

-- the jobs after all records: each flow that lives ends
unfoldable pub finishes : Way → List LinkedRecord → List Job
finishes way records =
    numbered (job_count way records) (end_of records) (map (λ flow. work.Finish flow)
    (live_flows (most_flows way.stream) (touches way records)))
