-- The jobs of records are about what their bytes say: where all of that fits, so do all items.
use Rattle.std.proofs.Common.{◌≡◌, ℕ, ◌+◌, List, [], ◌∷◌, ◌++◌, Option, Some, None, map}
use Rattle.std.specs.Prelude.{IfSome}
use Rattle.std.specs.List.{All}
use Rattle.std.specs.Option.{option_map, option_to_list}
use Rattle.std.proofs.lemmas.List.Elements.{All-append, All-cons, All-head, All-map, All-nil, All-tail}
use Rattle.edge_io.specs.declared.moment.Moment.{Moment}
use Rattle.stream5_sessions.specs.Liveness.{live_flows}
use Rattle.stream5_sessions.specs.declared.flows.Touch.{Touch}
use Rattle.flow_lanes.specs.declared.job.Job.{Job}
use Rattle.flow_lanes.specs.declared.job.Work.{Work}
use Rattle.flow_lanes.specs.declared.job.Work.TheVariants as work
use Rattle.record_jobs.specs.declared.item.RecordItem.{RecordItem}
use Rattle.record_jobs.specs.declared.time.Time.{Time}
use Rattle.record_jobs.specs.Jobs.{alone, end_of, evicted_by, finishes, flow_packet, job_count, jobs, numbered, packet_work, time_of, works, works_by}
use Rattle.record_jobs.specs.Packets.{fragment_item, packet_in}
use Rattle.record_jobs.specs.Touches.{most_flows, touch_in, touches}
use Rattle.record_jobs.specs.Way.{LinkedRecord, Way}
use Rattle.flow_lanes.specs.Fits.{FitsJob, FitsWork}
use Rattle.record_jobs.specs.Fitting.{HoldsBytes}
use Rattle.record_jobs.proofs.Fits.Datagrams.{FitsBrought, fragment_brought, packet_brought}

-- ---- what is done

alone_fits : (item : Option RecordItem) → IfSome item FitsBrought → All FitsWork (option_to_list (option_map alone item))
alone_fits None fits = All-nil FitsWork
alone_fits (Some item) fits = All-cons FitsWork (alone item) [] fits (All-nil FitsWork)

found_fits : (way : Way) (time : Time) (touch : Option Touch) (item : RecordItem) → FitsBrought item → FitsWork (packet_work way time touch item)
unfolding flow_packet
found_fits way time None item fits = fits
found_fits way time (Some touch) item fits = fits

packet_fits : (way : Way) (time : Time) (touch : Option Touch) (item : Option RecordItem) → IfSome item FitsBrought → All FitsWork (option_to_list (option_map (packet_work way time touch) item))
packet_fits way time touch None fits = All-nil FitsWork
packet_fits way time touch (Some item) fits = All-cons FitsWork (packet_work way time touch item) [] (found_fits way time touch item fits) (All-nil FitsWork)

ended_fits : (flow : Option ℕ) → All FitsWork (option_to_list (option_map (λ (f : ℕ). work.Finish f) flow))
ended_fits None = All-nil FitsWork
ended_fits (Some flow) = All-cons FitsWork (work.Finish flow) [] tt (All-nil FitsWork)

works_fit : (way : Way) (time : Time) (touch : Option Touch) (fragment packet : Option RecordItem) → IfSome fragment FitsBrought → IfSome packet FitsBrought
    → All FitsWork (works_by way time touch fragment packet)
works_fit way time touch fragment packet own whole =
    let one = option_to_list (option_map (λ (f : ℕ). work.Finish f) (evicted_by touch)) in
    let two = option_to_list (option_map alone fragment) in
    let three = option_to_list (option_map (packet_work way time touch) packet) in
    All-append FitsWork one (two ++ three) (ended_fits (evicted_by touch))
    (All-append FitsWork two three (alone_fits fragment own) (packet_fits way time touch packet whole))

numbered_fit : (number : ℕ) (moment : Moment) (todo : List Work) → All FitsWork todo → All FitsJob (numbered number moment todo)
numbered_fit number moment [] all = All-nil FitsJob
numbered_fit number moment (first ∷ later) all =
    All-cons FitsJob (record { number = number; moment = moment; work = first }) (numbered (number + 1) moment later) (All-head FitsWork first later all)
    (numbered_fit (number + 1) moment later (All-tail FitsWork first later all))

-- ---- jobs

pub jobs_fit : (way : Way) (before : List LinkedRecord) (r : LinkedRecord) → All HoldsBytes before → HoldsBytes r → All FitsJob (jobs way before r)
unfolding jobs works
jobs_fit way before r earlier own =
    numbered_fit (job_count way before) r.captured.moment (works way before r)
    (works_fit way (time_of before r) (touch_in way before r) (fragment_item way r) (packet_in way before r)
    (fragment_brought way r own) (packet_brought way before r earlier own))

pub last_fits : (way : Way) (records : List LinkedRecord) → All FitsJob (finishes way records)
unfolding finishes
last_fits way records =
    let flows = live_flows (most_flows way.stream) (touches way records) in
    numbered_fit (job_count way records) (end_of records) (map (λ (flow : ℕ). work.Finish flow) flows)
    (All-map FitsWork (λ (flow : ℕ). work.Finish flow) flows (λ k d lt. tt))
