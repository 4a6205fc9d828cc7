-- The items of records that fit go between addresses of one version, and their numbers fit.
use Rattle.std.proofs.Common.{◌≡◌, List, [], ◌∷◌, ◌++◌}
use Rattle.std.specs.List.{All}
use Rattle.std.proofs.lemmas.List.Elements.{All-append, All-head, All-nil, All-push, All-tail, All-weaker}
use Rattle.edge_io.specs.Along.{trail, trail_from}
use Rattle.flow_lanes.specs.declared.job.Job.{Job}
use Rattle.flow_lanes.specs.Fits.{FitsHits, FitsJob}
use Rattle.flow_lanes.proofs.Fits.{job_fits}
use Rattle.record_jobs.specs.Fitting.{HoldsBytes}
use Rattle.record_jobs.specs.Jobs.{finishes, jobs}
use Rattle.record_jobs.specs.Way.{LinkedRecord, Way}
use Rattle.record_jobs.proofs.Fits.Jobs.{jobs_fit as record_jobs_fit, last_fits}
use Rattle.snort_engine.specs.Counts.{all_items}
use Rattle.snort_engine.specs.Course.{Plan}
use Rattle.snort_engine.specs.ReadBack.{FitsRecord}
use Rattle.snort_engine.specs.Trace.{closing_items, detection_of, items_of, job_items, jobs_of, jobs_way}

-- all answers along a list fit, where each does after inputs that fit
all_trail : {X A : Type 0} (P : X → Type 0) (Q : A → Type 0) (f : List X → X → List A) (before xs : List X)
    → ((earlier : List X) (x : X) → All P earlier → P x → All Q (f earlier x)) → All P before → All P xs → All Q (trail_from f before xs)
all_trail {X} {A} P Q f before [] each earlier all = All-nil Q
all_trail {X} {A} P Q f before (x ∷ xs) each earlier all =
    let own = All-head P x xs all in
    All-append Q (f before x) (trail_from f (before ++ x ∷ []) xs) (each before x earlier own)
    (all_trail P Q f (before ++ x ∷ []) xs each (All-push P before x earlier own) (All-tail P x xs all))

-- the jobs of records
of_record : (way : Way) (before : List LinkedRecord) (r : LinkedRecord) → All FitsRecord before → FitsRecord r → All FitsJob (jobs way before r)
of_record way before r earlier own =
    record_jobs_fit way before r (All-weaker FitsRecord HoldsBytes (λ (q : LinkedRecord) (fits : FitsRecord q). fits.bytes) before earlier) own.bytes

items_of_job : (plan : Plan) (before : List Job) (job : Job) → All FitsJob before → FitsJob job → All FitsHits (job_items (detection_of plan) before job)
unfolding job_items
items_of_job plan before job earlier own = job_fits (detection_of plan) before job earlier own

jobs_fit : (plan : Plan) (records : List LinkedRecord) → All FitsRecord records → All FitsJob (jobs_of plan records)
jobs_fit plan records all =
    all_trail FitsRecord FitsJob (jobs (jobs_way plan)) [] records (λ earlier r fit own. of_record (jobs_way plan) earlier r fit own) (All-nil FitsRecord) all

-- ---- items

open_items : (plan : Plan) (records : List LinkedRecord) → All FitsRecord records → All FitsHits (items_of plan records)
unfolding items_of
open_items plan records all =
    all_trail FitsJob FitsHits (job_items (detection_of plan)) [] (jobs_of plan records) (items_of_job plan) (All-nil FitsJob) (jobs_fit plan records all)

last_items : (plan : Plan) (records : List LinkedRecord) → All FitsRecord records → All FitsHits (closing_items plan records)
unfolding closing_items
last_items plan records all =
    all_trail FitsJob FitsHits (job_items (detection_of plan)) (jobs_of plan records) (finishes (jobs_way plan) records) (items_of_job plan)
    (jobs_fit plan records all) (last_fits (jobs_way plan) records)

pub items_fit : (plan : Plan) (records : List LinkedRecord) → All FitsRecord records → All FitsHits (all_items plan records)
items_fit plan records all =
    All-append FitsHits (items_of plan records) (closing_items plan records) (open_items plan records all) (last_items plan records all)
