-- The records of jobs: those that the places of a batch say, and the last one.
use Rattle.std.proofs.Common.{◌≡◌, ℕ, ◌+◌, ◌-◌, ◌<◌, List, [], ◌∷◌, ◌++◌, length, map, take, get_or, refl, sym, ap, ap₂, ◌∙◌, arith, length-append}
use Rattle.std.specs.Prelude.{replicate}
use Rattle.std.proofs.lemmas.List.{length-take-le, take_all, take_more}
use Rattle.std.proofs.lemmas.List.Sums.{fold-append}
use Rattle.edge_io.specs.Along.{along_from, trail_from}
use Rattle.flow_lanes.specs.declared.answer.JobHits.{JobHits}
use Rattle.flow_lanes.specs.declared.job.Job.{Job}
use Rattle.flow_lanes.specs.Flows.{Detection, answer}
use Rattle.record_jobs.specs.Way.{LinkedRecord, Way as JobsWay}
use Rattle.record_jobs.specs.Jobs.{jobs}
use Rattle.record_jobs.specs.Fronts.{FrontState, TakesRecord}
use Rattle.alert_lines.specs.Beside.{beside, by_place, carried, own, places_along, source_in}
use Rattle.alert_lines.specs.Sourcing.{sourced_items}
use Rattle.alert_lines.proofs.Beside.{by_place-along, by_place-same, places_along-more, sources_are}
use Rattle.snort_engine.specs.Trace.{job_items, last_of, no_record}
use Rattle.snort_engine.specs.Steps.Detecting.{MakesJobs}
use Rattle.snort_engine.specs.Steps.Sourcing.{PlacesJobs, last_after}

-- the last of records that come after others
pub last_of-more : (before : List LinkedRecord) (last : LinkedRecord) (records : List LinkedRecord) → last ≡ last_of before
    → last_after last records ≡ last_of (before ++ records)
last_of-more before last records is =
    ap (λ (l : LinkedRecord). last_after l records) is ∙ sym (fold-append (λ (_ r : LinkedRecord). r) no_record before records)

-- the jobs of records that were read after others, each beside its record
pub sources_made : (way : JobsWay) (records : List LinkedRecord) (last : LinkedRecord) (before : List LinkedRecord) (made : List Job) (places : List ℕ)
    → made ≡ trail_from (jobs way) before records → places ≡ places_along (jobs way) before 0 records
    → by_place (source_in records last places) 0 made ≡ trail_from (own (jobs way)) before records
sources_made way records last before made places jobs_are places_are =
    ap (λ (p : List ℕ). by_place (source_in records last p) 0 made) places_are
    ∙ ap (by_place (source_in records last (places_along (jobs way) before 0 records)) 0) jobs_are
    ∙ sources_are (jobs way) last before records

-- jobs without a place are of the last record
pub sources_last : (last : LinkedRecord) (made : List Job) → by_place (source_in [] last []) 0 made ≡ map (beside last) made
sources_last last made = by_place-same (source_in [] last []) last 0 made (λ i lt. refl)

-- the items of a batch of jobs, beside their records
pub told_found : (d : Detection) (source : ℕ → LinkedRecord) (before batch : List Job) (hits : List JobHits) → hits ≡ along_from (answer d) before batch
    → sourced_items (by_place source 0 hits) ≡ carried (job_items d) before (by_place source 0 batch)
unfolding job_items
told_found d source before batch hits is =
    ap (λ (h : List JobHits). sourced_items (by_place source 0 h)) is ∙ by_place-along (λ (job : JobHits). job.items) (answer d) source 0 before batch

-- ---- the places of jobs

-- no record was taken
pub places_none : (way : JobsWay) (front : FrontState) → PlacesJobs way [] front []
places_none way front = λ before holds. refl

-- one record more was taken
pub places_more : (way : JobsWay) (records : List LinkedRecord) (i : ℕ) (one_more : LinkedRecord) (old middle new : FrontState)
    (made next : List Job) (places : List ℕ) (count size : ℕ)
    → i < length records
    → one_more ≡ get_or records i one_more
    → MakesJobs way (take i records) old middle made
    → TakesRecord way middle one_more new made next
    → PlacesJobs way (take i records) old places
    → length places ≡ length made
    → count ≡ length next
    → size ≡ length places
    → PlacesJobs way (take (i + 1) records) old (take count places ++ replicate (count - size) i)
places_more way records i one_more old middle new made next places count size lt is makes takes so_far same all sized = λ before holds.
    let front = take i records in
    let one = makes before holds in
    let two = takes (before ++ front) one.holds in
    let fresh = jobs way (before ++ front) one_more in
    let a = ap length two.added in
    let b = length-append made fresh in
    let kept : take count places ≡ places = take_all count places (omega (arith, a, b, same, all)) in
    let filled : count - size ≡ length fresh = omega (arith, a, b, same, all, sized) in
    let at : i ≡ 0 + length front = let d = length-take-le i records (omega (arith, lt)) in omega (arith, d) in
    ap₂ (λ (p : List ℕ) (n : ℕ). p ++ replicate n i) (kept ∙ so_far before holds) filled
    ∙ ap (λ (n : ℕ). places_along (jobs way) before 0 front ++ replicate (length fresh) n) at
    ∙ sym (places_along-more (jobs way) before 0 front one_more)
    ∙ ap (places_along (jobs way) before 0) (ap (λ (r : LinkedRecord). take i records ++ r ∷ []) is ∙ sym (take_more records i one_more lt))
