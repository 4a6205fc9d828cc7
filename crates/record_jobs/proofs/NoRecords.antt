-- Before any record was taken.
use Rattle.std.proofs.Common.{◌≡◌, ℕ, List, [], map, refl, ap}
use Rattle.stream5_sessions.proofs.Liveness.NoTouch.{live_flows-none}
use Rattle.flow_lanes.specs.declared.job.Work.TheVariants as work
use Rattle.record_jobs.specs.Counts.{counts, none_counted}
use Rattle.record_jobs.specs.Jobs.{end_of, finishes, job_count, numbered}
use Rattle.record_jobs.specs.Touches.{most_flows, touches}
use Rattle.record_jobs.specs.Way.{Way}

-- no flow lives that could end
pub finishes-none : (way : Way) → finishes way [] ≡ []
unfolding finishes touches
finishes-none way =
    ap (λ (flows : List ℕ). numbered (job_count way []) (end_of []) (map (λ flow. work.Finish flow) flows)) (live_flows-none (most_flows way.stream))

-- before any record, nothing was counted
pub counts-none : (way : Way) → counts way [] ≡ none_counted
unfolding counts touches
counts-none way = refl
