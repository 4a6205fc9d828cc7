-- A front that begins, and one that ends.
use Rattle.std.proofs.Common.{◌≡◌, ℕ, ◌+◌, ◌<◌, ◌≤◌, List, [], ◌∷◌, ◌++◌, length, map, take, get_or, suc, Option, None, refl, sym, ap, ◌∙◌, append_assoc, arith}
use Rattle.std.specs.Option.{option_map}
use Rattle.std.proofs.lemmas.List.{length-take, map-append, take_more}
use Rattle.std.proofs.lemmas.List.Elements.{All-from_recursion}
use Rattle.edge_io.specs.declared.moment.Moment.{Moment}
use Rattle.conf_types.specs.declared.config.FragConfig.{FragConfig}
use Rattle.frag3_core.specs.Trackers.{Frag3State, state_after}
use Rattle.stream5_sessions.specs.Caches.{FlowsState, HasSeen}
use Rattle.stream5_sessions.specs.Liveness.{MaxFlows, live_flows}
use Rattle.flow_lanes.specs.declared.job.Job.{Job}
use Rattle.flow_lanes.specs.declared.job.Work.{Work}
use Rattle.flow_lanes.specs.declared.job.Work.TheVariants as work
use Rattle.record_jobs.specs.Counts.{counts}
use Rattle.record_jobs.specs.Fronts.{FrontState, IsFrontAfter}
use Rattle.record_jobs.specs.Jobs.{end_of, finishes, job_count, numbered}
use Rattle.record_jobs.specs.Packets.{frag3_after}
use Rattle.record_jobs.specs.Ready.{HasShortData}
use Rattle.record_jobs.specs.Touches.{most_flows, touches}
use Rattle.record_jobs.specs.Way.{LinkedRecord, Way}
use Rattle.record_jobs.proofs.Growth.{numbered-append}

-- a front that has taken no record
pub holds_none : (way : Way) (frag3 : Option Frag3State) (flows : FlowsState)
    → frag3 ≡ option_map (λ (config : FragConfig). record { max_frags = config.max_frags; trackers = [] }) way.frag
    → HasSeen flows []
    → flows.max ≡ most_flows way.stream
    → IsFrontAfter way
    (record {
      frag3 = frag3;
      flows = flows;
      begin = None;
      last = record { nanos = 0 };
      next = 0;
      counts = record { records = 0; short = 0; other = 0; checksum = 0; malformed = 0; fragments = 0; rebuilt = 0; flows = 0 };
    }) []
unfolding frag3_after state_after touches job_count counts
holds_none way frag3 flows waiting seen most = record {
  frag3 = waiting;
  flows = seen;
  most = most;
  begin = refl;
  last = refl;
  next = refl;
  counts = refl;
  short = All-from_recursion HasShortData [] tt;
}

-- the ends of these flows are those after the records
pub finishes-are : (way : Way) (front : FrontState) (before : List LinkedRecord) (jobs_old jobs_new : List Job) (flows : List ℕ)
    → IsFrontAfter way front before
    → flows ≡ live_flows front.flows.max (touches way before)
    → jobs_new ≡ jobs_old ++ numbered front.next front.last (map (λ flow. work.Finish flow) flows)
    → jobs_new ≡ jobs_old ++ finishes way before
unfolding finishes
finishes-are way front before jobs_old jobs_new flows holds live added =
    added
    ∙ ap (λ (n : ℕ). jobs_old ++ numbered n front.last (map (λ flow. work.Finish flow) flows)) holds.next
    ∙ ap (λ (m : Moment). jobs_old ++ numbered (job_count way before) m (map (λ flow. work.Finish flow) flows)) holds.last
    ∙ ap (λ (fs : List ℕ). jobs_old ++ numbered (job_count way before) (end_of before) (map (λ flow. work.Finish flow) fs)) live
    ∙ ap (λ (max : MaxFlows). jobs_old ++ numbered (job_count way before) (end_of before) (map (λ flow. work.Finish flow) (live_flows max (touches way before)))) holds.most

counted : (flows : List ℕ) → length (map (λ flow. work.Finish flow) flows) ≡ length flows
counted [] = refl
counted (flow ∷ flows) = ap suc (counted flows)

-- one end more
pub finishes_more : (old now new : List Job) (first number : ℕ) (moment : Moment) (flows : List ℕ) (i : ℕ)
    → i < length flows → number ≡ first + i → now ≡ old ++ numbered first moment (map (λ flow. work.Finish flow) (take i flows))
    → new ≡ now ++ numbered number moment (work.Finish (get_or flows i 0) ∷ []) → new ≡ old ++ numbered first moment (map (λ flow. work.Finish flow) (take (i + 1) flows))
finishes_more old now new first number moment flows i below number_is now_is new_is =
    new_is
    ∙ ap (λ (js : List Job). js ++ numbered number moment (work.Finish (get_or flows i 0) ∷ [])) now_is
    ∙ append_assoc old (numbered first moment todos) (numbered number moment (work.Finish (get_or flows i 0) ∷ []))
    ∙ ap (λ (n : ℕ). old ++ (numbered first moment todos ++ numbered n moment (work.Finish (get_or flows i 0) ∷ [])))
    (number_is ∙ ap (λ (n : ℕ). first + n) (sym so_many))
    ∙ ap (λ (js : List Job). old ++ js) (sym (numbered-append first moment todos (work.Finish (get_or flows i 0) ∷ [])))
    ∙ ap (λ (ws : List Work). old ++ numbered first moment ws)
    (sym (ap (map (λ flow. work.Finish flow)) (take_more flows i 0 below) ∙
    map-append (λ flow. work.Finish flow) (take i flows) (get_or flows i 0 ∷ [])))
  where
    todos : List Work
    todos = map (λ flow. work.Finish flow) (take i flows)

    so_many : length todos ≡ i
    so_many = counted (take i flows) ∙ (let within : i ≤ length flows = omega arith in omega (arith, length-take i flows))
