-- What a lane stands for, job by job.
use Rattle.std.proofs.Common.{◌≡◌, ℕ, Bool, true, false, cond, List, [], ◌∷◌, ◌++◌, Option, Some, None, refl, sym, ap, ◌∙◌}
use Rattle.std.specs.Prelude.{fold}
use Rattle.std.specs.List.{filter}
use Rattle.std.proofs.lemmas.List.Elements.{filter-append}
use Rattle.std.proofs.lemmas.List.Sums.{fold-append}
use Rattle.edge_io.specs.declared.moment.Moment.{Moment}
use Rattle.flow_lanes.specs.declared.job.Job.{Job}
use Rattle.flow_lanes.specs.declared.job.Work.{Work}
use Rattle.flow_lanes.specs.declared.job.Work.TheVariants as work
use Rattle.flow_lanes.specs.Flows.{Detection, flow_of, flow_state, same_flow, same_number, state_after, state_after_one}
use Rattle.flow_lanes.specs.Items.{finish_items}
use Rattle.flow_lanes.specs.LanesAfter.{HasDone, KeptFlow, LaneState, IsAfter, is_of_flow, kept_after, kept_after_one, kept_of, new_lane, state_kept}

-- a lane that keeps nothing stands for no job
pub new_lane-holds : (d : Detection) → IsAfter d (new_lane d.making.flush d.making.inserts) []
new_lane-holds d = record { flush = refl; inserts = refl; flows = λ flow. refl }

-- what is kept goes on with one more job of the flow, and with no other
kept_after-more : (d : Detection) (flow : ℕ) (before : List Job) (job : Job)
    → kept_after d (filter (is_of_flow flow) (before ++ job ∷ []))
    ≡ cond (is_of_flow flow job) (kept_after_one d (kept_after d (filter (is_of_flow flow) before)) job) (kept_after d (filter (is_of_flow flow) before))
kept_after-more d flow before job =
    ap (kept_after d) (filter-append (is_of_flow flow) before (job ∷ []))
    ∙ fold-append (kept_after_one d) None (filter (is_of_flow flow) before) (filter (is_of_flow flow) (job ∷ []))
    ∙ by_case (is_of_flow flow job) (kept_after d (filter (is_of_flow flow) before))
  where
    by_case : (b : Bool) (kept : Option KeptFlow) → fold (kept_after_one d) kept (cond b (job ∷ []) []) ≡ cond b (kept_after_one d kept job) kept
    by_case true kept = refl
    by_case false kept = refl

-- a lane that has done a job stands for it and for those before it
pub HasDone-holds : (d : Detection) (old : LaneState) (job : Job) (new : LaneState) (before : List Job) → HasDone d old job new → IsAfter d old before → IsAfter d new (before ++ job ∷ [])
HasDone-holds d old job new before done holds = record {
  flush = done.flush ∙ holds.flush;
  inserts = done.inserts ∙ holds.inserts;
  flows = λ flow. done.flows flow ∙ ap (λ kept. cond (is_of_flow flow job) (kept_after_one d kept job) kept) (holds.flows flow) ∙ sym (kept_after-more d flow before job);
}

-- what the next job finds is what the flow's jobs leave
state_kept-after_one : (d : Detection) (kept : Option KeptFlow) (job : Job) → state_kept (kept_after_one d kept job) ≡ state_after_one d (state_kept kept) job
unfolding state_after_one state_after finish_items
state_kept-after_one d kept job = by_work kept job.number job.moment job.work
  where
    by_work : (kept : Option KeptFlow) (number : ℕ) (moment : Moment) (w : Work)
        → state_kept (kept_after_one d kept (record { number = number; moment = moment; work = w })) ≡ state_after_one d (state_kept kept) (record { number = number; moment = moment; work = w })
    by_work None number moment (work.Alone head payload) = refl
    by_work (Some k) number moment (work.Alone head payload) = refl
    by_work kept number moment (work.Packet flow head payload to_dst to_src) = refl
    by_work kept number moment (work.Finish flow) = refl

state_kept-after : (d : Detection) (kept : Option KeptFlow) (jobs : List Job) → state_kept (fold (kept_after_one d) kept jobs) ≡ fold (state_after_one d) (state_kept kept) jobs
state_kept-after d kept [] = refl
state_kept-after d kept (job ∷ jobs) = state_kept-after d (kept_after_one d kept job) jobs ∙ ap (λ found. fold (state_after_one d) found jobs) (state_kept-after_one d kept job)

-- what a lane keeps of the flow of a job is what the job finds
pub IsAfter-finds : (d : Detection) (lane : LaneState) (before : List Job) (job : Job) (flow : ℕ)
    → flow_of job ≡ Some flow
    → IsAfter d lane before
    → state_kept (kept_of lane flow) ≡ flow_state d (filter (same_flow job) before)
unfolding flow_state
IsAfter-finds d lane before job flow is holds =
    ap state_kept (holds.flows flow)
    ∙ state_kept-after d None (filter (is_of_flow flow) before)
    ∙ ap (λ number. fold (state_after_one d) None (filter (λ other. same_number number (flow_of other)) before)) (sym is)
