-- A lane keeps the flows that are its own and open, and no others.
use Rattle.std.proofs.Common.{◌≡◌, ℕ, ◌==◌, ◌&&◌, Bool, true, false, not, cond, List, [], ◌∷◌, Option, Some, None, filter, fold, length, refl, sym, ap, ◌∙◌}
use Rattle.std.specs.Prelude.{slice_get}
use Rattle.std.specs.Option.{is_some, option_map}
use Rattle.std.proofs.lemmas.Bool.{false≢true, eqb-true}
use Rattle.edge_io.specs.declared.moment.Moment.{Moment}
use Rattle.flow_lanes.specs.declared.job.Job.{Job}
use Rattle.flow_lanes.specs.declared.job.Work.{Work}
use Rattle.flow_lanes.specs.declared.job.Work.TheVariants as work
use Rattle.flow_lanes.specs.Flows.{Detection, flow_of, flow_of_work, same_number, state_after_one}
use Rattle.flow_lanes.specs.Open.{is_end, is_open, open_after}
use Rattle.flow_lanes.specs.Sound.{FlowFacts, facts_after_work}
use Rattle.flow_lanes.specs.LanesAfter.{KeptFlow, LaneState, AreAfter, LanesState, facts_kept, is_in_lane, is_of_flow, kept_after, kept_after_one, kept_of, lane_of, state_kept}

-- a flow is kept after one of its jobs, unless it is the flow's end
kept_work : (flow : ℕ) (make : FlowFacts → KeptFlow) (facts : Option FlowFacts) (moment : Moment) (w : Work)
    → same_number (Some flow) (flow_of_work w) ≡ true
    → is_some (option_map make (facts_after_work facts moment w)) ≡ not (is_end w)
kept_work flow make facts moment (work.Alone head payload) own = absurd (false≢true own)
kept_work flow make facts moment (work.Packet other head payload to_dst to_src) own = refl
kept_work flow make facts moment (work.Finish other) own = refl

same-flow : (flow : ℕ) (found : Option ℕ) → same_number (Some flow) found ≡ true → found ≡ Some flow
same-flow flow None own = absurd (false≢true own)
same-flow flow (Some other) own = ap Some (sym (eqb-true flow other own))

module _ (d : Detection) (count place flow : ℕ) where
  abbrev own : List Job → List Job
  own jobs = filter (is_of_flow flow) (filter (is_in_lane count place) jobs)

  -- a job of another flow is passed over
  passed : (job : Job) (jobs : List Job) → is_of_flow flow job ≡ false → own (job ∷ jobs) ≡ own jobs
  passed job jobs other = by_lane (is_in_lane count place job)
    where
      by_lane : (b : Bool) → filter (is_of_flow flow) (cond b (job ∷ filter (is_in_lane count place) jobs) (filter (is_in_lane count place) jobs)) ≡ own jobs
      by_lane true = ap (λ (b : Bool). cond b (job ∷ own jobs) (own jobs)) other
      by_lane false = refl

  in_lane : (job : Job) → is_of_flow flow job ≡ true → is_in_lane count place job ≡ (lane_of count (Some flow) == place)
  in_lane job is = ap (λ (found : Option ℕ). lane_of count found == place) (same-flow flow (flow_of job) is)

  -- one of the flow is done, in the flow's lane
  taken : (job : Job) (jobs : List Job) → (lane_of count (Some flow) == place) ≡ true → is_of_flow flow job ≡ true → own (job ∷ jobs) ≡ job ∷ own jobs
  taken job jobs here is =
      ap (λ (b : Bool). filter (is_of_flow flow) (cond b (job ∷ filter (is_in_lane count place) jobs) (filter (is_in_lane count place) jobs))) (in_lane job is ∙ here)
      ∙ ap (λ (b : Bool). cond b (job ∷ own jobs) (own jobs)) is

  kept_own : (jobs : List Job) (kept : Option KeptFlow) (was : Bool)
      → (lane_of count (Some flow) == place) ≡ true
      → is_some kept ≡ was
      → is_some (fold (kept_after_one d) kept (own jobs)) ≡ fold (open_after flow) was jobs
  kept_own [] kept was here same = same
  kept_own (job ∷ jobs) kept was here same = by_flow (is_of_flow flow job) refl (λ kept was same. kept_own jobs kept was here same)
    where
      by_flow : (b : Bool) → is_of_flow flow job ≡ b
          → ((kept : Option KeptFlow) (was : Bool) → is_some kept ≡ was → is_some (fold (kept_after_one d) kept (own jobs)) ≡ fold (open_after flow) was jobs)
          → is_some (fold (kept_after_one d) kept (own (job ∷ jobs))) ≡ fold (open_after flow) (cond b (not (is_end job.work)) was) jobs
      by_flow true is later =
          ap (λ (js : List Job). is_some (fold (kept_after_one d) kept js)) (taken job jobs here is)
          ∙ later (kept_after_one d kept job) (not (is_end job.work))
          (kept_work flow (λ facts. record { facts = facts; found = state_after_one d (state_kept kept) job }) (facts_kept kept) job.moment job.work is)
      by_flow false is later = ap (λ (js : List Job). is_some (fold (kept_after_one d) kept js)) (passed job jobs is) ∙ later kept was same

  -- in another lane there is nothing of the flow
  none_own : (jobs : List Job) → (lane_of count (Some flow) == place) ≡ false → own jobs ≡ []
  none_own [] other = refl
  none_own (job ∷ jobs) other = by_flow (is_of_flow flow job) refl (none_own jobs other)
    where
      by_flow : (b : Bool) → is_of_flow flow job ≡ b → own jobs ≡ [] → own (job ∷ jobs) ≡ []
      by_flow true is later =
          ap (λ (b : Bool). filter (is_of_flow flow) (cond b (job ∷ filter (is_in_lane count place) jobs) (filter (is_in_lane count place) jobs))) (in_lane job is ∙ other)
          ∙ later
      by_flow false is later = passed job jobs is ∙ later

  kept_is : (jobs : List Job) → is_some (kept_after d (own jobs)) ≡ ((lane_of count (Some flow) == place) && is_open flow jobs)
  kept_is jobs = by_lane (lane_of count (Some flow) == place) refl
    where
      by_lane : (b : Bool) → (lane_of count (Some flow) == place) ≡ b → is_some (kept_after d (own jobs)) ≡ (b && is_open flow jobs)
      by_lane true here = kept_own jobs None false here refl
      by_lane false other = ap (λ (js : List Job). is_some (kept_after d js)) (none_own jobs other)

pub lanes-keep : (d : Detection) (lanes : LanesState) (before : List Job) (place flow : ℕ) (lane : LaneState) → AreAfter d lanes before → slice_get lanes.lanes place ≡ Some lane
    → is_some (kept_of lane flow) ≡ ((lane_of (length lanes.lanes) (Some flow) == place) && is_open flow before)
lanes-keep d lanes before place flow lane hold is =
    ap is_some ((hold.each place lane is).flows flow) ∙ kept_is d (length lanes.lanes) place flow before
