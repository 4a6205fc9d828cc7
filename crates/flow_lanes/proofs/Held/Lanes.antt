-- What all lanes hold of one flow: nothing unless TCP was seen of it, and then no more than two sides may.
use Rattle.std.proofs.Common.{◌≡◌, ℕ, zero, suc, ◌+◌, ◌*◌, ◌≤◌, Bool, true, false, cond, ◌==◌, List, [], ◌∷◌, Option, Some, None, filter, fold, length, refl, sym, ap, subst, ◌∙◌, arith}
use Rattle.std.specs.Prelude.{slice_get, sum_by}
use Rattle.std.specs.List.{All}
use Rattle.std.specs.Option.{option_map_or}
use Rattle.std.proofs.lemmas.Bool.{eq-eqb, eqb-true, false≢true}
use Rattle.std.proofs.lemmas.Bool.Decides.{nat_tests}
use Rattle.std.proofs.lemmas.List.Elements.{All-filter}
use Rattle.std.proofs.lemmas.List.Sums.{sum_by-cons}
use Rattle.stream5_reassembly.specs.Segments.{DirectionState}
use Rattle.flow_lanes.specs.declared.job.Job.{Job}
use Rattle.flow_lanes.specs.Flows.{Detection, FlowState, flow_of, same_number}
use Rattle.flow_lanes.specs.LanesAfter.{KeptFlow, LaneState, AreAfter, LanesState, is_in_lane, is_of_flow, kept_after, kept_of, lane_of, state_kept}
use Rattle.flow_lanes.specs.Holding.{IsLimitedJob, counted_segments, held_bytes, held_segments, in_lanes, is_seen, of_sides, seen_after, seen_of, waiting_bytes}
use Rattle.flow_lanes.proofs.Held.Sides.{IsFew, IsIdle, counted-few, counted-idle, waiting-few, waiting-idle}
use Rattle.flow_lanes.proofs.Held.Sessions.{HoldsFew, HoldsState, kept-after}

-- ---- the jobs of a flow among those of its lane

module _ {X : Type 0} (p q : X → Bool) where
  filter-both : (xs : List X) → ((x : X) → p x ≡ true → q x ≡ true) → filter p (filter q xs) ≡ filter p xs
  filter-both [] all = refl
  filter-both (x ∷ xs) all = by (q x) refl (p x) refl (filter-both xs all)
    where
      by : (a : Bool) → q x ≡ a → (b : Bool) → p x ≡ b → filter p (filter q xs) ≡ filter p xs → filter p (cond a (x ∷ filter q xs) (filter q xs)) ≡ cond b (x ∷ filter p xs) (filter p xs)
      by true in_q b is later = ap (λ (c : Bool). cond c (x ∷ filter p (filter q xs)) (filter p (filter q xs))) is ∙ ap (λ (l : List X). cond b (x ∷ l) l) later
      by false not_q true is later = absurd (false≢true (sym not_q ∙ all x is))
      by false not_q false is later = later

  filter-none : (xs : List X) → ((x : X) → p x ≡ true → q x ≡ false) → filter p (filter q xs) ≡ []
  filter-none [] none = refl
  filter-none (x ∷ xs) none = by (q x) refl (p x) refl (filter-none xs none)
    where
      by : (a : Bool) → q x ≡ a → (b : Bool) → p x ≡ b → filter p (filter q xs) ≡ [] → filter p (cond a (x ∷ filter q xs) (filter q xs)) ≡ []
      by true in_q true is later = absurd (false≢true (sym (none x is) ∙ in_q))
      by true in_q false is later = ap (λ (c : Bool). cond c (x ∷ filter p (filter q xs)) (filter p (filter q xs))) is ∙ later
      by false not_q b is later = later

same-flow : (flow : ℕ) (found : Option ℕ) → same_number (Some flow) found ≡ true → found ≡ Some flow
same-flow flow None own = absurd (false≢true own)
same-flow flow (Some other) own = ap Some (sym (eqb-true flow other own))

own_lane : (count place flow : ℕ) (job : Job) → is_of_flow flow job ≡ true → is_in_lane count place job ≡ (lane_of count (Some flow) == place)
own_lane count place flow job is = ap (λ (found : Option ℕ). lane_of count found == place) (same-flow flow (flow_of job) is)

-- the jobs of the flow tell that TCP was seen
seen-filter : (flow : ℕ) (jobs : List Job) (was : Bool) → fold (λ seen (job : Job). seen_after seen job.work) was (filter (is_of_flow flow) jobs) ≡ fold (seen_of flow) was jobs
seen-filter flow [] was = refl
seen-filter flow (job ∷ jobs) was = by (is_of_flow flow job) (λ now. seen-filter flow jobs now)
  where
    by : (b : Bool)
        → ((now : Bool) →
        fold (λ seen (j : Job). seen_after seen j.work) now (filter (is_of_flow flow) jobs) ≡ fold (seen_of flow) now jobs)
        → fold (λ seen (j : Job). seen_after seen j.work) was
        (cond b (job ∷ filter (is_of_flow flow) jobs) (filter (is_of_flow flow) jobs)) ≡
        fold (seen_of flow) (cond b (seen_after was job.work) was) jobs
    by true later = later (seen_after was job.work)
    by false later = later was

-- ---- a sum of which one element alone counts

zero-suc : (n : ℕ) → (0 == suc n) ≡ false
zero-suc n = grind (arith, nat_tests)

suc-zero : (n : ℕ) → (suc n == 0) ≡ false
suc-zero n = grind (arith, nat_tests)

suc-suc : (m n : ℕ) → (suc m == suc n) ≡ (m == n)
suc-suc m n = by (m == n) refl
  where
    by : (b : Bool) → (m == n) ≡ b → (suc m == suc n) ≡ b
    by true is = eq-eqb (suc m) (suc n) (ap suc (eqb-true m n is))
    by false is = grind (arith, nat_tests, is)

at_most-nothing : (n : ℕ) (b : Bool) → n ≤ 0 → n ≤ cond b 0 0
at_most-nothing n true is = is
at_most-nothing n false is = is

only-one : {X : Type 0} (f : X → ℕ) (xs : List X) (at most : ℕ) → ((place : ℕ) (x : X) → slice_get xs place ≡ Some x → f x ≤ cond (at == place) most 0) → sum_by f xs ≤ most
only-one f [] at most few = omega arith
only-one f (x ∷ xs) zero most few =
    let first : f x ≤ most = few 0 x refl in
    let rest : sum_by f xs ≤ 0 = only-one f xs 0 0 (λ place y is. at_most-nothing (f y) (0 == place) (subst (λ (b : Bool). f y ≤ cond b most 0) (zero-suc place) (few (suc place) y is))) in
    omega (arith, sum_by-cons f x xs, first, rest)
only-one f (x ∷ xs) (suc at) most few =
    let first : f x ≤ 0 = subst (λ (b : Bool). f x ≤ cond b most 0) (suc-zero at) (few 0 x refl) in
    let rest : sum_by f xs ≤ most = only-one f xs at most (λ place y is. subst (λ (b : Bool). f y ≤ cond b most 0) (suc-suc at place) (few (suc place) y is)) in
    omega (arith, sum_by-cons f x xs, first, rest)

-- ---- one flow

-- what is counted of a direction is no more than this, and nothing of one that holds nothing
pub record Counts (counted : DirectionState → ℕ) (bytes segs most : ℕ) : Type 0 where
  pub few : (direction : DirectionState) → IsFew bytes segs direction → counted direction ≤ most
  pub none : (direction : DirectionState) → IsIdle direction → counted direction ≤ 0

module _ (counted : DirectionState → ℕ) (bytes segs most : ℕ) (counts : Counts counted bytes segs most) where
  sides-most : (s : FlowState) (seen : Bool) → HoldsFew bytes segs s.session seen
      → counted s.session.client.direction + counted s.session.server.direction ≤ cond seen (2 * most) 0
  sides-most s true holds = omega (arith, counts.few s.session.client.direction holds.client, counts.few s.session.server.direction holds.server)
  sides-most s false holds = by s.session.state.tcp refl
    where
      by : (b : Bool) → s.session.state.tcp ≡ b → counted s.session.client.direction + counted s.session.server.direction ≤ 0
      by true is = absurd (false≢true (holds.known is))
      by false is = let none = holds.plain is in omega (arith, counts.none s.session.client.direction none.0, counts.none s.session.server.direction none.1)

  state-most : (d : Detection) (o : Option FlowState) (seen : Bool) → HoldsState d.making bytes segs o seen
      → option_map_or (λ (s : FlowState). counted s.session.client.direction + counted s.session.server.direction) o 0 ≤ cond seen (2 * most) 0
  state-most d None seen holds = omega arith
  state-most d (Some s) seen holds = sides-most s seen holds

  kept-most : (d : Detection) (kept : Option KeptFlow) (seen : Bool) → HoldsState d.making bytes segs (state_kept kept) seen
      → option_map_or (of_sides counted) kept 0 ≤ cond seen (2 * most) 0
  kept-most d None seen holds = omega arith
  kept-most d (Some kept) seen holds = state-most d kept.found seen holds

  module _ (d : Detection) (lanes : LanesState) (before : List Job) (hold : AreAfter d lanes before) (limited : All (IsLimitedJob d.making bytes segs) before) (flow : ℕ) where
    abbrev of_flow : List Job
    of_flow = filter (is_of_flow flow) before

    own-most : option_map_or (of_sides counted) (kept_after d of_flow) 0 ≤ cond (is_seen flow before) (2 * most) 0
    own-most =
        kept-most d (kept_after d of_flow) (is_seen flow before)
        (subst (HoldsState d.making bytes segs (state_kept (kept_after d of_flow))) (seen-filter flow before false)
        (kept-after d bytes segs of_flow None false (All-filter (is_of_flow flow) (IsLimitedJob d.making bytes segs) before limited) tt))

    lane-most : (place : ℕ) (lane : LaneState) → slice_get lanes.lanes place ≡ Some lane
        → option_map_or (of_sides counted) (kept_of lane flow) 0 ≤ cond (lane_of (length lanes.lanes) (Some flow) == place) (cond (is_seen flow before) (2 * most) 0) 0
    lane-most place lane is = by (lane_of (length lanes.lanes) (Some flow) == place) refl
      where
        in_lane : List Job
        in_lane = filter (is_in_lane (length lanes.lanes) place) before

        kept : kept_of lane flow ≡ kept_after d (filter (is_of_flow flow) in_lane)
        kept = (hold.each place lane is).flows flow

        by : (b : Bool) → (lane_of (length lanes.lanes) (Some flow) == place) ≡ b → option_map_or (of_sides counted) (kept_of lane flow) 0 ≤ cond b (cond (is_seen flow before) (2 * most) 0) 0
        by true here =
            let same = kept ∙ ap (kept_after d) (filter-both (is_of_flow flow) (is_in_lane (length lanes.lanes) place) before (λ job own. own_lane (length lanes.lanes) place flow job own ∙ here)) in
            subst (λ (k : Option KeptFlow). option_map_or (of_sides counted) k 0 ≤ cond (is_seen flow before) (2 * most) 0) (sym same) own-most
        by false other =
            let same = kept ∙ ap (kept_after d) (filter-none (is_of_flow flow) (is_in_lane (length lanes.lanes) place) before (λ job own. own_lane (length lanes.lanes) place flow job own ∙ other)) in
            subst (λ (k : Option KeptFlow). option_map_or (of_sides counted) k 0 ≤ 0) (sym same) (omega arith)

    flow-most : in_lanes counted lanes flow ≤ cond (is_seen flow before) (2 * most) 0
    flow-most =
        only-one (λ (lane : LaneState). option_map_or (of_sides counted) (kept_of lane flow) 0)
        lanes.lanes
        (lane_of (length lanes.lanes) (Some flow))
        (cond (is_seen flow before) (2 * most) 0) lane-most

pub bytes-few : (d : Detection) (lanes : LanesState) (before : List Job) (flow bytes segs : ℕ) → AreAfter d lanes before → All (IsLimitedJob d.making bytes segs) before
    → held_bytes lanes flow ≤ cond (is_seen flow before) (2 * bytes) 0
bytes-few d lanes before flow bytes segs hold limited =
    flow-most waiting_bytes bytes segs bytes (record { few = waiting-few bytes segs; none = waiting-idle }) d lanes before hold limited flow

pub segments-few : (d : Detection) (lanes : LanesState) (before : List Job) (flow bytes segs : ℕ) → AreAfter d lanes before → All (IsLimitedJob d.making bytes segs) before
    → held_segments lanes flow ≤ cond (is_seen flow before) (2 * segs) 0
segments-few d lanes before flow bytes segs hold limited =
    flow-most counted_segments bytes segs segs (record { few = counted-few bytes segs; none = counted-idle }) d lanes before hold limited flow
