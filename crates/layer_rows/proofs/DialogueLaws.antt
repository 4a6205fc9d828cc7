-- A dialogue goes on, and each of its turns is sound.
use Rattle.std.proofs.Common.{◌≡◌, ℕ, ◌+◌, ◌^◌, ◌<◌, ◌≤◌, Bool, true, cond, [], ◌∷◌, Option, Some, None, refl, sym, ap, subst, ◌∙◌, arith}
use Rattle.std.specs.Prelude.{IfSome, fold}
use Rattle.std.specs.Option.{option_map_or}
use Rattle.std.proofs.lemmas.Bool.Decides.{nat_tests}
use Rattle.edge_io.specs.declared.moment.Moment.{Moment}
use Rattle.edge_io.specs.declared.policy.Preference.{Preference}
use Rattle.stream5_sessions.specs.Keys.{key_of}
use Rattle.flow_lanes.specs.declared.job.Job.{Job}
use Rattle.flow_lanes.specs.declared.job.Work.{Work}
use Rattle.flow_lanes.specs.declared.job.Work.TheVariants as work
use Rattle.layer_rows.specs.Dialogue.{IsDialogue, IsFewTurns, IsTurnHead, IsTurnJob, IsTurnWork, dialogue_ends, tcp_head}
use Rattle.flow_lanes.specs.Flows.{flow_of_work, same_number}
use Rattle.flow_lanes.specs.Sessions.{Packet}
use Rattle.flow_lanes.specs.declared.facts.FlowFacts.{FlowFacts}
use Rattle.flow_lanes.specs.Sound.{IsSoundFor, ends_of, facts_after_one, facts_after_work}
use Rattle.flow_lanes.specs.LanesAfter.{LaneState, LearnsJob, facts_kept, kept_of, known_of}

ends_same : (preference : Preference) (done : ℕ) (known : Option FlowFacts) (p : Packet)
    → ends_of p ≡ dialogue_ends preference
    → IfSome known (IsFewTurns preference done)
    → IfSome known (λ f. f.ends ≡ ends_of p)
ends_same preference done None p ends few = tt
ends_same preference done (Some f) p ends few = few.ends ∙ sym ends

few_enough : (preference : Preference) (done : ℕ) (known : Option FlowFacts) → done < 2 ^ 32 → IfSome known (IsFewTurns preference done) → IfSome known (λ f. f.packets < 2 ^ 32)
few_enough preference done None below few = tt
few_enough preference done (Some f) below few = let here = few.packets in omega arith

sound_turn : (preference : Preference) (lane : LaneState) (done : ℕ) (number : ℕ) (moment : Moment) (w : Work) (engines : ℕ)
    → IsTurnWork preference moment w
    → IsDialogue preference lane done
    → done < 2 ^ 32
    → IsSoundFor engines (facts_kept (kept_of lane 0)) (record { number = number; moment = moment; work = w })
sound_turn preference lane done number moment (work.Alone head payload) engines turn so_far below = tt
sound_turn preference lane done number moment (work.Packet flow head payload to_dst to_src) engines turn so_far below =
    let known = facts_kept (kept_of lane 0) in
    let first = turn.to_dst in
    let second = turn.to_src in
    record {
      protocol = turn.protocol;
      same_ends = ends_same preference done known (record { head = head; payload = payload; moment = moment; to_dst = to_dst; to_src = to_src }) turn.ends so_far;
      few = few_enough preference done known below so_far;
      size = turn.size;
      to_dst = omega arith;
      to_src = omega arith;
    }
sound_turn preference lane done number moment (work.Finish flow) engines turn so_far below = tt

-- the lane knows of a turn's flow what it knows of flow 0
known_of_turn : (preference : Preference) (lane : LaneState) (number : ℕ) (moment : Moment) (w : Work)
    → IsTurnWork preference moment w
    → known_of lane (record { number = number; moment = moment; work = w }) ≡ facts_kept (kept_of lane 0)
known_of_turn preference lane number moment (work.Alone head payload) turn = absurd turn
known_of_turn preference lane number moment (work.Packet flow head payload to_dst to_src) turn = ap (λ f. facts_kept (kept_of lane f)) turn.flow_is
known_of_turn preference lane number moment (work.Finish flow) turn = ap (λ f. facts_kept (kept_of lane f)) turn

pub dialogue-sound : (preference : Preference) (lane : LaneState) (done : ℕ) (job : Job) (engines : ℕ)
    → IsTurnJob preference job
    → IsDialogue preference lane done
    → done < 2 ^ 32
    → IsSoundFor engines (known_of lane job) job
dialogue-sound preference lane done job engines turn so_far below =
    subst (λ (known : Option FlowFacts). IsSoundFor engines known job) (sym (known_of_turn preference lane job.number job.moment job.work turn))
    (sound_turn preference lane done job.number job.moment job.work engines turn so_far below)

more_turns : (preference : Preference) (done : ℕ) (known : Option FlowFacts) (moment : Moment) (w : Work)
    → IsTurnWork preference moment w
    → IfSome known (IsFewTurns preference done)
    → IfSome (facts_after_work known moment w) (IsFewTurns preference (done + 1))
more_turns preference done known moment (work.Alone head payload) turn few = absurd turn
more_turns preference done known moment (work.Packet flow head payload to_dst to_src) turn few = record { ends = turn.ends; packets = counted known few }
  where
    counted : (known : Option FlowFacts) → IfSome known (IsFewTurns preference done) → option_map_or (λ (f : FlowFacts). f.packets + 1) known 1 ≤ done + 1
    counted None few = omega arith
    counted (Some f) few = let here = few.packets in omega arith
more_turns preference done known moment (work.Finish flow) turn few = tt

same_turn : (preference : Preference) (number : ℕ) (moment : Moment) (w : Work) → IsTurnWork preference moment w → same_number (flow_of_work w) (flow_of_work w) ≡ true
same_turn preference number moment (work.Alone head payload) turn = absurd turn
same_turn preference number moment (work.Packet flow head payload to_dst to_src) turn = grind (arith, nat_tests)
same_turn preference number moment (work.Finish flow) turn = grind (arith, nat_tests)

pub dialogue-more : (preference : Preference) (old new : LaneState) (done : ℕ) (job : Job)
    → IsTurnJob preference job
    → IsDialogue preference old done
    → LearnsJob old job new
    → IsDialogue preference new (done + 1)
dialogue-more preference old new done job turn so_far learns =
    let at = known_of_turn preference in
    let is : facts_kept (kept_of new 0) ≡ facts_after_work (facts_kept (kept_of old 0)) job.moment job.work =
    sym (at new job.number job.moment job.work turn) ∙ learns job
    ∙ ap (λ (b : Bool). fold facts_after_one (known_of old job) (cond b (job ∷ []) [])) (same_turn preference job.number job.moment job.work turn)
    ∙ ap (λ (known : Option FlowFacts). facts_after_work known job.moment job.work) (at old job.number job.moment job.work turn) in
    subst (λ (known : Option FlowFacts). IfSome known (IsFewTurns preference (done + 1))) (sym is) (more_turns preference done (facts_kept (kept_of old 0)) job.moment job.work turn so_far)

-- the heads of both sides
pub client-head : (flags seq ack : ℕ) → IsTurnHead (tcp_head 1 1000 2 80 flags seq ack)
unfolding key_of
client-head flags seq ack = record { protocol = tt; ends = λ preference needed payload moment. refl }

pub server-head : (flags seq ack : ℕ) → IsTurnHead (tcp_head 2 80 1 1000 flags seq ack)
unfolding key_of
server-head flags seq ack = record { protocol = tt; ends = λ preference needed payload moment. refl }
