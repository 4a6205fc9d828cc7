-- A job that is done by what is kept of flows is answered, whatever jobs the lane stood for.
use Rattle.std.proofs.Common.{◌≡◌, ℕ, ◌==◌, Bool, true, false, cond, List, [], ◌∷◌, Option, Some, None, refl, sym, ap, subst, ◌∙◌, arith, ◌+◌, ◌≤◌, length-append}
use Rattle.std.specs.Prelude.{fold, length, option_and_then}
use Rattle.std.specs.List.{filter}
use Rattle.std.proofs.lemmas.Bool.Decides.{nat_tests}
use Rattle.edge_io.specs.declared.moment.Moment.{Moment}
use Rattle.edge_io.specs.declared.pattern.Span.{Span}
use Rattle.conf_types.specs.declared.config.StreamConfig.{StreamConfig}
use Rattle.option_eval.specs.Places.{Means}
use Rattle.option_eval.specs.RuleSet.{Rules}
use Rattle.packet_decode.specs.declared.item.ItemHead.{ItemHead}
use Rattle.rule_eval.specs.Hits.{Trying}
use Rattle.flow_lanes.specs.declared.answer.JobFound.{JobFound}
use Rattle.flow_lanes.specs.declared.job.Job.{Job}
use Rattle.flow_lanes.specs.declared.job.Toward.{Toward}
use Rattle.flow_lanes.specs.declared.job.Work.{Work}
use Rattle.flow_lanes.specs.declared.job.Work.TheVariants as work
use Rattle.flow_lanes.specs.Batching.{SearchesJob}
use Rattle.flow_lanes.specs.Detecting.{Leaves, gain_of}
use Rattle.flow_lanes.specs.Engines.{Making}
use Rattle.flow_lanes.specs.Flows.{Detection, FlowState, all_items, flow_of, flow_state, hits, hits_in, items, same_flow}
use Rattle.flow_lanes.specs.Flows.{same_number, session_at_hand, state_after_one, tries, work_items, bits_at_hand, bits_found}
use Rattle.flow_lanes.specs.Given.{Inspection}
use Rattle.flow_lanes.specs.Items.{JobItems, alone_items, finish_items}
use Rattle.flow_lanes.specs.ItemHits.{hits_of, told}
use Rattle.flow_lanes.specs.Kept.{Sets, facts_after_packet, kept_in}
use Rattle.flow_lanes.specs.Sessions.{Packet}
use Rattle.flow_lanes.specs.Sound.{FlowFacts, IsSoundFor, facts_after_one, facts_after_work}
use Rattle.flow_lanes.specs.LanesAfter.{AnswersJob, CountsTries, DetectsBy, KeptFlow, LaneState, LearnsJob, IsAfter, facts_kept, kept_of, state_kept}
use Rattle.flow_lanes.specs.Tried.{ByTest, SoFar, Tallied, TriesBy, candidates_of, of_job}
use Rattle.flow_lanes.specs.Work.{CountsVisits, visits, visits_over}
use Rattle.flow_lanes.specs.Whole.{IsDone, KeepsBy, found_for, kept_by}
use Rattle.flow_lanes.proofs.Jobs.IsAfter.{HasDone-holds, IsAfter-finds}
use Rattle.flow_lanes.proofs.Sessions.AreShort.{job_short}
use Rattle.flow_lanes.proofs.ItemHits.Tried.{length-hits_of}

cond_then : {A : Type 0} (b : Bool) (x y z : A) → (b ≡ true → x ≡ y) → cond b x z ≡ cond b y z
cond_then true x y z same = same refl
cond_then false x y z same = refl

-- the flow of the job goes on, and no other
sets_flows : (flow : ℕ) (kept : Option KeptFlow) (by : Option KeptFlow → Option KeptFlow) (old new : List (ℕ × KeptFlow)) → Sets flow kept old new → kept ≡ by (kept_in old flow)
    → (other : ℕ) → kept_in new other ≡ cond (other == flow) (by (kept_in old other)) (kept_in old other)
sets_flows flow kept by old new sets is other =
    sets other ∙ cond_then (other == flow) kept (by (kept_in old other)) (kept_in old other) (λ e. let same : flow ≡ other = grind (arith, nat_tests) in is ∙ ap (λ f. by (kept_in old f)) same)

sets_facts : (flow : ℕ) (kept : Option KeptFlow) (by : Option FlowFacts → Option FlowFacts) (old new : List (ℕ × KeptFlow))
    → Sets flow kept old new
    → facts_kept kept ≡ by (facts_kept (kept_in old flow))
    → (other : ℕ)
    → facts_kept (kept_in new other) ≡ cond (other == flow) (by (facts_kept (kept_in old other))) (facts_kept (kept_in old other))
sets_facts flow kept by old new sets is other =
    ap facts_kept (sets other) ∙ apart (other == flow) kept (kept_in old other)
    ∙ cond_then (other == flow) (facts_kept kept) (by (facts_kept (kept_in old other))) (facts_kept (kept_in old other))
    (λ e. let same : flow ≡ other = grind (arith, nat_tests) in is ∙ ap (λ f. by (facts_kept (kept_in old f))) same)
  where
    apart : (b : Bool) (x y : Option KeptFlow) → facts_kept (cond b x y) ≡ cond b (facts_kept x) (facts_kept y)
    apart true x y = refl
    apart false x y = refl

-- the packet of a job
abbrev packet_at : Moment → ItemHead → List ℕ → Toward → Toward → Packet
packet_at moment head payload to_dst to_src = record { head = head; payload = payload; moment = moment; to_dst = to_dst; to_src = to_src }

-- a packet of a flow is done
packet-done : (making : Making) (trying : Trying) (moment : Moment) (flow : ℕ) (head : ItemHead) (payload : List ℕ) (to_dst to_src : Toward) (old new : List (ℕ × KeptFlow)) (kept : KeptFlow)
    → Sets flow (Some kept) old new
    → Leaves trying making (packet_at moment head payload to_dst to_src) (state_kept (kept_in old flow)) kept.found
    → kept.facts ≡ facts_after_packet (packet_at moment head payload to_dst to_src) (facts_kept (kept_in old flow))
    → KeepsBy trying making moment (work.Packet flow head payload to_dst to_src) old new
packet-done making trying moment flow head payload to_dst to_src old new kept sets leaves facts =
    sets_flows flow (Some kept) (kept_by making trying moment (work.Packet flow head payload to_dst to_src)) old new sets
    (λ i. Some (record { facts = facts i; found = leaves i }))

packet-facts : (moment : Moment) (flow : ℕ) (head : ItemHead) (payload : List ℕ) (to_dst to_src : Toward) (old new : List (ℕ × KeptFlow)) (kept : KeptFlow)
    → Sets flow (Some kept) old new
    → kept.facts ≡ facts_after_packet (packet_at moment head payload to_dst to_src) (facts_kept (kept_in old flow))
    → (other : ℕ) → facts_kept (kept_in new other)
    ≡ cond (same_number (Some other) (Some flow)) (facts_after_work (facts_kept (kept_in old other)) moment (work.Packet flow head payload to_dst to_src)) (facts_kept (kept_in old other))
packet-facts moment flow head payload to_dst to_src old new kept sets facts =
    sets_facts flow (Some kept) (λ f. facts_after_work f moment (work.Packet flow head payload to_dst to_src)) old new sets (ap Some facts)

finish-facts : (moment : Moment) (flow : ℕ) (old new : List (ℕ × KeptFlow)) → Sets flow None old new
    → (other : ℕ) → facts_kept (kept_in new other)
    ≡ cond (same_number (Some other) (Some flow)) (facts_after_work (facts_kept (kept_in old other)) moment (work.Finish flow)) (facts_kept (kept_in old other))
finish-facts moment flow old new sets = sets_facts flow None (λ f. facts_after_work f moment (work.Finish flow)) old new sets refl

-- the parts of what is done are those of the definition
module _ {P : Type 0} (by : Inspection P) (making : Making) (moment : Moment) where
  pub do-packet : (flow : ℕ) (head : ItemHead) (payload : List ℕ) (to_dst to_src : Toward) (old new : List (ℕ × KeptFlow)) (found : Option KeptFlow) (kept : KeptFlow) (given : SoFar)
      → found ≡ kept_in old flow → Sets flow (Some kept) old new
      → Tallied by (gain_of making (packet_at moment head payload to_dst to_src) (state_kept found)) given
      → ByTest by (λ trying. Leaves trying making (packet_at moment head payload to_dst to_src) (state_kept found) kept.found)
      → kept.facts ≡ facts_after_packet (packet_at moment head payload to_dst to_src) (facts_kept found)
      → IsDone by making moment (work.Packet flow head payload to_dst to_src) old new given
  do-packet flow head payload to_dst to_src old new found kept given is sets tallied leaves facts =
      let p : Packet = packet_at moment head payload to_dst to_src in
      let facts_are : kept.facts ≡ facts_after_packet p (facts_kept (kept_in old flow)) = facts ∙ ap (λ (f : Option KeptFlow). facts_after_packet p (facts_kept f)) is in
      record {
        tallied = subst (λ (f : Option KeptFlow). Tallied by (gain_of making p (state_kept f)) given) is tallied;
        flows = λ means trying tried.
            packet-done making trying moment flow head payload to_dst to_src old new kept sets
            (subst (λ (f : Option KeptFlow). Leaves trying making p (state_kept f) kept.found) is (leaves means trying tried)) facts_are;
        facts = packet-facts moment flow head payload to_dst to_src old new kept sets facts_are;
      }

  pub do-finish : (flow : ℕ) (old new : List (ℕ × KeptFlow)) (found : Option KeptFlow) (given : SoFar) → found ≡ kept_in old flow → Sets flow None old new
      → Tallied by (of_job (finish_items moment (session_at_hand (state_kept found))) (state_kept found)) given
      → IsDone by making moment (work.Finish flow) old new given
  do-finish flow old new found given is sets tallied = record {
    tallied = subst (λ (f : Option KeptFlow). Tallied by (of_job (finish_items moment (session_at_hand (state_kept f))) (state_kept f)) given) is tallied;
    flows = λ means trying tried. sets_flows flow None (kept_by making trying moment (work.Finish flow)) old new sets refl;
    facts = finish-facts moment flow old new sets;
  }

  pub do-alone : (head : ItemHead) (payload : List ℕ) (flows : List (ℕ × KeptFlow)) (given : SoFar)
      → Tallied by (of_job (alone_items head payload) None) given → IsDone by making moment (work.Alone head payload) flows flows given
  do-alone head payload flows given tallied = record { tallied = tallied; flows = λ means trying tried flow. refl; facts = λ flow. refl }

-- an item by itself has no earlier job of its flow
no_flow : (before : List Job) → filter (λ other. same_number None (flow_of other)) before ≡ []
no_flow [] = refl
no_flow (job ∷ before) = no_flow before

-- what a job finds is what the earlier jobs of its flow leave
found-is : (d : Detection) (old : LaneState) (before : List Job) (number : ℕ) (moment : Moment) (w : Work) → IsAfter d old before
    → found_for old.flows w ≡ flow_state d (filter (same_flow (record { number = number; moment = moment; work = w })) before)
unfolding flow_state
found-is d old before number moment (work.Alone head payload) holds = ap (λ jobs. fold (state_after_one d) None jobs) (sym (no_flow before))
found-is d old before number moment (work.Packet flow head payload to_dst to_src) holds =
    IsAfter-finds d old before (record { number = number; moment = moment; work = work.Packet flow head payload to_dst to_src }) flow refl holds
found-is d old before number moment (work.Finish flow) holds =
    IsAfter-finds d old before (record { number = number; moment = moment; work = work.Finish flow }) flow refl holds

-- each item of a job has its rules
length-hits_in : (trying : Trying) (given : JobItems) (state : Option FlowState) → length (hits_in trying given state) ≡ length (all_items given)
unfolding hits_in
length-hits_in trying given state =
    length-append (hits_of trying (bits_at_hand state) given.ended) (hits_of trying (bits_found given state) given.current)
    ∙ (λ i. length-hits_of trying (bits_at_hand state) given.ended i + length-hits_of trying (bits_found given state) given.current i)
    ∙ sym (length-append given.ended given.current)

-- a search that tells all items answers the job, and counts its candidates
module _ {P : Type 0} (finds : P → List ℕ → Option Span) (stream : StreamConfig) (set : Rules P) (old new : LaneState) (job : Job) (found : JobFound)
    (searches : SearchesJob (record { finds = finds; stream = stream; set = set; all = true }) old job found new) where
  pub answers-job : AnswersJob finds stream set old job found.hits new
  answers-job means d before detects holds =
      let is = searches means d before detects holds in
      record { right = ap (λ (f : JobFound). f.hits) is.right; short = is.short; holds = is.holds }

  pub counts-tries : CountsTries finds stream set old job found.tries
  counts-tries means d before detects holds = ap (λ (f : JobFound). f.tries) (searches means d before detects holds).right

-- the lane makes items by what the definition makes them by
abbrev making_by : LaneState → StreamConfig → Making
making_by old stream = record { flush = old.flush; inserts = old.inserts; stream = stream }

module _ {P : Type 0} (by : Inspection P) (old new : LaneState) (job : Job) (given : SoFar) (done : IsDone by (making_by old by.stream) job.moment job.work old.flows new.flows given) where
  abbrev making : Making
  making = making_by old by.stream

  one_making : (means : Means) (d : Detection) (before : List Job) → DetectsBy by.finds means by.stream by.set d → IsAfter d old before → making ≡ d.making
  one_making means d before detects holds = λ i. record { flush = holds.flush i; inserts = holds.inserts i; stream = sym detects.config i }

  pub searches-job : (engines : ℕ) (facts : Option FlowFacts) (found : JobFound) → IsSoundFor engines facts job → new.flush ≡ old.flush → new.inserts ≡ old.inserts
      → found.hits.number ≡ job.number → found.hits.items ≡ given.hits → found.items ≡ given.items → found.tries ≡ given.tries → SearchesJob by old job found new
  unfolding hits tries items state_after_one
  searches-job engines facts found sound flush inserts number told_are items_are tries_are = λ means d before detects holds.
      let tried : TriesBy by.finds means by.set d.trying = record { rules = detects.rules; made = detects.made; told = detects.told } in
      let same : making ≡ d.making = one_making means d before detects holds in
      let keeps : KeepsBy d.trying d.making job.moment job.work old.flows new.flows =
      subst (λ (m : Making). KeepsBy d.trying m job.moment job.work old.flows new.flows) same (done.flows means d.trying tried) in
      let at_hand = found-is d old before job.number job.moment job.work holds in
      let state : Option FlowState = flow_state d (filter (same_flow job) before) in
      let given_items : JobItems = work_items d.making job.moment job.work (session_at_hand state) in
      let hits_are : found.hits.items ≡ told by.all (hits_in d.trying given_items state) =
      told_are ∙ done.tallied.hits means d.trying tried
      ∙ (λ i. told by.all (hits_in d.trying (work_items (same i) job.moment job.work (session_at_hand (at_hand i))) (at_hand i))) in
      let counted : found.items ≡ length (hits_in d.trying given_items state) =
      items_are ∙ done.tallied.items ∙ (λ i. length (all_items (work_items (same i) job.moment job.work (session_at_hand (at_hand i))))) ∙ sym (length-hits_in d.trying given_items state) in
      record {
        right = λ i. record {
          hits = record { number = number i; items = hits_are i };
          items = counted i;
          tries = (tries_are ∙ done.tallied.tries
              ∙ (λ j. candidates_of (sym detects.rules j) (all_items (work_items (same j) job.moment job.work (session_at_hand (at_hand j)))))) i;
        };
        short = job_short d engines facts before job sound;
        holds = HasDone-holds d old job new before (record { flush = flush; inserts = inserts; flows = keeps }) holds;
      }

  -- the visits of the job are those of its items at most
  pub counts-visits : CountsVisits by.finds by.stream by.set old job given.visits
  unfolding visits items
  counts-visits means d before detects holds =
      let same : making ≡ d.making = one_making means d before detects holds in
      let at_hand = found-is d old before job.number job.moment job.work holds in
      subst (λ (n : ℕ). given.visits ≤ n)
      (λ j. visits_over (sym detects.rules j) (all_items (work_items (same j) job.moment job.work (session_at_hand (at_hand j)))))
      (done.tallied.visits means detects.made)

  pub learns-job : LearnsJob old job new
  learns-job other = by_flow (flow_of other)
    where
      by_flow : (flow : Option ℕ)
          → option_and_then (λ f. facts_kept (kept_of new f)) flow ≡
          fold facts_after_one (option_and_then (λ f. facts_kept (kept_of old f)) flow)
          (cond (same_number flow (flow_of job)) (job ∷ []) [])
      by_flow None = refl
      by_flow (Some flow) = done.facts flow ∙ by_test (same_number (Some flow) (flow_of job)) (facts_kept (kept_of old flow))
        where
          by_test : (b : Bool) (known : Option FlowFacts) → cond b (facts_after_work known job.moment job.work) known ≡ fold facts_after_one known (cond b (job ∷ []) [])
          by_test true known = refl
          by_test false known = refl
