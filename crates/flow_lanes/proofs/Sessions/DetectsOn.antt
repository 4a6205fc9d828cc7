-- The items of a job, tried one after another in place, give what the definition of the job gives, and leave what it leaves.
use Rattle.std.proofs.Common.{◌≡◌, ℕ, Bool, true, false, cond, drop, List, [], ◌∷◌, ◌++◌, length, Option, Some, None, unwrap_or, not, refl, sym, ap, ◌∙◌, arith}
use Rattle.std.specs.Option.{option_map_or}
use Rattle.std.proofs.lemmas.Bool.{false≢true}
use Rattle.std.proofs.lemmas.List.{append-nil}
use Rattle.edge_io.specs.declared.moment.Moment.{Moment}
use Rattle.packet_decode.specs.declared.item.ItemHead.{ItemHead}
use Rattle.std.specs.Prelude.{option_map}
use Rattle.std.specs.FinSet.{empty}
use Rattle.stream5_sessions.specs.declared.state.State.{State}
use Rattle.stream5_sessions.specs.declared.step.Step.{Step}
use Rattle.rule_eval.specs.declared.item.Item.{Item}
use Rattle.rule_eval.specs.Hits.{Bits, Trying}
use Rattle.flow_lanes.specs.declared.answer.Hits.{Hits}
use Rattle.flow_lanes.specs.Detecting.{GoesOn, Leaves, Settles, after_items, bits_now, bits_on, gain_of, gain_on}
use Rattle.flow_lanes.specs.Engines.{Making}
use Rattle.flow_lanes.specs.Flows.{FlowState, all_items, bits_at_hand, hits_in, session_at_hand, state_after, steered}
use Rattle.flow_lanes.specs.Given.{Inspection}
use Rattle.flow_lanes.specs.ItemHits.{bits_after_items, hits_of, told}
use Rattle.flow_lanes.specs.Items.{JobItems, acked_items, alone_items, finish_items, held_items, items_told, left_items, own_items, packet_items, session_after}
use Rattle.flow_lanes.specs.Sessions.{Packet, FlowSession, begun_session, session_of, settled, state_of, step_of, with_bases}
use Rattle.flow_lanes.specs.Tried.{ByTest, SoFar, Tallied, Tallies, Tries, of_job, of_session}
use Rattle.flow_lanes.specs.Working.{ended_items, items_on, sizes_after, unless_ended}
use Rattle.flow_lanes.proofs.ItemHits.Told.{steered-told, told-none}
use Rattle.flow_lanes.proofs.ItemHits.Tried.{tallied-new, tallies-same, tallies-then}

dropped : {A : Type 0} (xs ys : List A) → drop (length xs) (xs ++ ys) ≡ ys
dropped [] ys = refl
dropped (x ∷ xs) ys = dropped xs ys

-- the session at hand after its items
pub settles-by : {P : Type 0} (by : Inspection P) (items : List Item) (step : Step) (old mid bare new : Option FlowState) (bits last : Option Bits) (one two : SoFar) (first : ℕ)
    → bits ≡ bits_now step.tracked old → session_at_hand mid ≡ session_at_hand old → session_at_hand bare ≡ cond step.ends None (session_at_hand mid)
    → first ≡ length one.hits → Tries by items bits last one two
    → new ≡ option_map (λ session. record { session = steered by.set.rules (drop first two.hits) session; bits = unwrap_or last empty }) (session_at_hand bare)
    → ByTest by (λ trying. Settles trying items step old new)
settles-by by items step old mid bare new bits last one two first finds kept left at tries state means trying tried =
    let hits : List Hits = hits_of trying (bits_now step.tracked old) items in
    let hits_are : two.hits ≡ one.hits ++ told by.all hits =
    tries.tallies.hits means trying tried ∙ ap (λ (b : Option Bits). one.hits ++ told by.all (hits_of trying b items)) finds in
    let own : drop first two.hits ≡ told by.all hits = (λ i. drop (at i) (hits_are i)) ∙ dropped one.hits (told by.all hits) in
    let bare_is : session_at_hand bare ≡ cond step.ends None (session_at_hand old) = left ∙ ap (λ (s : Option FlowSession). cond step.ends None s) kept in
    let last_is : last ≡ bits_after_items trying (bits_now step.tracked old) items =
    tries.bits means trying tried ∙ ap (λ (b : Option Bits). bits_after_items trying b items) finds in
    state
    ∙ (λ i. option_map (λ (session : FlowSession). record { session = steered (sym tried.rules i) (own i) session; bits = unwrap_or (last_is i) empty }) (bare_is i))
    ∙ (λ i. option_map (λ (session : FlowSession). record {
      session = steered-told by.all trying.rules hits session i;
      bits = unwrap_or (bits_after_items trying (bits_now step.tracked old) items) empty;
    }) (cond step.ends None (session_at_hand old)))

-- the bits that the packet's items find
found-bits : (tracked begun : Bool) (mid old : Option Bits) → mid ≡ cond tracked (cond begun (Some empty) old) None
    → cond tracked (Some (unwrap_or mid empty)) None ≡ cond tracked (Some (cond begun empty (unwrap_or old empty))) None
found-bits false begun mid old is = refl
found-bits true true mid old is = ap (λ (b : Option Bits). Some (unwrap_or b empty)) is
found-bits true false mid old is = ap (λ (b : Option Bits). Some (unwrap_or b empty)) is

unless_ends : (ends : Bool) (x y : Option FlowSession) → (ends ≡ false → x ≡ y) → cond {A = Option FlowSession} ends None x ≡ cond ends None y
unless_ends true x y same = refl
unless_ends false x y same = same refl

-- the packet's session after its items
module _ (making : Making) (p : Packet) (step : Step) (state : State) (items : List Item) (old mid : Option FlowState)
    (items_are : items ≡ items_on making p step state (session_at_hand old))
    (bits : bits_at_hand mid ≡ cond step.tracked (cond step.begun (Some empty) (bits_at_hand old)) None) where
  bits_are : bits_now step.tracked mid ≡ bits_on step old
  bits_are = found-bits step.tracked step.begun (bits_at_hand mid) (bits_at_hand old) bits

  pub gains-on : {P : Type 0} (by : Inspection P) (one two : SoFar) → Tallies by (of_session (bits_now step.tracked mid) items) one two
      → Tallies by (gain_on making p step state old) one two
  gains-on by one two =
      tallies-same by (of_session (bits_now step.tracked mid) items) (gain_on making p step state old) one two (sym items_are)
      (λ means trying tried i. hits_of trying (sym bits_are i) (sym items_are i))

  pub goes-on : (trying : Trying) (new : Option FlowState)
      → (step.ends ≡ false → session_at_hand mid ≡ session_after p step (session_of making p (session_at_hand old) step state))
      → Settles trying items step mid new → GoesOn trying making p step state old new
  goes-on trying new session settles =
      let left = unless_ends step.ends (session_at_hand mid) (session_after p step (session_of making p (session_at_hand old) step state)) session in
      settles ∙ (λ i. option_map (after_items trying (bits_are i) (items_are i)) (left i))

-- after a session that ended before it, a packet begins its own or has none
begun-anew : (making : Making) (p : Packet) (step : Step) (state : State) (found : Option FlowSession)
    → step.begun ≡ step.tracked
    → session_of making p found step state ≡ session_of making p None step state
unfolding session_of
begun-anew making p step state found fresh =
    by_case step.tracked step.begun (Some (with_bases step (begun_session making p step state)))
    (option_map (λ (session : FlowSession). with_bases step (record (settled session) { state = state })) found) fresh
  where
    by_case : (t b : Bool) (x y : Option FlowSession) → b ≡ t → cond {A = Option FlowSession} (not t) None (cond b x y) ≡ cond (not t) None (cond b x None)
    by_case false b x y is = refl
    by_case true true x y is = refl
    by_case true false x y is = absurd (false≢true is)

session-anew : (b : Bool) (making : Making) (p : Packet) (step : Step) (state : State) (found : Option FlowState) → (b ≡ true → step.begun ≡ step.tracked)
    → session_of making p (session_at_hand (unless_ended b found)) step state ≡ session_of making p (session_at_hand found) step state
session-anew true making p step state found fresh = sym (begun-anew making p step state (session_at_hand found) (fresh refl))
session-anew false making p step state found fresh = refl

bits-anew : (b : Bool) (step : Step) (found : Option FlowState) → (b ≡ true → step.begun ≡ step.tracked) → bits_on step (unless_ended b found) ≡ bits_on step found
bits-anew false step found fresh = refl
bits-anew true step found fresh = by_case step.tracked step.begun (unwrap_or (bits_at_hand found) empty) (fresh refl)
  where
    by_case : (t c : Bool) (x : Bits) → c ≡ t → cond {A = Option Bits} t (Some (cond c empty empty)) None ≡ cond t (Some (cond c empty x)) None
    by_case false c x is = refl
    by_case true true x is = refl
    by_case true false x is = absurd (false≢true is)

-- the items of the packet's session are those that the definition tells
told-current : (b : Bool) (making : Making) (p : Packet) (step : Step) (state : State) (found : Option FlowState) → (b ≡ true → step.begun ≡ step.tracked)
    → items_on making p step state (session_at_hand (unless_ended b found))
    ≡ (let session : Option FlowSession = session_of making p (session_at_hand found) step state in
    let after : Option FlowSession = session_after p step session in
    let sizes : ℕ × ℕ = sizes_after after in
    (cond b [] (option_map_or (λ s. left_items s p.moment sizes) (session_at_hand found) []))
    ++ option_map_or (λ s. acked_items p step s sizes) session []
    ++ (cond step.ends (option_map_or (λ s. held_items s p.moment sizes) after []) [])
    ++ own_items making p step session after)
told-current false making p step state found fresh = refl
told-current true making p step state found fresh =
    ap (λ (session : Option FlowSession).
    let after : Option FlowSession = session_after p step session in
    let sizes : ℕ × ℕ = sizes_after after in
    [] ++ option_map_or (λ s. acked_items p step s sizes) session []
    ++ (cond step.ends (option_map_or (λ s. held_items s p.moment sizes) after []) [])
    ++ own_items making p step session after)
    (session-anew true making p step state found fresh)

module _ (making : Making) (p : Packet) (found mid : Option FlowState) (step : Step) (state : State)
    (step_is : step ≡ step_of making p (session_at_hand found)) (state_is : state ≡ state_of making p (session_at_hand found))
    (anew : step.ended_before ≡ true → step.begun ≡ step.tracked) (left : mid ≡ unless_ended step.ended_before found) where
  current-is : items_on making p step state (session_at_hand mid) ≡ (items_told making p (session_at_hand found) step state).current
  current-is = ap (λ (f : Option FlowState). items_on making p step state (session_at_hand f)) left ∙ told-current step.ended_before making p step state found anew

  told-is : items_told making p (session_at_hand found) step state ≡ packet_items making p (session_at_hand found)
  unfolding packet_items
  told-is = λ i. items_told making p (session_at_hand found) (step_is i) (state_is i)

  -- what is gained of them all
  pub told-gain : {P : Type 0} (by : Inspection P) (one two three : SoFar)
      → Tallies by (of_session (bits_at_hand found) (ended_items p.moment step.ended_before (session_at_hand found))) one two
      → Tallies by (gain_on making p step state mid) two three → Tallies by (gain_of making p found) one three
  unfolding hits_in
  told-gain by one two three =
      let ended : List Item = ended_items p.moment step.ended_before (session_at_hand found) in
      let bits_are : bits_on step mid ≡ bits_on step found = ap (bits_on step) left ∙ bits-anew step.ended_before step found anew in
      tallies-then by (of_session (bits_at_hand found) ended) (gain_on making p step state mid) (gain_of making p found) one two three
      (sym (ap (λ (items : JobItems). all_items items) told-is) ∙ ap (λ (items : List Item). ended ++ items) (sym current-is))
      (λ means trying tried.
      sym (ap (λ (items : JobItems). hits_in trying items found) told-is)
      ∙ (λ i. hits_of trying (bits_at_hand found) ended ++ hits_of trying (sym bits_are i) (sym current-is i)))

  -- what the next job finds
  pub told-on : (trying : Trying) (new : Option FlowState) → GoesOn trying making p step state mid new → Leaves trying making p found new
  unfolding state_after
  told-on trying new on =
      let bits_are : bits_on step mid ≡ bits_on step found = ap (bits_on step) left ∙ bits-anew step.ended_before step found anew in
      let session : session_of making p (session_at_hand mid) step state ≡ session_of making p (session_at_hand found) step state =
      ap (λ (f : Option FlowState). session_of making p (session_at_hand f) step state) left ∙ session-anew step.ended_before making p step state found anew in
      on
      ∙ (λ i. option_map (after_items trying (bits_are i) (current-is i)) (cond {A = Option FlowSession} step.ends None (session_after p step (session i))))
      ∙ ap (λ (items : JobItems). state_after trying items found) told-is

module _ {P : Type 0} (by : Inspection P) (none : SoFar) (hits : none.hits ≡ []) (items : none.items ≡ 0) (tries : none.tries ≡ 0) (visits : none.visits ≡ 0) where
  -- the end of a flow
  pub finished : (moment : Moment) (found : Option FlowState) (all : SoFar)
      → Tallies by (of_session (bits_at_hand found) (ended_items moment true (session_at_hand found))) none all
      → Tallied by (of_job (finish_items moment (session_at_hand found)) found) all
  unfolding hits_in finish_items hits_of
  finished moment found all gained =
      let ended : List Item = ended_items moment true (session_at_hand found) in
      tallied-new by (of_job (finish_items moment (session_at_hand found)) found) none all hits items tries visits
      (tallies-same by (of_session (bits_at_hand found) ended) (of_job (finish_items moment (session_at_hand found)) found) none all (append-nil ended)
      (λ means trying tried. append-nil (hits_of trying (bits_at_hand found) ended)) gained)

  -- nothing ends where nothing is kept
  pub nothing : (moment : Moment) → Tallied by (of_job (finish_items moment None) None) none
  unfolding hits_in finish_items hits_of
  nothing moment = record { hits = λ means trying tried. hits ∙ sym (told-none by.all); items = items; tries = tries; visits = λ means made. omega (arith, visits) }

  -- an item by itself
  pub alone : (head : ItemHead) (payload : List ℕ) (old new : Option Bits) (all : SoFar) → old ≡ None
      → Tries by (record { head = head; payload = payload } ∷ []) old new none all → Tallied by (of_job (alone_items head payload) None) all
  unfolding hits_in hits_of
  alone head payload old new all bits tried =
      let item : Item = record { head = head; payload = payload } in
      tallied-new by (of_job (alone_items head payload) None) none all hits items tries visits
      (tallies-same by (of_session old (item ∷ [])) (of_job (alone_items head payload) None) none all refl
      (λ means trying tells. ap (λ (b : Option Bits). hits_of trying b (item ∷ [])) (sym bits)) tried.tallies)
