-- A packet that leaves the session at hand as it is: its items, taken in place, are those of the definition.
use Rattle.std.proofs.Common.{◌≡◌, Bool, true, false, cond, not, List, [], ◌++◌, length, Option, Some, None, refl, sym, ap, subst, ◌∙◌}
use Rattle.std.proofs.lemmas.Bool.{false≢true}
use Rattle.std.specs.FinSet.{empty}
use Rattle.packet_decode.specs.declared.item.SessionFacts.{SessionFacts}
use Rattle.stream5_sessions.specs.declared.state.State.{State}
use Rattle.stream5_sessions.specs.declared.step.SessionRules.{SessionRules}
use Rattle.stream5_sessions.specs.declared.step.Step.{Step}
use Rattle.stream5_sessions.specs.Phases.{segment_of, session_step}
use Rattle.stream5_sessions.specs.Staying.{staying_step, stays_as_is}
use Rattle.stream5_sessions.proofs.StayLaws.{stays-tells, told-state, told-step}
use Rattle.rule_eval.specs.declared.item.Item.{Item}
use Rattle.rule_eval.specs.Hits.{Bits, Trying}
use Rattle.flow_lanes.specs.declared.session.Stretches.{Stretches}
use Rattle.flow_lanes.specs.Detecting.{GoesAt, Leaves, Settles, bits_now, gain_at, gain_of}
use Rattle.flow_lanes.specs.Engines.{Making}
use Rattle.flow_lanes.specs.Flows.{FlowState, bits_at_hand, session_at_hand}
use Rattle.flow_lanes.specs.Given.{Inspection}
use Rattle.flow_lanes.specs.Items.{is_queued, session_after}
use Rattle.flow_lanes.specs.Sessions.{Packet, FlowSession, session_of, session_rules, settled, state_of, step_of, with_bases, begun_session}
use Rattle.flow_lanes.specs.Sides.{with_base}
use Rattle.flow_lanes.specs.Staying.{StaysAt, StaysIn}
use Rattle.flow_lanes.specs.Tried.{SoFar, Tallies, of_session}
use Rattle.flow_lanes.specs.Working.{HasNoneLeft, ended_items, items_on, own_facts, own_item, streams_of, unless_ended}
use Rattle.flow_lanes.proofs.ItemHits.Tried.{tallies-none}
use Rattle.flow_lanes.proofs.Sessions.DetectsOn.{gains-on, goes-on, told-gain, told-on}
use Rattle.flow_lanes.proofs.Sessions.ItemsOn.{items-on, none-told}

-- what the table of phases tells of the packet
pub stays-in : (making : Making) (p : Packet) (old : FlowSession) (rules : SessionRules) (step : Step) (state : State)
    → rules ≡ session_rules making p (Some old)
    → stays_as_is old.state (segment_of p.head.ip p.head.body (length p.payload) p.moment) rules ≡ true
    → session_step old.state (segment_of p.head.ip p.head.body (length p.payload) p.moment) rules ≡ record { step = step; state = state }
    → HasNoneLeft old.client → HasNoneLeft old.server → StaysIn making p old step (record old { state = state })
unfolding step_of state_of
stays-in making p old rules step state by is told client server =
    let segment = segment_of p.head.ip p.head.body (length p.payload) p.moment in
    let plain : step ≡ staying_step old.state segment = told-step old.state segment rules step state told ∙ stays-tells old.state segment rules is in
    let state_is : state ≡ (session_step old.state segment (session_rules making p (Some old))).state =
    told-state old.state segment rules step state told ∙ ap (λ (r : SessionRules). (session_step old.state segment r).state) by in
    record {
      step_is = told-step old.state segment rules step state told ∙ ap (λ (r : SessionRules). (session_step old.state segment r).step) by;
      session_is = ap (λ (x : State). record old { state = x }) state_is;
      kind = record {
        tracked = ap (λ (s : Step). s.tracked) plain;
        begun = ap (λ (s : Step). s.begun) plain;
        ended_before = ap (λ (s : Step). s.ended_before) plain;
        ends = ap (λ (s : Step). s.ends) plain;
        client_base = ap (λ (s : Step). s.client_base) plain;
        server_base = ap (λ (s : Step). s.server_base) plain;
      };
      client_left = client;
      server_left = server;
    }

-- the session at hand
pub stays-at : (making : Making) (p : Packet) (before after : FlowState) (step : Step) → StaysIn making p before.session step after.session → after.bits ≡ before.bits
    → StaysAt making p (Some before) step (Some after)
unfolding session_of
stays-at making p before after step stays bits =
    let old : FlowSession = before.session in
    let state : State = state_of making p (Some old) in
    let on : Option FlowSession = Some (with_bases step (record (settled old) { state = state })) in
    record {
      step_is = stays.step_is;
      session_is =
          ap (λ (s : FlowSession). Some s) stays.session_is
          ∙ (λ i. Some (record old { state = state; client = sym stays.client_left.1 i; server = sym stays.server_left.1 i }))
          ∙ (λ i. Some (record (settled old) {
            state = state;
            client = with_base (settled old).client (sym stays.kind.client_base i);
            server = with_base (settled old).server (sym stays.kind.server_base i);
          }))
          ∙ (λ i. cond {A = Option FlowSession} (not (sym stays.kind.tracked i)) None (cond (sym stays.kind.begun i) (Some (with_bases step (begun_session making p step state))) on));
      bits = ap (λ (b : Bits). Some b) bits;
      kind = stays.kind;
      left = none-told old stays.client_left stays.server_left;
    }

module _ (making : Making) (p : Packet) (before found : Option FlowState) (step : Step) (stays : StaysAt making p before step found) where
  abbrev state : State
  state = state_of making p (session_at_hand before)

  abbrev items : List Item
  items = items_on making p step state (session_at_hand before)

  -- the streams that it flushes, and the packet itself
  pub staying-items : (left : Option Stretches) (queued : Bool) (own : Option SessionFacts) (old new : List Item) → left ≡ None → old ≡ []
      → new ≡ old ++ streams_of p step left (session_at_hand found) → queued ≡ is_queued p step (session_at_hand found)
      → own ≡ own_facts making.inserts p step queued (session_after p step (session_at_hand found)) → new ++ own_item p own ≡ items
  staying-items left queued own old new none nothing pushed held own_is =
      items-on making p step state (session_at_hand before) (session_at_hand found) None queued own [] new stays.left stays.session_is
      (pushed ∙ (λ i. nothing i ++ streams_of p step (none i) (session_at_hand found))) held own_is

  bits_kept : (tracked begun : Bool) (bits : Option Bits) → tracked ≡ true → begun ≡ false → bits ≡ cond tracked (cond begun (Some empty) bits) None
  bits_kept tracked begun bits on same = λ i. cond {A = Option Bits} (sym on i) (cond (sym same i) (Some empty) bits) None

  module _ (tried : List Item) (mid : Option FlowState) (are : tried ≡ items) (bits : bits_at_hand mid ≡ bits_at_hand found) where
    bits_are : bits_at_hand mid ≡ cond step.tracked (cond step.begun (Some empty) (bits_at_hand before)) None
    bits_are = bits ∙ stays.bits ∙ bits_kept step.tracked step.begun (bits_at_hand before) stays.kind.tracked stays.kind.begun

    -- what is gained of these
    pub staying-gain : {P : Type 0} (by : Inspection P) (one two : SoFar) → Tallies by (of_session (bits_now step.tracked mid) tried) one two
        → Tallies by (gain_at making p step before) one two
    staying-gain by one two = gains-on making p step state tried before mid are bits_are by one two

    -- the session goes on
    pub staying-on : (trying : Trying) (new : Option FlowState) → (step.ends ≡ false → session_at_hand mid ≡ session_after p step (session_at_hand found))
        → Settles trying tried step mid new → GoesAt trying making p step before new
    staying-on trying new session settles =
        goes-on making p step state tried before mid are bits_are trying new (λ on. session on ∙ ap (session_after p step) stays.session_is) settles

  -- no session ended before the packet
  none_ended : before ≡ unless_ended step.ended_before before
  none_ended = sym (ap (λ (b : Bool). unless_ended b before) stays.kind.ended_before)

  anew : step.ended_before ≡ true → step.begun ≡ step.tracked
  anew is = absurd (false≢true (sym stays.kind.ended_before ∙ is))

  nothing_ended : ended_items p.moment step.ended_before (session_at_hand before) ≡ []
  nothing_ended = ap (λ (b : Bool). ended_items p.moment b (session_at_hand before)) stays.kind.ended_before

  -- what is gained at the session at hand is all that the packet gives
  pub stayed-gain : {P : Type 0} (by : Inspection P) (one two : SoFar) → Tallies by (gain_at making p step before) one two → Tallies by (gain_of making p before) one two
  stayed-gain by one two =
      told-gain making p before before step state stays.step_is refl anew none_ended by one one two
      (subst (λ (xs : List Item). Tallies by (of_session (bits_at_hand before) xs) one one) (sym nothing_ended) (tallies-none by (bits_at_hand before) one))

  pub stayed-on : (trying : Trying) (new : Option FlowState) → GoesAt trying making p step before new → Leaves trying making p before new
  stayed-on = told-on making p before before step state stays.step_is refl anew none_ended
