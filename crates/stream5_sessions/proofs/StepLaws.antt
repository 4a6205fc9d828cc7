-- A session stays of its protocol, and of one that isn't of TCP nothing counts.
use Rattle.std.proofs.Common.{◌≡◌, Bool, true, false, not, ◌&&◌, cond, None, refl, sym, ap, subst, ◌∙◌}
use Rattle.std.proofs.lemmas.Bool.{false≢true}
use Rattle.stream5_sessions.specs.declared.segment.SessionSegment.{SessionSegment}
use Rattle.stream5_sessions.specs.declared.state.State.{State}
use Rattle.stream5_sessions.specs.declared.state.Change.{Change}
use Rattle.stream5_sessions.specs.Phases.{Reading}
use Rattle.stream5_sessions.specs.Phases.Reading.{Then, EndsBefore}
use Rattle.stream5_sessions.specs.declared.state.Phase.TheVariants.{Syn, Est}
use Rattle.stream5_sessions.specs.declared.step.SessionRules.{SessionRules}
use Rattle.stream5_sessions.specs.declared.step.Step.{Step}
use Rattle.stream5_sessions.specs.Phases.{no_session, state_after, taken, at_hand, is_timed_out, by_row, row_of, in_none}
use Rattle.stream5_sessions.specs.Phases.{begins, in_udp, is_from_server, is_open, session_step, stays, tcp_row}

either_tcp : (b : Bool) (one other : State) (tcp : Bool) → one.tcp ≡ tcp → other.tcp ≡ tcp
    → (cond b one other).tcp ≡ tcp
either_tcp true one other tcp h g = h
either_tcp false one other tcp h g = g

taken_tcp : (ended : Bool) (s : State) (change : Change) (p : SessionSegment) → (taken ended s change p).state.tcp ≡ s.tcp
unfolding taken
taken_tcp ended s change p = either_tcp change.ends (no_session s.tcp p.moment) (state_after s change p) s.tcp refl refl

by_row_tcp : (timed_out : Bool) (s : State) (reading : Reading) (p : SessionSegment) (needed : Bool)
    → (by_row timed_out s reading p needed).state.tcp ≡ s.tcp
by_row_tcp timed_out s (Then change) p needed = taken_tcp timed_out s change p
by_row_tcp timed_out s EndsBefore p needed = taken_tcp true (no_session s.tcp s.last) (in_none p needed) p

at_hand_tcp : (s : State) (p : SessionSegment) (rules : SessionRules) → (at_hand s p rules).tcp ≡ s.tcp
unfolding at_hand
at_hand_tcp s p rules = either_tcp (is_timed_out s p.moment rules) (no_session s.tcp s.last) s s.tcp refl refl

pub session_step_tcp : (s : State) (p : SessionSegment) (rules : SessionRules) → (session_step s p rules).state.tcp ≡ s.tcp
unfolding session_step
session_step_tcp s p rules =
    by_row_tcp (is_timed_out s p.moment rules) (at_hand s p rules) (row_of (at_hand s p rules) p rules) p rules.needed_new
    ∙ at_hand_tcp s p rules

fresh_row : (timed_out : Bool) (s : State) (reading : Reading) (p : SessionSegment) (needed : Bool)
    → (timed_out ≡ true → is_open s.phase ≡ false)
    → (by_row timed_out s reading p needed).step.ended_before ≡ true
    → (by_row timed_out s reading p needed).step.begun ≡ (by_row timed_out s reading p needed).step.tracked
unfolding taken
fresh_row timed_out s (Then change) p needed none ended = ap (λ (b : Bool). not b && is_open change.phase) (none ended)
fresh_row timed_out s EndsBefore p needed none ended = refl

none_open : (b : Bool) (s : State) → b ≡ true → is_open (cond b (no_session s.tcp s.last) s).phase ≡ false
none_open true s is = refl
none_open false s is = absurd (false≢true is)

at_hand_fresh : (s : State) (p : SessionSegment) (rules : SessionRules) → is_timed_out s p.moment rules ≡ true
    → is_open (at_hand s p rules).phase ≡ false
unfolding at_hand
at_hand_fresh s p rules is = none_open (is_timed_out s p.moment rules) s is

-- a packet before which a session ended begins its own session, if it has one
pub session_step_fresh : (s : State) (p : SessionSegment) (rules : SessionRules) → (session_step s p rules).step.ended_before ≡ true
    → (session_step s p rules).step.begun ≡ (session_step s p rules).step.tracked
unfolding session_step
session_step_fresh s p rules =
    fresh_row (is_timed_out s p.moment rules) (at_hand s p rules) (row_of (at_hand s p rules) p rules) p rules.needed_new
    (at_hand_fresh s p rules)

-- ---- a session that isn't of TCP

-- a step by which neither data nor acknowledgements count, and no base is set
pub record IsQuiet (step : Step) : Type 0 where
  pub carries : step.takes_data ≡ false
  pub acks : step.counts_ack ≡ false
  pub client : step.client_base ≡ None
  pub server : step.server_base ≡ None

record ChangesNothing (change : Change) : Type 0 where
  pub counts : change.counts ≡ false
  pub client : change.client_base ≡ None
  pub server : change.server_base ≡ None

udp-changes : (s : State) (p : SessionSegment) → ChangesNothing (in_udp s p)
unfolding in_udp
udp-changes s p = by (not (is_open s.phase)) (is_from_server s p)
  where
    by : (a b : Bool) → ChangesNothing (cond a (begins Syn p.sender None None) (cond b (record (stays s) { phase = Est }) (stays s)))
    by true b = record { counts = refl; client = refl; server = refl }
    by false true = record { counts = refl; client = refl; server = refl }
    by false false = record { counts = refl; client = refl; server = refl }

quiet-taken : (ended : Bool) (s : State) (change : Change) (p : SessionSegment) → ChangesNothing change → IsQuiet (taken ended s change p).step
unfolding taken
quiet-taken ended s change p none = record {
  carries = none.counts;
  acks = ap (λ (b : Bool). b && p.has_ack) none.counts;
  client = none.client;
  server = none.server;
}

pub session_step_quiet : (s : State) (p : SessionSegment) (rules : SessionRules) → s.tcp ≡ false → IsQuiet (session_step s p rules).step
unfolding session_step row_of
session_step_quiet s p rules plain =
    let now : State = at_hand s p rules in
    let ended : Bool = is_timed_out s p.moment rules in
    subst (λ (b : Bool). IsQuiet (by_row ended now (cond b (tcp_row now.phase now p rules) (Then (in_udp now p))) p rules.needed_new).step)
    (sym (at_hand_tcp s p rules ∙ plain)) (quiet-taken ended now (in_udp now p) p (udp-changes now p))
