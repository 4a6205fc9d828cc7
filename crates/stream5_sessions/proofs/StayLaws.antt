-- A packet that leaves the session as it is: the row that it meets, what it tells, and the session after it.
use Rattle.std.proofs.Common.{◌≡◌, ℕ, Bool, true, false, not, ◌&&◌, ◌||◌, cond, Option, Some, None, refl, sym, ap, ◌∙◌}
use Rattle.std.specs.Option.{is_some}
use Rattle.std.proofs.lemmas.Bool.{false≢true}
use Rattle.edge_io.specs.declared.moment.Moment.{Moment}
use Rattle.packet_decode.specs.declared.packet.IpHead.{IpHead}
use Rattle.packet_decode.specs.declared.packet.Body.{Body}
use Rattle.packet_decode.specs.declared.packet.Body.TheVariants as body
use Rattle.stream5_sessions.specs.declared.segment.SessionSegment.{SessionSegment}
use Rattle.stream5_sessions.specs.declared.state.Change.{Change}
use Rattle.stream5_sessions.specs.declared.state.Phase.{Phase}
use Rattle.stream5_sessions.specs.declared.state.Phase.TheVariants.{NoSession, Syn, SynAck, Est, Mid, Closing, Off}
use Rattle.stream5_sessions.specs.Phases.{Reading}
use Rattle.stream5_sessions.specs.Phases.Reading.{Then}
use Rattle.stream5_sessions.specs.declared.state.State.{State}
use Rattle.stream5_sessions.specs.declared.step.SessionRules.{SessionRules}
use Rattle.stream5_sessions.specs.declared.step.Step.{Step}
use Rattle.stream5_sessions.specs.Phases.{at_hand, begins, by_row, counts_on, ends, fin_end, in_est, in_udp, is_from}
use Rattle.stream5_sessions.specs.Phases.{is_from_server, is_open, is_timed_out, no_session, row_of, segment_of, session_step}
use Rattle.stream5_sessions.specs.Phases.{Taken, stays, taken, tcp_row}
use Rattle.stream5_sessions.specs.Staying.{has_both_fins, has_no_control, is_est, is_under_way, stays_as_is, stays_in}
use Rattle.stream5_sessions.specs.Staying.{staying_state, staying_step}

both : (a b : Bool) → (a && b) ≡ true → (a ≡ true) × (b ≡ true)
both true b h = (refl, h)
both false b h = absurd (false≢true h)

isnt : (b : Bool) → not b ≡ true → b ≡ false
isnt true h = absurd (false≢true h)
isnt false h = refl

-- the row leaves the session, and lets data count of TCP alone
abbrev staying : State → Change
staying s = record (stays s) { counts = s.tcp }

under_way : (phase : Phase) (s : State) (p : SessionSegment) (rules : SessionRules) → is_under_way phase ≡ true
    → tcp_row phase s p rules ≡ Then (in_est s p)
under_way NoSession s p rules h = absurd (false≢true h)
under_way Syn s p rules h = absurd (false≢true h)
under_way SynAck s p rules h = absurd (false≢true h)
under_way Est s p rules h = refl
under_way Mid s p rules h = refl
under_way Closing s p rules h = absurd (false≢true h)
under_way Off s p rules h = absurd (false≢true h)

-- the row of Est and Mid
counts : (s : State) (p : SessionSegment) → has_no_control p ≡ true → has_both_fins s ≡ false
    → in_est s p ≡ record (stays s) { counts = true }
unfolding in_est
counts s p plain few =
    let split = both (not p.syn && not p.fin) (not p.rst) plain in
    let syn : p.syn ≡ false = isnt p.syn (both (not p.syn) (not p.fin) split.0).0 in
    let fin : p.fin ≡ false = isnt p.fin (both (not p.syn) (not p.fin) split.0).1 in
    let rst : p.rst ≡ false = isnt p.rst split.1 in
    (λ i. cond {A = Change} (rst i) (ends s) (cond (not (syn i)) (counts_on s p) (stays s)))
    ∙ (λ i. record (stays s) {
      phase = cond {A = Phase}
          (is_some (cond (fin i && is_from s.client p) (Some (fin_end p)) s.client_fin)
          && is_some (cond (fin i && not (is_from s.client p)) (Some (fin_end p)) s.server_fin))
          Closing s.phase;
      counts = true;
    })
    ∙ (λ i. record (stays s) { phase = cond {A = Phase} (few i) Closing s.phase; counts = true })

est : (phase : Phase) → is_est phase ≡ true → phase ≡ Est
est NoSession h = absurd (false≢true h)
est Syn h = absurd (false≢true h)
est SynAck h = absurd (false≢true h)
est Est h = refl
est Mid h = absurd (false≢true h)
est Closing h = absurd (false≢true h)
est Off h = absurd (false≢true h)

-- the row of UDP
answered : (s : State) (p : SessionSegment) → is_open s.phase ≡ true → (is_est s.phase || is_from s.client p) ≡ true
    → in_udp s p ≡ stays s
unfolding in_udp
answered s p on either =
    (λ i. cond {A = Change} (not (on i)) (begins Syn p.sender None None)
    (cond (is_from_server s p) (record (stays s) { phase = Est }) (stays s)))
    ∙ by (is_est s.phase) refl (is_from s.client p) either
  where
    never : (b : Bool) → (b && false) ≡ false
    never true = refl
    never false = refl

    same : (b : Bool) (x : Change) → cond b x x ≡ x
    same true x = refl
    same false x = refl

    by : (b : Bool) → is_est s.phase ≡ b → (f : Bool) → (b || f) ≡ true
        → cond {A = Change} (is_some s.client && not f) (record (stays s) { phase = Est }) (stays s) ≡ stays s
    by true is f h =
        ap (λ (phase : Phase). cond {A = Change} (is_some s.client && not f) (record (stays s) { phase = phase }) (stays s))
        (sym (est s.phase is))
        ∙ same (is_some s.client && not f) (stays s)
    by false is true h =
        ap (λ (b : Bool). cond {A = Change} b (record (stays s) { phase = Est }) (stays s)) (never (is_some s.client))
    by false is false h = absurd (false≢true h)

row : (s : State) (p : SessionSegment) (rules : SessionRules) → is_open s.phase ≡ true → stays_in s p ≡ true
    → row_of s p rules ≡ Then (staying s)
unfolding row_of
row s p rules on is = by s.tcp is
  where
    by : (tcp : Bool)
        → cond tcp (is_under_way s.phase && has_no_control p && not (has_both_fins s)) (is_est s.phase || is_from s.client p) ≡ true
        → cond tcp (tcp_row s.phase s p rules) (Then (in_udp s p)) ≡ Then (record (stays s) { counts = tcp })
    by true h =
        let split = both (is_under_way s.phase && has_no_control p) (not (has_both_fins s)) h in
        let rest = both (is_under_way s.phase) (has_no_control p) split.0 in
        under_way s.phase s p rules rest.0 ∙ ap (λ (c : Change). Then c) (counts s p rest.1 (isnt (has_both_fins s) split.1))
    by false h = ap (λ (c : Change). Then c) (answered s p on h)

no_fin : (s : State) (p : SessionSegment) → stays_in s p ≡ true → s.tcp ≡ true → p.fin ≡ false
no_fin s p is tcp =
    let in_tcp : Bool = is_under_way s.phase && has_no_control p && not (has_both_fins s) in
    let way = ap (λ (b : Bool). cond b in_tcp (is_est s.phase || is_from s.client p)) (sym tcp) ∙ is in
    let open_way = (both (is_under_way s.phase && has_no_control p) (not (has_both_fins s)) way).0 in
    let plain = (both (is_under_way s.phase) (has_no_control p) open_way).1 in
    isnt p.fin (both (not p.syn) (not p.fin) (both (not p.syn && not p.fin) (not p.rst) plain).0).1

fins : (tcp fin f : Bool) (x y : Option ℕ) → (tcp ≡ true → fin ≡ false) → cond {A = Option ℕ} tcp (cond (fin && f) x y) y ≡ y
fins true fin f x y none = ap (λ (b : Bool). cond {A = Option ℕ} (b && f) x y) (none refl)
fins false fin f x y none = refl

left : (s : State) (p : SessionSegment) → is_open s.phase ≡ true → stays_in s p ≡ true
    → taken false s (staying s) p ≡ record { step = staying_step s p; state = staying_state s p }
unfolding taken
left s p on is =
    let client = fins s.tcp p.fin (is_from s.client p) (Some (fin_end p)) s.client_fin (no_fin s p is) in
    let server = fins s.tcp p.fin (not (is_from s.client p)) (Some (fin_end p)) s.server_fin (no_fin s p is) in
    λ i. record {
      step = record (staying_step s p) { begun = not (on i) && on i; tracked = on i };
      state = record (staying_state s p) { client_fin = client i; server_fin = server i };
    }

-- what the table of phases says of a packet that leaves the session as it is
pub stays-step : (s : State) (p : SessionSegment) (rules : SessionRules) → stays_as_is s p rules ≡ true
    → session_step s p rules ≡ record { step = staying_step s p; state = staying_state s p }
unfolding stays_as_is session_step at_hand
stays-step s p rules is =
    let split = both (is_open s.phase && not (is_timed_out s p.moment rules)) (stays_in s p) is in
    let rest = both (is_open s.phase) (not (is_timed_out s p.moment rules)) split.0 in
    let timed : is_timed_out s p.moment rules ≡ false = isnt (is_timed_out s p.moment rules) rest.1 in
    let at : at_hand s p rules ≡ s = ap (λ (b : Bool). cond {A = State} b (no_session s.tcp s.last) s) timed in
    (λ i. by_row (timed i) (at i) (row_of (at i) p rules) p rules.needed_new)
    ∙ ap (λ (reading : Reading). by_row false s reading p rules.needed_new) (row s p rules rest.0 split.1)
    ∙ left s p rest.0 split.1

-- what a packet tells that leaves the session as it is
pub stays-tells : (s : State) (p : SessionSegment) (rules : SessionRules) → stays_as_is s p rules ≡ true
    → (session_step s p rules).step ≡ staying_step s p
stays-tells s p rules is = ap (λ (t : Taken). t.step) (stays-step s p rules is)

-- the parts of what the table says
module _ (s : State) (p : SessionSegment) (rules : SessionRules) (step : Step) (state : State)
    (told : session_step s p rules ≡ record { step = step; state = state }) where
  pub told-step : step ≡ (session_step s p rules).step
  told-step = ap (λ (t : Taken). t.step) (sym told)

  pub told-state : state ≡ (session_step s p rules).state
  told-state = ap (λ (t : Taken). t.state) (sym told)

-- a packet of any body has its moment
last_of : (ip : IpHead) (body : Body) (len : ℕ) (moment : Moment) → (segment_of ip body len moment).moment ≡ moment
last_of ip (body.Tcp head) len moment = refl
last_of ip (body.Udp sport dport) len moment = refl
last_of ip (body.Icmp kind code id seq) len moment = refl
last_of ip body.Other len moment = refl
last_of ip body.Fragment len moment = refl
last_of ip (body.Stream sport dport) len moment = refl

pub stays-told : (inside s : State) (ip : IpHead) (body : Body) (len : ℕ) (moment : Moment) (rules : SessionRules) (step : Step)
    → inside ≡ s → stays_as_is inside (segment_of ip body len moment) rules ≡ true → step ≡ staying_step inside (segment_of ip body len moment)
    → session_step s (segment_of ip body len moment) rules ≡ record { step = step; state = record inside { last = moment } }
stays-told inside s ip body len moment rules step same is told =
    let p : SessionSegment = segment_of ip body len moment in
    ap (λ (state : State). session_step state p rules) (sym same) ∙ stays-step inside p rules is
    ∙ (λ i. record { step = sym told i; state = record inside { last = last_of ip body len moment i } })
