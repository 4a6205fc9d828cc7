-- The value that is kept stands for the touches.
use Rattle.std.proofs.Common.{◌≡◌, ℕ, ◌+◌, ◌<◌, ◌≤◌, Bool, true, false, cond, not, List, ◌∷◌, Option, Some, None, take, refl, sym, ap, ◌∙◌, subst, IfOk, OnOk, IsSome, Result, Ok, Err, arith}
use Rattle.std.specs.Map.{lookup}
use Rattle.stream5_sessions.specs.declared.key.Key.{Key}
use Rattle.stream5_sessions.specs.declared.flows.Touch.{Touch}
use Rattle.stream5_sessions.specs.Keys.{same_key}
use Rattle.stream5_sessions.specs.Liveness.{MaxFlows, max_for, is_live, begun, flow_number, touch_found}
use Rattle.stream5_sessions.specs.Caches.{FlowsState, HasSeen, IsKnown, IsFound, SeesTouch, kept_by, found_by, next_by, kept_of, looked_up, found_in, kept_after, touched_state}
use Rattle.stream5_sessions.proofs.Liveness.Protocols.{kept, lookup-kept, kept-touched, stretches-other}
use Rattle.stream5_sessions.proofs.Liveness.Eviction.{found-touched}

some_of : (max : MaxFlows) (tcp : Bool) → 0 < max.tcp → 0 < max.udp → 0 < max_for max tcp
some_of max true t u = t
some_of max false t u = u

kept_is : (flows : FlowsState) (touches : List Key) (tcp : Bool) → HasSeen flows touches → kept_of flows tcp ≡ kept flows.max tcp touches
kept_is flows touches true seen = seen.tcp
kept_is flows touches false seen = seen.udp

next_is : (max : MaxFlows) (touches : List Key) (key : Key) → next_by (begun max touches) (lookup (same_key key) (kept max key.tcp touches)) ≡ begun max (key ∷ touches)
next_is max touches key =
    ap (next_by (begun max touches)) (lookup-kept max touches key)
    ∙ (elim (is_live max touches key) as
    (λ x. next_by (begun max touches) (cond x (Some (flow_number max touches key)) None) ≡
    cond x (begun max touches) (begun max touches + 1))
    [ true ↦ refl | false ↦ refl ])

pub found_in-is : (flows : FlowsState) (touches : List Key) (key : Key) → HasSeen flows touches → found_in flows key ≡ touch_found flows.max touches key
found_in-is flows touches key seen =
    let room : ℕ = max_for flows.max key.tcp in
    ap (λ (es : List (Key × ℕ)). found_by es room flows.next (lookup (same_key key) es)) (kept_is flows touches key.tcp seen)
    ∙ ap (λ (next : ℕ). found_by (kept flows.max key.tcp touches) room next (lookup (same_key key) (kept flows.max key.tcp touches))) seen.next
    ∙ found-touched flows.max touches key (some_of flows.max key.tcp seen.some_tcp seen.some_udp)

kept_after-is : (flows : FlowsState) (touches : List Key) (key : Key) → HasSeen flows touches → kept_after flows key ≡ kept flows.max key.tcp (key ∷ touches)
kept_after-is flows touches key seen =
    let room : ℕ = max_for flows.max key.tcp in
    ap (λ (es : List (Key × ℕ)). kept_by es room flows.next key (lookup (same_key key) es)) (kept_is flows touches key.tcp seen)
    ∙ ap (λ (next : ℕ). kept_by (kept flows.max key.tcp touches) room next key (lookup (same_key key) (kept flows.max key.tcp touches))) seen.next
    ∙ kept-touched flows.max key touches (some_of flows.max key.tcp seen.some_tcp seen.some_udp)

next_after : (flows : FlowsState) (touches : List Key) (key : Key) → HasSeen flows touches → next_by flows.next (looked_up flows key) ≡ begun flows.max (key ∷ touches)
next_after flows touches key seen =
    ap (λ (es : List (Key × ℕ)). next_by flows.next (lookup (same_key key) es)) (kept_is flows touches key.tcp seen)
    ∙ ap (λ (next : ℕ). next_by next (lookup (same_key key) (kept flows.max key.tcp touches))) seen.next
    ∙ next_is flows.max touches key

tcp_after : (flows : FlowsState) (touches : List Key) (key : Key) → HasSeen flows touches → (b : Bool) → key.tcp ≡ b → cond b (kept_after flows key) flows.tcp ≡ kept flows.max true (key ∷ touches)
tcp_after flows touches key seen true is = kept_after-is flows touches key seen ∙ ap (λ (b : Bool). kept flows.max b (key ∷ touches)) is
tcp_after flows touches key seen false is = seen.tcp ∙ ap (take flows.max.tcp) (sym (stretches-other flows.max true key touches is))

udp_after : (flows : FlowsState) (touches : List Key) (key : Key) → HasSeen flows touches → (b : Bool) → key.tcp ≡ b → cond b flows.udp (kept_after flows key) ≡ kept flows.max false (key ∷ touches)
udp_after flows touches key seen true is = seen.udp ∙ ap (take flows.max.udp) (sym (stretches-other flows.max false key touches (ap not is)))
udp_after flows touches key seen false is = kept_after-is flows touches key seen ∙ ap (λ (b : Bool). kept flows.max b (key ∷ touches)) is

pub HasSeen-touched : (flows : FlowsState) (touches : List Key) (key : Key) → HasSeen flows touches → HasSeen (touched_state flows key) (key ∷ touches)
HasSeen-touched flows touches key seen = record {
  some_tcp = seen.some_tcp;
  some_udp = seen.some_udp;
  next = next_after flows touches key seen;
  tcp = tcp_after flows touches key seen key.tcp refl;
  udp = udp_after flows touches key seen key.tcp refl;
}

pub next-le : (next : ℕ) (o : Option ℕ) → (next ≤ next_by next o) × (next_by next o ≤ next + 1)
next-le next None = (omega arith, omega arith)
next-le next (Some flow) = (omega arith, omega arith)

-- what a touch answers and leaves, by the touches that the value was for
pub found_of : {E : Type 0} (r : Result Touch E) (flows : FlowsState) (key : Key) → IfOk r (λ touch. touch ≡ found_in flows key) → IfOk r (λ touch. IsFound flows key touch)
found_of (Ok touch) flows key h = λ touches seen. h ∙ found_in-is flows touches key seen
found_of (Err e) flows key h = tt

pub seen_of : {E : Type 0} (r : Result Touch E) (flows new : FlowsState) (key : Key) → OnOk r (new ≡ touched_state flows key) → OnOk r (SeesTouch flows key new)
seen_of (Ok touch) flows new key h = λ touches seen. subst (λ (f : FlowsState). HasSeen f (key ∷ touches)) (sym h) (HasSeen-touched flows touches key seen)
seen_of (Err e) flows new key h = tt

-- a key that lives is found
pub looked_up-known : (flows : FlowsState) (key : Key) → IsKnown flows key → IsSome (looked_up flows key)
looked_up-known flows key (touches, seen, live) = subst (λ (o : Option ℕ). IsSome o) (sym found) refl
  where
    found : looked_up flows key ≡ Some (flow_number flows.max touches key)
    found =
        ap (λ (es : List (Key × ℕ)). lookup (same_key key) es) (kept_is flows touches key.tcp seen)
        ∙ lookup-kept flows.max touches key
        ∙ ap (λ (b : Bool). cond b (Some (flow_number flows.max touches key)) None) live
