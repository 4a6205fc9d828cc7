-- No more keys of a protocol are kept than flows of it may live, whatever was touched.
use Rattle.std.proofs.Common.{◌≡◌, ℕ, ◌+◌, ◌-◌, ◌<◌, ◌≤◌, Bool, true, false, cond, List, [], ◌∷◌, length, Option, Some, None, Result, Ok, Err, OnOk, OnErr, refl, sym, subst, arith}
use Rattle.std.specs.Map.{lookup, remove_entry}
use Rattle.std.proofs.lemmas.List.{length-take}
use Rattle.stream5_sessions.specs.declared.key.Key.{Key}
use Rattle.stream5_sessions.specs.declared.flows.Touch.{Touch}
use Rattle.stream5_sessions.specs.Keys.{same_key}
use Rattle.stream5_sessions.specs.Caches.{FlowsState, IsBounded, kept_by, kept_after, touched_state}

removed : (test : Key → Bool) (es : List (Key × ℕ)) (flow : ℕ) → lookup test es ≡ Some flow → length (remove_entry test es) + 1 ≡ length es
removed test [] flow is = cc
removed test (e ∷ es) flow is =
    (elim (test e.0) as (λ b. cond b (Some e.1) (lookup test es) ≡ Some flow → length (cond b es (e ∷ remove_entry test es)) + 1 ≡ length (e ∷ es)) [
      | true ↦ λ here. omega arith
      | false ↦ λ there. let rest = removed test es flow there in omega (arith, rest)
    ]) is

kept_by-within : (es : List (Key × ℕ)) (cap next : ℕ) (key : Key) (found : Option ℕ) → lookup (same_key key) es ≡ found → 0 < cap → length es ≤ cap → length (kept_by es cap next key found) ≤ cap
kept_by-within es cap next key (Some flow) is some within = let fewer = removed (same_key key) es flow is in omega (arith, fewer)
kept_by-within es cap next key None is some within = let front = length-take (cap - 1) es in omega (arith, front)

module _ (flows : FlowsState) (key : Key) (bounded : IsBounded flows) where
  tcp_within : (b : Bool) → key.tcp ≡ b → length (cond b (kept_after flows key) flows.tcp) ≤ flows.max.tcp
  tcp_within true is =
      subst (λ (b : Bool). length
      (kept_by (cond b flows.tcp flows.udp) (cond b flows.max.tcp flows.max.udp) flows.next key
      (lookup (same_key key) (cond b flows.tcp flows.udp))) ≤
      flows.max.tcp) (sym is)
      (kept_by-within flows.tcp flows.max.tcp flows.next key (lookup (same_key key) flows.tcp) refl bounded.some_tcp bounded.tcp)
  tcp_within false is = bounded.tcp

  udp_within : (b : Bool) → key.tcp ≡ b → length (cond b flows.udp (kept_after flows key)) ≤ flows.max.udp
  udp_within true is = bounded.udp
  udp_within false is =
      subst (λ (b : Bool). length
      (kept_by (cond b flows.tcp flows.udp) (cond b flows.max.tcp flows.max.udp) flows.next key
      (lookup (same_key key) (cond b flows.tcp flows.udp))) ≤
      flows.max.udp) (sym is)
      (kept_by-within flows.udp flows.max.udp flows.next key (lookup (same_key key) flows.udp) refl bounded.some_udp bounded.udp)

  bounded-touched : IsBounded (touched_state flows key)
  bounded-touched = record {
    some_tcp = bounded.some_tcp;
    some_udp = bounded.some_udp;
    tcp = tcp_within key.tcp refl;
    udp = udp_within key.tcp refl;
  }

-- what a touch leaves is as bounded as what it found
pub bounded_of : {E : Type 0} (r : Result Touch E) (flows new : FlowsState) (key : Key) → OnOk r (new ≡ touched_state flows key) → OnErr r (new ≡ flows) → IsBounded flows → IsBounded new
bounded_of (Ok touch) flows new key after err bounded = subst IsBounded (sym after) (bounded-touched flows key bounded)
bounded_of (Err e) flows new key after err bounded = subst IsBounded (sym err) bounded
