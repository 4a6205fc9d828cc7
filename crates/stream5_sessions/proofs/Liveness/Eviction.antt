-- Which flow a touch ends.
use Rattle.std.proofs.Common.{◌≡◌, ℕ, suc, ◌-◌, ◌<◌, ◌≤◌, Bool, true, false, cond, not, ◌&&◌, ◌||◌, List, [], ◌∷◌, Option, Some}
use Rattle.std.proofs.Common.{None, length, take, filter, ltb, slice_get, option_map, refl, sym, ap, ◌∙◌, subst, arith}
use Rattle.std.specs.List.{find}
use Rattle.std.specs.Map.{keys_of, lookup, remove_entry}
use Rattle.std.proofs.lemmas.Bool.{false≢true}
use Rattle.std.proofs.lemmas.List.{length-take}
use Rattle.stream5_sessions.specs.declared.key.Key.{Key}
use Rattle.stream5_sessions.specs.declared.flows.Touch.{Touch}
use Rattle.stream5_sessions.specs.Keys.{is_of, same_key}
use Rattle.stream5_sessions.specs.Liveness.{MaxFlows, max_for, is_touched, since, is_live, begun, flow_number, ends_life, evicted_flow, touch_found}
use Rattle.stream5_sessions.specs.Caches.{stretches, kept_by, found_by}
use Rattle.stream5_sessions.proofs.KeyLaws.{same_key-self, same_key-is}
use Rattle.stream5_sessions.proofs.Liveness.Recent.{recent, keys_of-remove_entry, is_touched-remove_key, is_touched-recent, is_touched-take}
use Rattle.stream5_sessions.proofs.Liveness.Protocols.{kept, keys_of-kept, is_live-recent, is_live-kept, is_touched-live, lookup-kept, kept-touched}
use Rattle.stream5_sessions.proofs.Liveness.Apart.{Apart, Apart-recent, Apart-take, is_touched-at, not_before, found_last, find-passes, find-none}

-- a touch changes nothing for keys of the other protocol
pub is_live-other : (max : MaxFlows) (touches : List Key) (key other : Key) → is_of other.tcp key ≡ false → is_live max (key ∷ touches) other ≡ is_live max touches other
is_live-other max touches key other h =
    is_live-recent max (key ∷ touches) other
    ∙ ap (λ (mine : List Key). is_touched (take (max_for max other.tcp) (recent mine)) other) (skipped h)
    ∙ sym (is_live-recent max touches other)
  where
    skipped : is_of other.tcp key ≡ false → filter (is_of other.tcp) (key ∷ touches) ≡ filter (is_of other.tcp) touches
    skipped h = rw h

same_bool : (a b : Bool) → cond a b (not b) ≡ true → a ≡ b
same_bool true true h = refl
same_bool true false h = absurd (false≢true h)
same_bool false true h = absurd (false≢true h)
same_bool false false h = refl

live_after : (max : MaxFlows) (touches : List Key) (key other : Key)
    → 0 < max_for max key.tcp
    → other.tcp ≡ key.tcp
    → (o : Option ℕ)
    → lookup (same_key key) (kept max key.tcp touches) ≡ o
    → is_live max (key ∷ touches) other ≡
    is_touched (keys_of (kept_by (kept max key.tcp touches) (max_for max key.tcp) (begun max touches) key o)) other
live_after max touches key other some protocol o found =
    is_live-kept max (key ∷ touches) other
    ∙ ap (λ (b : Bool). is_touched (keys_of (kept max b (key ∷ touches))) other) protocol
    ∙ ap (λ (es : List (Key × ℕ)). is_touched (keys_of es) other) (sym (kept-touched max key touches some))
    ∙ ap (λ (o : Option ℕ). is_touched (keys_of (kept_by (kept max key.tcp touches) (max_for max key.tcp) (begun max touches) key o)) other) found

live_before : (max : MaxFlows) (touches : List Key) (key other : Key) → other.tcp ≡ key.tcp → is_live max touches other ≡ is_touched (keys_of (kept max key.tcp touches)) other
live_before max touches key other protocol = is_live-kept max touches other ∙ ap (λ (b : Bool). is_touched (keys_of (kept max b touches)) other) protocol

-- a touch of a key that lives ends no life
stays : (max : MaxFlows) (touches : List Key) (key other : Key) → 0 < max_for max key.tcp → is_live max touches key ≡ true → is_live max touches other ≡ true → is_live max (key ∷ touches) other ≡ true
stays max touches key other some live was =
    (elim (is_of other.tcp key) as (λ x. is_of other.tcp key ≡ x → is_live max (key ∷ touches) other ≡ true) [
      | true ↦ λ t.
          let protocol : other.tcp ≡ key.tcp = same_bool other.tcp key.tcp t in
          let found : lookup (same_key key) (kept max key.tcp touches) ≡ Some (flow_number max touches key) =
          lookup-kept max touches key ∙ ap (λ (x : Bool). cond x (Some (flow_number max touches key)) None) live in
          live_after max touches key other some protocol (Some (flow_number max touches key)) found
          ∙ (elim (same_key other key) as
          (λ y. same_key other key ≡ y →
          (y || is_touched (keys_of (remove_entry (same_key key) (kept max key.tcp touches))) other) ≡ true) [
            | true ↦ λ u. refl
            | false ↦ λ u.
                ap (λ (ks : List Key). is_touched ks other) (keys_of-remove_entry key (kept max key.tcp touches))
                ∙ is_touched-remove_key key other u (keys_of (kept max key.tcp touches))
                ∙ sym (live_before max touches key other protocol)
                ∙ was
          ]) refl
      | false ↦ λ t. is_live-other max touches key other t ∙ was
    ]) refl

ends_none : (max : MaxFlows) (touches : List Key) (key other : Key) → 0 < max_for max key.tcp → is_live max touches key ≡ true → ends_life max touches key other ≡ false
ends_none max touches key other some live = (elim (is_live max touches other) as (λ x. is_live max touches other ≡ x → (x && not (is_live max (key ∷ touches) other)) ≡ false) [
  | true ↦ λ t. ap not (stays max touches key other some live t)
  | false ↦ λ t. refl
]) refl

both : (a b : Bool) → (a && not b) ≡ true → (a ≡ true) × (b ≡ false)
both true true h = absurd (false≢true h)
both true false h = (refl, refl)
both false b h = absurd (false≢true h)

pub neither : (a b : Bool) → (a || b) ≡ false → (a ≡ false) × (b ≡ false)
neither true b h = absurd (false≢true (sym h))
neither false b h = (refl, h)

-- only a key of the protocol that is touched can end
ended_protocol : (max : MaxFlows) (touches : List Key) (key other : Key) → ends_life max touches key other ≡ true → other.tcp ≡ key.tcp
ended_protocol max touches key other h = (elim (is_of other.tcp key) as (λ x. is_of other.tcp key ≡ x → other.tcp ≡ key.tcp) [
  | true ↦ λ t. same_bool other.tcp key.tcp t
  | false ↦ λ t. let parts = both (is_live max touches other) (is_live max (key ∷ touches) other) h in absurd (false≢true (sym parts.1 ∙ is_live-other max touches key other t ∙ parts.0))
]) refl

-- the key that a fresh touch ends comes last
ended_last : (max : MaxFlows) (touches : List Key) (key other : Key) (n : ℕ)
    → max_for max key.tcp ≡ suc n
    → is_live max touches key ≡ false
    → ends_life max touches key other ≡ true
    → slice_get (kept max key.tcp touches) n ≡ Some (other, flow_number max touches other)
ended_last max touches key other n room fresh h =
    let some : 0 < max_for max key.tcp = omega arith in
    let protocol : other.tcp ≡ key.tcp = ended_protocol max touches key other h in
    let parts = both (is_live max touches other) (is_live max (key ∷ touches) other) h in
    let missing : lookup (same_key key) (kept max key.tcp touches) ≡ None =
    lookup-kept max touches key ∙ ap (λ (x : Bool). cond x (Some (flow_number max touches key)) None) fresh in
    let out =
    neither (same_key other key) (is_touched (keys_of (take (max_for max key.tcp - 1) (kept max key.tcp touches))) other)
    (sym (live_after max touches key other some protocol None missing) ∙ parts.1) in
    let found : lookup (same_key other) (kept max key.tcp touches) ≡ Some (flow_number max touches other) =
    ap (λ (b : Bool). lookup (same_key other) (kept max b touches)) (sym protocol)
    ∙ lookup-kept max touches other
    ∙ ap (λ (x : Bool). cond x (Some (flow_number max touches other)) None) parts.0 in
    let less : max_for max key.tcp - 1 ≡ n = omega arith in
    let few : length (kept max key.tcp touches) ≤ suc n =
    omega (arith, length-take (max_for max key.tcp) (stretches max key.tcp touches)) in
    found_last n (kept max key.tcp touches) other (flow_number max touches other) few found
    (ap (λ (m : ℕ). is_touched (keys_of (take m (kept max key.tcp touches))) other) (sym less) ∙ out.1)

-- a key that is kept is of the protocol
pub kept_protocol : (max : MaxFlows) (tcp : Bool) (touches : List Key) (key : Key) → is_touched (keys_of (kept max tcp touches)) key ≡ true → is_of tcp key ≡ true
kept_protocol max tcp touches key h =
    let mine : List Key = filter (is_of tcp) touches in
    let among : (is_touched (recent mine) key && ltb (length (since key (recent mine))) (max_for max tcp)) ≡ true =
    sym (is_touched-take (max_for max tcp) (recent mine) key) ∙ ap (λ (ks : List Key). is_touched ks key) (sym (keys_of-kept max tcp touches)) ∙ h in
    filtered touches (sym (is_touched-recent mine key) ∙ front (is_touched (recent mine) key) (ltb (length (since key (recent mine))) (max_for max tcp)) among)
  where
    front : (a b : Bool) → (a && b) ≡ true → a ≡ true
    front true b h = refl
    front false b h = h

    filtered : (touches : List Key) → is_touched (filter (is_of tcp) touches) key ≡ true → is_of tcp key ≡ true
    filtered [] h = absurd (false≢true h)
    filtered (touch ∷ earlier) h =
        (elim (is_of tcp touch) as
        (λ x. is_of tcp touch ≡ x →
        is_touched (cond x (touch ∷ filter (is_of tcp) earlier) (filter (is_of tcp) earlier)) key ≡ true → is_of tcp key ≡ true) [
          | true ↦ λ t h.
              (elim (same_key key touch) as
              (λ y. same_key key touch ≡ y → (y || is_touched (filter (is_of tcp) earlier) key) ≡ true → is_of tcp key ≡ true) [
                | true ↦ λ u h. ap (is_of tcp) (same_key-is key touch u) ∙ t
                | false ↦ λ u h. filtered earlier h
              ]) refl h
          | false ↦ λ t h. filtered earlier h
        ]) refl h

-- the key that comes last ends at a fresh touch
last_ends : (max : MaxFlows) (touches : List Key) (key : Key) (n : ℕ) (e : Key × ℕ)
    → max_for max key.tcp ≡ suc n
    → is_live max touches key ≡ false
    → slice_get (kept max key.tcp touches) n ≡ Some e
    → ends_life max touches key e.0 ≡ true
last_ends max touches key n e room fresh h =
    let protocol : e.0.tcp ≡ key.tcp =
    sym (same_bool key.tcp e.0.tcp (kept_protocol max key.tcp touches e.0 (is_touched-at n (kept max key.tcp touches) e h))) in
    let some : 0 < max_for max key.tcp = omega arith in
    let apart : Apart (keys_of (kept max key.tcp touches)) =
    subst Apart (sym (keys_of-kept max key.tcp touches))
    (Apart-take (max_for max key.tcp) (recent (filter (is_of key.tcp) touches))
    (Apart-recent (filter (is_of key.tcp) touches))) in
    let was : is_live max touches e.0 ≡ true =
    live_before max touches key e.0 protocol ∙ is_touched-at n (kept max key.tcp touches) e h in
    let missing : lookup (same_key key) (kept max key.tcp touches) ≡ None =
    lookup-kept max touches key ∙ ap (λ (x : Bool). cond x (Some (flow_number max touches key)) None) fresh in
    let less : max_for max key.tcp - 1 ≡ n = omega arith in
    let other : same_key e.0 key ≡ false = (elim (same_key e.0 key) as (λ x. same_key e.0 key ≡ x → x ≡ false) [
      | true ↦ λ t. absurd (false≢true (sym fresh ∙ ap (is_live max touches) (sym (same_key-is e.0 key t)) ∙ was))
      | false ↦ λ t. refl
    ]) refl in
    let gone : is_live max (key ∷ touches) e.0 ≡ false =
    live_after max touches key e.0 some protocol None missing
    ∙ ap (λ (x : Bool). x || is_touched (keys_of (take (max_for max key.tcp - 1) (kept max key.tcp touches))) e.0) other
    ∙ ap (λ (m : ℕ). is_touched (keys_of (take m (kept max key.tcp touches))) e.0) less
    ∙ not_before n (kept max key.tcp touches) e apart h in
    rw (was, gone)

no_eviction : (max : MaxFlows) (touches : List Key) (key : Key) → 0 < max_for max key.tcp → is_live max touches key ≡ true → evicted_flow max touches key ≡ None
unfolding evicted_flow
no_eviction max touches key some live = (elim (find (ends_life max touches key) touches) as (λ o. find (ends_life max touches key) touches ≡ o → option_map (flow_number max touches) o ≡ None) [
  | None ↦ λ h. refl
  | Some other ↦ λ h. absurd (false≢true (sym (ends_none max touches key other some live) ∙ find-passes (ends_life max touches key) touches other h))
]) refl

eviction : (max : MaxFlows) (touches : List Key) (key : Key) (n : ℕ)
    → max_for max key.tcp ≡ suc n
    → is_live max touches key ≡ false
    → evicted_flow max touches key ≡ option_map (λ (entry : Key × ℕ). entry.1) (slice_get (kept max key.tcp touches) n)
unfolding evicted_flow
eviction max touches key n room fresh =
    (elim (find (ends_life max touches key) touches) as
    (λ o. find (ends_life max touches key) touches ≡ o →
    option_map (flow_number max touches) o ≡ option_map (λ (entry : Key × ℕ). entry.1) (slice_get (kept max key.tcp touches) n)) [
      | None ↦ λ h.
          (elim (slice_get (kept max key.tcp touches) n) as
          (λ o. slice_get (kept max key.tcp touches) n ≡ o → None ≡ option_map (λ (entry : Key × ℕ). entry.1) o) [
            | None ↦ λ g. refl
            | Some e ↦ λ g.
                let ends = last_ends max touches key n e room fresh g in
                let was : is_live max touches e.0 ≡ true = (both (is_live max touches e.0) (is_live max (key ∷ touches) e.0) ends).0 in
                absurd (false≢true (sym (find-none (ends_life max touches key) touches h e.0 (is_touched-live max touches e.0 was)) ∙
                ends))
          ]) refl
      | Some other ↦ λ h.
          ap (option_map (λ (entry : Key × ℕ). entry.1))
          (sym (ended_last max touches key other n room fresh (find-passes (ends_life max touches key) touches other h)))
    ]) refl

abbrev touch_at : ℕ → Bool → Option ℕ → Touch
touch_at flow fresh evicted = record { flow = flow; fresh = fresh; evicted = evicted }

number_after : (max : MaxFlows) (touches : List Key) (key : Key) → flow_number max (key ∷ touches) key ≡ cond (is_live max touches key) (flow_number max touches key) (begun max touches)
number_after max touches key = rw (same_key-self key)

-- what the keys that are kept tell of a touch is what the touches tell
pub found-touched : (max : MaxFlows) (touches : List Key) (key : Key)
    → 0 < max_for max key.tcp
    → found_by (kept max key.tcp touches) (max_for max key.tcp) (begun max touches)
    (lookup (same_key key) (kept max key.tcp touches)) ≡
    touch_found max touches key
found-touched max touches key some =
    let K : List (Key × ℕ) = kept max key.tcp touches in
    let room : ℕ = max_for max key.tcp in
    let least : max_for max key.tcp ≡ suc (max_for max key.tcp - 1) = omega arith in
    ap (found_by K room (begun max touches)) (lookup-kept max touches key)
    ∙ (elim (is_live max touches key) as
    (λ x. is_live max touches key ≡ x →
    found_by K room (begun max touches) (cond x (Some (flow_number max touches key)) None) ≡
    touch_at (cond x (flow_number max touches key) (begun max touches)) (not x) (evicted_flow max touches key)) [
      | true ↦ λ t. ap (touch_at (flow_number max touches key) false) (sym (no_eviction max touches key some t))
      | false ↦ λ t. ap (touch_at (begun max touches) true) (sym (eviction max touches key (max_for max key.tcp - 1) least t))
    ]) refl
    ∙ ap (λ (f : ℕ). touch_at f (not (is_live max touches key)) (evicted_flow max touches key))
    (sym (number_after max touches key))

-- a key whose life a touch ends is the one whose flow it tells
pub evicted-is : (max : MaxFlows) (touches : List Key) (key other : Key)
    → 0 < max_for max key.tcp
    → ends_life max touches key other ≡ true
    → evicted_flow max touches key ≡ Some (flow_number max touches other)
evicted-is max touches key other some ends = by_live (is_live max touches key) refl
  where
    by_live : (live : Bool) → is_live max touches key ≡ live → evicted_flow max touches key ≡ Some (flow_number max touches other)
    by_live true live = absurd (false≢true (sym (ends_none max touches key other some live) ∙ ends))
    by_live false fresh =
        let room : max_for max key.tcp ≡ suc (max_for max key.tcp - 1) = omega (arith, some) in
        eviction max touches key (max_for max key.tcp - 1) room fresh
        ∙ ap (option_map (λ (entry : Key × ℕ). entry.1)) (ended_last max touches key other (max_for max key.tcp - 1) room fresh ends)
