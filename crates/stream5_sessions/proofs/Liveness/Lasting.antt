-- How long flows live, and how many do.
use Rattle.std.proofs.Common.{◌≡◌, ℕ, ◌+◌, ◌<◌, ◌≤◌, Bool, true, false, cond, not, ◌&&◌, ◌||◌, eqb, zero, suc, List, [], ◌∷◌, Some, None, Contains, length, refl, sym, ap, subst, ◌∙◌, arith}
use Rattle.std.specs.List.{AllByRecursion, IsDistinct}
use Rattle.std.specs.Cmp.{IsEquivalence}
use Rattle.std.specs.Map.{values_of}
use Rattle.std.proofs.lemmas.Bool.{eq-eqb, eqb-true}
use Rattle.std.proofs.lemmas.Bool.Decides.{nat_tests}
use Rattle.std.proofs.lemmas.List.{length-append, length-take}
use Rattle.std.proofs.lemmas.Map.Entries.{length-values_of}
use Rattle.std.proofs.lemmas.Map.Made.{length-le_from_is_member}
use Rattle.stream5_sessions.specs.declared.key.Key.{Key}
use Rattle.stream5_sessions.specs.Keys.{same_key}
use Rattle.stream5_sessions.specs.Liveness.{MaxFlows, begun, ends_life, evicted_flow, flow_number, is_live, is_live_flow, live_flows, max_for}
use Rattle.stream5_sessions.specs.Caches.{stretches}
use Rattle.stream5_sessions.proofs.KeyLaws.{same_key-is, same_key-self}
use Rattle.stream5_sessions.proofs.Liveness.Protocols.{is_touched-live, kept}
use Rattle.stream5_sessions.proofs.Liveness.Eviction.{evicted-is}
use Rattle.stream5_sessions.proofs.Liveness.Rising.{Above, Rises, Rises-range, among, among-range, among_at, range-among}
use Rattle.stream5_sessions.proofs.Liveness.Numbers.{all_kept, flow_number-begun, found_all, key_of_flow, live_flow, value_among}

-- ---- as long as no touch tells otherwise

-- a key that lives keeps its number at a touch
pub number-stays : (max : MaxFlows) (touches : List Key) (key other : Key) → is_live max touches other ≡ true → flow_number max (key ∷ touches) other ≡ flow_number max touches other
number-stays max touches key other live = by_key (same_key other key) refl
  where
    by_key : (b : Bool)
        → same_key other key ≡ b
        → cond b (cond (is_live max touches key) (flow_number max touches key) (begun max touches))
        (flow_number max touches other) ≡
        flow_number max touches other
    by_key true same =
        let is = same_key-is other key same in
        ap (λ (b : Bool). cond b (flow_number max touches key) (begun max touches)) (ap (is_live max touches) (sym is) ∙ live) ∙ ap (flow_number max touches) (sym is)
    by_key false apart = refl

lives : (max : MaxFlows) (touches : List Key) (key : Key) (flow : ℕ) → is_live max touches key ≡ true → flow_number max touches key ≡ flow → Contains (live_flows max touches) flow
unfolding live_flows
lives max touches key flow live is =
    let below : flow < begun max touches = subst (λ (n : ℕ). n < begun max touches) is (flow_number-begun max touches key (is_touched-live max touches key live)) in
    among_at (live_flows max touches) flow flow (range-among (is_live_flow max touches) 0 (begun max touches) flow (omega arith) (omega (arith, below)) (live_flow max touches flow key live is))

has_among : (xs : List ℕ) (x : ℕ) → Contains xs x → among xs x ≡ true
has_among [] x has = absurd (omega (arith, has.1))
has_among (y ∷ xs) x (zero, within, is) = ap (λ (b : Bool). b || among xs x) (eq-eqb x y (sym is))
has_among (y ∷ xs) x (suc k, within, is) = or_right (eqb x y) (has_among xs x (k, omega (arith, within), is))
  where
    or_right : (b : Bool) → among xs x ≡ true → (b || among xs x) ≡ true
    or_right true later = refl
    or_right false later = later

live_key : (max : MaxFlows) (touches : List Key) (flow : ℕ) → Contains (live_flows max touches) flow → (key : Key) × (is_live max touches key ≡ true) × (flow_number max touches key ≡ flow)
unfolding live_flows
live_key max touches flow has =
    let there = among-range (is_live_flow max touches) 0 (begun max touches) flow (has_among (live_flows max touches) flow has) in
    key_of_flow max touches touches flow there.2

pub flow-stays : (max : MaxFlows) (touches : List Key) (key : Key) (flow : ℕ)
    → 0 < max_for max key.tcp
    → Contains (live_flows max touches) flow
    → (evicted_flow max touches key ≡ Some flow → ⊥)
    → Contains (live_flows max (key ∷ touches)) flow
flow-stays max touches key flow some has told =
    let at = live_key max touches flow has in
    by_live at.0 at.1 at.2 (is_live max (key ∷ touches) at.0) refl
  where
    by_live : (other : Key)
        → is_live max touches other ≡ true
        → flow_number max touches other ≡ flow
        → (b : Bool)
        → is_live max (key ∷ touches) other ≡ b
        → Contains (live_flows max (key ∷ touches)) flow
    by_live other live is true on = lives max (key ∷ touches) other flow on (number-stays max touches key other live ∙ is)
    by_live other live is false off =
        let ends : ends_life max touches key other ≡ true = ap (λ (b : Bool). b && not (is_live max (key ∷ touches) other)) live ∙ ap not off in
        absurd (told (evicted-is max touches key other some ends ∙ ap Some is))

pub touched-lives : (max : MaxFlows) (touches : List Key) (key : Key) → 0 < max_for max key.tcp → is_live max (key ∷ touches) key ≡ true
unfolding is_live
touched-lives max touches key some = rw (same_key-self key) (grind (arith, nat_tests, some))

pub own-lives : (max : MaxFlows) (touches : List Key) (key : Key) → 0 < max_for max key.tcp → Contains (live_flows max (key ∷ touches)) (flow_number max (key ∷ touches) key)
own-lives max touches key some = lives max (key ∷ touches) key (flow_number max (key ∷ touches) key) (touched-lives max touches key some) refl

-- ---- how many

equal : IsEquivalence eqb
equal = record {
  refl = λ x. eq-eqb x x refl;
  symm = λ x y. grind (arith, nat_tests);
  congr = λ x y z same. ap (λ (n : ℕ). eqb n z) (eqb-true x y same);
}

above-distinct : (x : ℕ) (xs : List ℕ) → Above x xs → AllByRecursion (λ y. eqb x y ≡ false) xs
above-distinct x [] above = tt
above-distinct x (y ∷ ys) above =
    let less : x < y = above y (ap (λ (b : Bool). b || among ys y) (eq-eqb y y refl)) in
    (grind (arith, nat_tests, less), above-distinct x ys (λ n has. above n (later n has)))
  where
    later : (n : ℕ) → among ys n ≡ true → among (y ∷ ys) n ≡ true
    later n has = or_right (eqb n y) has
      where
        or_right : (b : Bool) → among ys n ≡ true → (b || among ys n) ≡ true
        or_right true later = refl
        or_right false later = later

rises-distinct : (xs : List ℕ) → Rises xs → IsDistinct eqb xs
unfolding IsDistinct
rises-distinct [] rises = tt
rises-distinct (x ∷ xs) rises = (above-distinct x xs rises.0, rises-distinct xs rises.1)

kept-few : (max : MaxFlows) (touches : List Key) → length (values_of (all_kept max touches)) ≤ max.tcp + max.udp
kept-few max touches =
    omega (
      arith,
      length-values_of (all_kept max touches),
      length-append (kept max true touches) (kept max false touches),
      length-take max.tcp (stretches max true touches),
      length-take max.udp (stretches max false touches),
    )

rises : (max : MaxFlows) (touches : List Key) → Rises (live_flows max touches)
unfolding live_flows
rises max touches = Rises-range (is_live_flow max touches) 0 (begun max touches)

held : (max : MaxFlows) (touches : List Key) (flow : ℕ) → among (live_flows max touches) flow ≡ true → among (values_of (all_kept max touches)) flow ≡ true
held max touches flow has =
    let at = live_key max touches flow (among_at (live_flows max touches) flow flow has) in
    value_among (all_kept max touches) at.0 flow (found_all max touches at.0 ∙ ap (λ (b : Bool). cond b (Some (flow_number max touches at.0)) None) at.1 ∙ ap Some at.2)

pub live-few : (max : MaxFlows) (touches : List Key) → length (live_flows max touches) ≤ max.tcp + max.udp
live-few max touches =
    omega (
      arith,
      kept-few max touches,
      length-le_from_is_member equal (live_flows max touches) (values_of (all_kept max touches))
          (rises-distinct (live_flows max touches) (rises max touches))
          (held max touches),
    )
