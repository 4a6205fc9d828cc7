-- Different keys that live have different flows, and how many of them there are.
use Rattle.std.proofs.Common.{◌≡◌, ℕ, ◌+◌, ◌<◌, ◌≤◌, Bool, true, false, cond, not, ◌&&◌, ◌||◌, eqb, List, [], ◌∷◌, ◌++◌, Option, Some, None, length, filter, refl, sym, ap, ◌∙◌, subst, arith}
use Rattle.std.specs.List.{list_any, IsDistinct, AllByRecursion}
use Rattle.std.specs.List.Sorted.{IsPermutation, IsNonDecreasing}
use Rattle.std.specs.Map.{keys_of, values_of, lookup}
use Rattle.std.specs.Option.{is_some}
use Rattle.std.proofs.lemmas.Bool.{false≢true, eqb-true, eq-eqb}
use Rattle.std.proofs.lemmas.List.{length-take}
use Rattle.std.proofs.lemmas.List.Folds.{list_any-append}
use Rattle.std.proofs.lemmas.Map.Made.{is_some-lookup}
use Rattle.stream5_sessions.specs.declared.key.Key.{Key}
use Rattle.stream5_sessions.specs.Keys.{is_of, same_key}
use Rattle.stream5_sessions.specs.Liveness.{MaxFlows, max_for, is_touched, distinct_count, is_live, begun, flow_number, is_live_flow, live_flows, live_count}
use Rattle.stream5_sessions.specs.Caches.{FlowsState, HasSeen, stretches}
use Rattle.stream5_sessions.proofs.KeyLaws.{same_key-self, same_key-is}
use Rattle.stream5_sessions.proofs.Liveness.Recent.{recent, remove_key, is_touched-remove_key, length-remove_key}
use Rattle.stream5_sessions.proofs.Liveness.Protocols.{kept, keys_of-kept, is_live-kept, is_touched-live, lookup-kept}
use Rattle.stream5_sessions.proofs.Liveness.Apart.{Apart, Apart-recent, Apart-take}
use Rattle.stream5_sessions.proofs.Liveness.Eviction.{kept_protocol, neither}
use Rattle.stream5_sessions.proofs.Liveness.Rising.{among, sorted-is}

-- a touched key's flow has begun
pub flow_number-begun : (max : MaxFlows) (touches : List Key) (key : Key) → is_touched touches key ≡ true → flow_number max touches key < begun max touches
flow_number-begun max [] key h = absurd (false≢true h)
flow_number-begun max (touch ∷ earlier) key h =
    (elim (is_live max earlier touch) as
    (λ l. is_live max earlier touch ≡ l →
    cond (same_key key touch) (cond l (flow_number max earlier touch) (begun max earlier)) (flow_number max earlier key) <
    cond l (begun max earlier) (begun max earlier + 1)) [
      | true ↦ λ t.
          (elim (same_key key touch) as
          (λ x. same_key key touch ≡ x → (x || is_touched earlier key) ≡ true →
          cond x (flow_number max earlier touch) (flow_number max earlier key) < begun max earlier) [
            | true ↦ λ u h. flow_number-begun max earlier touch (is_touched-live max earlier touch t)
            | false ↦ λ u h. flow_number-begun max earlier key h
          ]) refl h
      | false ↦ λ t.
          (elim (same_key key touch) as
          (λ x. same_key key touch ≡ x → (x || is_touched earlier key) ≡ true →
          cond x (begun max earlier) (flow_number max earlier key) < begun max earlier + 1) [
            | true ↦ λ u h. omega arith
            | false ↦ λ u h. omega (arith, flow_number-begun max earlier key h)
          ]) refl h
    ]) refl

-- the key touched last has another flow than an earlier one, unless it is that one
touched_apart : (max : MaxFlows) (earlier : List Key) (touch key : Key)
    → (is_touched earlier touch ≡ true → is_touched earlier key ≡ true →
    flow_number max earlier touch ≡ flow_number max earlier key → touch ≡ key)
    → is_touched earlier key ≡ true
    → cond (is_live max earlier touch) (flow_number max earlier touch) (begun max earlier) ≡ flow_number max earlier key
    → touch ≡ key
touched_apart max earlier touch key before k =
    (elim (is_live max earlier touch) as
    (λ l. is_live max earlier touch ≡ l →
    cond l (flow_number max earlier touch) (begun max earlier) ≡ flow_number max earlier key → touch ≡ key) [
      | true ↦ λ t same. before (is_touched-live max earlier touch t) k same
      | false ↦ λ t same. let began = flow_number-begun max earlier key k in absurd (omega (arith, began))
    ]) refl

-- two touched keys with one flow are one
pub flow_number-apart : (max : MaxFlows) (touches : List Key) (one other : Key)
    → is_touched touches one ≡ true
    → is_touched touches other ≡ true
    → flow_number max touches one ≡ flow_number max touches other
    → one ≡ other
flow_number-apart max [] one other h g same = absurd (false≢true h)
flow_number-apart max (touch ∷ earlier) one other h g same =
    (elim (same_key one touch) as
    (λ x. same_key one touch ≡ x → (x || is_touched earlier one) ≡ true →
    cond x number (flow_number max earlier one) ≡ flow_number max (touch ∷ earlier) other → one ≡ other) [
      | true ↦ λ t h same.
          (elim (same_key other touch) as
          (λ y. same_key other touch ≡ y → (y || is_touched earlier other) ≡ true →
          number ≡ cond y number (flow_number max earlier other) → one ≡ other) [
            | true ↦ λ u g same. same_key-is one touch t ∙ sym (same_key-is other touch u)
            | false ↦ λ u g same.
                same_key-is one touch t ∙ touched_apart max earlier touch other (flow_number-apart max earlier touch other) g same
          ]) refl g same
      | false ↦ λ t h same.
          (elim (same_key other touch) as
          (λ y. same_key other touch ≡ y → (y || is_touched earlier other) ≡ true →
          flow_number max earlier one ≡ cond y number (flow_number max earlier other) → one ≡ other) [
            | true ↦ λ u g same.
                sym (touched_apart max earlier touch one (flow_number-apart max earlier touch one) h (sym same))
                ∙ sym (same_key-is other touch u)
            | false ↦ λ u g same. flow_number-apart max earlier one other h g same
          ]) refl g same
    ]) refl h same
  where
    number : ℕ
    number = cond (is_live max earlier touch) (flow_number max earlier touch) (begun max earlier)

-- which keys a list has, and each one's number, where no key is there twice
lookup-touched : (es : List (Key × ℕ)) (key : Key) (flow : ℕ) → lookup (same_key key) es ≡ Some flow → is_touched (keys_of es) key ≡ true
lookup-touched es key flow h = sym (is_some-lookup (same_key key) es) ∙ ap is_some h

lookup_after : (e : Key × ℕ) (es : List (Key × ℕ)) → Apart (keys_of (e ∷ es)) → (key : Key) (f : ℕ) → lookup (same_key key) es ≡ Some f → lookup (same_key key) (e ∷ es) ≡ Some f
lookup_after e es apart key f g = (elim (same_key key e.0) as (λ x. same_key key e.0 ≡ x → cond x (Some e.1) (lookup (same_key key) es) ≡ Some f) [
  | true ↦ λ t. absurd (false≢true (sym apart.0 ∙ ap (is_touched (keys_of es)) (sym (same_key-is key e.0 t)) ∙ lookup-touched es key f g))
  | false ↦ λ t. g
]) refl

pub key_of_value : (es : List (Key × ℕ)) → Apart (keys_of es) → (f : ℕ) → among (values_of es) f ≡ true → (key : Key) × (lookup (same_key key) es ≡ Some f)
key_of_value [] apart f h = absurd (false≢true h)
key_of_value (e ∷ es) apart f h = (elim (eqb f e.1) as (λ x. eqb f e.1 ≡ x → (x || among (values_of es) f) ≡ true → (key : Key) × (lookup (same_key key) (e ∷ es) ≡ Some f)) [
  | true ↦ λ t h. (e.0, rw (same_key-self e.0) (ap (λ (n : ℕ). Some n) (sym (eqb-true f e.1 t))))
  | false ↦ λ t h. let on = key_of_value es apart.1 f h in (on.0, lookup_after e es apart on.0 f on.1)
]) refl h

pub value_among : (es : List (Key × ℕ)) (key : Key) (f : ℕ) → lookup (same_key key) es ≡ Some f → among (values_of es) f ≡ true
value_among [] key f h = cc
value_among (e ∷ es) key f h = (elim (same_key key e.0) as (λ x. cond x (Some e.1) (lookup (same_key key) es) ≡ Some f → (eqb f e.1 || among (values_of es) f) ≡ true) [
  | true ↦ λ h. let is : f ≡ e.1 = cc in rw (eq-eqb f e.1 is)
  | false ↦ λ h. (elim (eqb f e.1) as (λ b. (b || among (values_of es) f) ≡ true) [ true ↦ refl | false ↦ value_among es key f h ])
]) h

-- the keys of the two protocols, one after the other
abbrev pub all_kept : MaxFlows → List Key → List (Key × ℕ)
all_kept max touches = kept max true touches ++ kept max false touches

lookup-append : (test : Key → Bool) (es fs : List (Key × ℕ)) → lookup test (es ++ fs) ≡ cond (is_some (lookup test es)) (lookup test es) (lookup test fs)
lookup-append test [] fs = refl
lookup-append test (e ∷ es) fs =
    (elim (test e.0) as
    (λ x. cond x (Some e.1) (lookup test (es ++ fs)) ≡
    cond (is_some (cond x (Some e.1) (lookup test es))) (cond x (Some e.1) (lookup test es)) (lookup test fs)) [
      | true ↦ refl
      | false ↦ lookup-append test es fs
    ])

-- a key isn't kept with the other protocol
not_kept : (max : MaxFlows) (tcp : Bool) (touches : List Key) (key : Key) → is_of tcp key ≡ false → is_touched (keys_of (kept max tcp touches)) key ≡ false
not_kept max tcp touches key h = (elim (is_touched (keys_of (kept max tcp touches)) key) as (λ x. is_touched (keys_of (kept max tcp touches)) key ≡ x → x ≡ false) [
  | true ↦ λ t. sym (sym h ∙ kept_protocol max tcp touches key t)
  | false ↦ λ t. refl
]) refl

lookup-none : (es : List (Key × ℕ)) (key : Key) → is_touched (keys_of es) key ≡ false → lookup (same_key key) es ≡ None
lookup-none es key h = none_of (lookup (same_key key) es) (is_some-lookup (same_key key) es ∙ h)
  where
    none_of : (o : Option ℕ) → is_some o ≡ false → o ≡ None
    none_of None h = refl
    none_of (Some x) h = absurd (false≢true (sym h))

chosen : (o p : Option ℕ) → p ≡ None → cond (is_some o) o p ≡ o
chosen None p h = h
chosen (Some x) p h = refl

lookup-all : (max : MaxFlows) (touches : List Key) (key : Key) → lookup (same_key key) (all_kept max touches) ≡ lookup (same_key key) (kept max key.tcp touches)
lookup-all max touches key =
    lookup-append (same_key key) (kept max true touches) (kept max false touches)
    ∙ (elim key.tcp as
    (λ b. key.tcp ≡ b →
    cond (is_some (lookup (same_key key) (kept max true touches)))
    (lookup (same_key key) (kept max true touches))
    (lookup (same_key key) (kept max false touches)) ≡
    lookup (same_key key) (kept max b touches)) [
      | true ↦ λ t.
          chosen (lookup (same_key key) (kept max true touches))
          (lookup (same_key key) (kept max false touches))
          (lookup-none (kept max false touches) key (not_kept max false touches key (ap not t)))
      | false ↦ λ t.
          ap (λ (o : Option ℕ). cond (is_some o) o (lookup (same_key key) (kept max false touches)))
          (lookup-none (kept max true touches) key (not_kept max true touches key t))
    ]) refl

-- the list has a flow of a key exactly where the key lives and has that flow
pub found_all : (max : MaxFlows) (touches : List Key) (key : Key) → lookup (same_key key) (all_kept max touches) ≡ cond (is_live max touches key) (Some (flow_number max touches key)) None
found_all max touches key = lookup-all max touches key ∙ lookup-kept max touches key

kept_flow : (max : MaxFlows) (touches : List Key) (key : Key) (f : ℕ) → lookup (same_key key) (all_kept max touches) ≡ Some f → (is_live max touches key ≡ true) × (flow_number max touches key ≡ f)
kept_flow max touches key f h = (elim (is_live max touches key) as (λ x. cond x (Some (flow_number max touches key)) None ≡ Some f → (x ≡ true) × (flow_number max touches key ≡ f)) [
  | true ↦ λ g. (refl, cc)
  | false ↦ λ g. cc
]) (sym (found_all max touches key) ∙ h)

Apart-append : (xs ys : List Key) → Apart xs → Apart ys → ((key : Key) → is_touched xs key ≡ true → is_touched ys key ≡ false) → Apart (xs ++ ys)
Apart-append [] ys a b other = b
Apart-append (x ∷ xs) ys a b other = (
  list_any-append (same_key x) xs ys ∙ ap (λ (c : Bool). c || is_touched ys x) a.0 ∙ other x (ap (λ (c : Bool). c || is_touched xs x) (same_key-self x)),
  Apart-append xs ys a.1 b (λ key h. other key (after key h)),
)
  where
    after : (key : Key) → is_touched xs key ≡ true → (same_key key x || is_touched xs key) ≡ true
    after key h = (elim (same_key key x) as (λ c. (c || is_touched xs key) ≡ true) [ true ↦ refl | false ↦ h ])

Apart-kept : (max : MaxFlows) (tcp : Bool) (touches : List Key) → Apart (keys_of (kept max tcp touches))
Apart-kept max tcp touches = subst Apart (sym (keys_of-kept max tcp touches)) (Apart-take (max_for max tcp) (recent (filter (is_of tcp) touches)) (Apart-recent (filter (is_of tcp) touches)))

keys_of-append : (es fs : List (Key × ℕ)) → keys_of (es ++ fs) ≡ keys_of es ++ keys_of fs
keys_of-append [] fs = refl
keys_of-append (e ∷ es) fs = ap (λ (ks : List Key). e.0 ∷ ks) (keys_of-append es fs)

pub values_of-append : (es fs : List (Key × ℕ)) → values_of (es ++ fs) ≡ values_of es ++ values_of fs
values_of-append [] fs = refl
values_of-append (e ∷ es) fs = ap (λ (vs : List ℕ). e.1 ∷ vs) (values_of-append es fs)

Apart-all : (max : MaxFlows) (touches : List Key) → Apart (keys_of (all_kept max touches))
Apart-all max touches =
    subst Apart (sym (keys_of-append (kept max true touches) (kept max false touches)))
    (Apart-append (keys_of (kept max true touches)) (keys_of (kept max false touches)) (Apart-kept max true touches)
    (Apart-kept max false touches) (λ key h. not_kept max false touches key (ap not (kept_protocol max true touches key h))))

abbrev IsSingle : List (Key × ℕ) → Type 0
IsSingle es = (one other : Key) (f : ℕ) → lookup (same_key one) es ≡ Some f → lookup (same_key other) es ≡ Some f → one ≡ other

distinct_values : (es : List (Key × ℕ)) → Apart (keys_of es) → IsSingle es → IsDistinct eqb (values_of es)
unfolding IsDistinct
distinct_values [] apart single = tt
distinct_values (e ∷ es) apart single = (
  none_equal e.1 (values_of es) once,
  distinct_values es apart.1 (λ one other f h g. single one other f (lookup_after e es apart one f h) (lookup_after e es apart other f g)),
)
  where
    none_equal : (v : ℕ) (xs : List ℕ) → among xs v ≡ false → AllByRecursion (λ y. eqb v y ≡ false) xs
    none_equal v [] h = tt
    none_equal v (x ∷ xs) h = let parts = neither (eqb v x) (among xs v) h in (parts.0, none_equal v xs parts.1)

    first_found : lookup (same_key e.0) (e ∷ es) ≡ Some e.1
    first_found = rw (same_key-self e.0)

    once : among (values_of es) e.1 ≡ false
    once = (elim (among (values_of es) e.1) as (λ x. among (values_of es) e.1 ≡ x → x ≡ false) [
      | true ↦ λ t.
          let at = key_of_value es apart.1 e.1 t in
          let same : at.0 ≡ e.0 = single at.0 e.0 e.1 (lookup_after e es apart at.0 e.1 at.1) first_found in
          sym (sym apart.0 ∙ ap (is_touched (keys_of es)) (sym same) ∙ lookup-touched es at.0 e.1 at.1)
      | false ↦ λ t. refl
    ]) refl

single_all : (max : MaxFlows) (touches : List Key) → IsSingle (all_kept max touches)
single_all max touches one other f h g =
    let a = kept_flow max touches one f h in
    let b = kept_flow max touches other f g in
    flow_number-apart max touches one other (is_touched-live max touches one a.0) (is_touched-live max touches other b.0) (a.1 ∙ sym b.1)

pub live_flow : (max : MaxFlows) (touches : List Key) (f : ℕ) → (key : Key) → is_live max touches key ≡ true → flow_number max touches key ≡ f → is_live_flow max touches f ≡ true
live_flow max touches f key live is = any_key touches (is_touched-live max touches key live)
  where
    test : Key → Bool
    test k = is_live max touches k && eqb (flow_number max touches k) f

    here : (k : Key) → k ≡ key → (is_live max touches k && eqb (flow_number max touches k) f) ≡ true
    here k same =
        ap (λ (q : Key). is_live max touches q && eqb (flow_number max touches q) f) same
        ∙ ap (λ (b : Bool). b && eqb (flow_number max touches key) f) live
        ∙ eq-eqb (flow_number max touches key) f is

    any_key : (keys : List Key) → is_touched keys key ≡ true → list_any (λ k. is_live max touches k && eqb (flow_number max touches k) f) keys ≡ true
    any_key [] h = absurd (false≢true h)
    any_key (first ∷ keys) h =
        (elim (same_key key first) as
        (λ x. same_key key first ≡ x → (x || is_touched keys key) ≡ true →
        ((is_live max touches first && eqb (flow_number max touches first) f) ||
        list_any (λ k. is_live max touches k && eqb (flow_number max touches k) f) keys) ≡
        true) [
          | true ↦ λ t h.
              ap (λ (b : Bool). b || list_any (λ k. is_live max touches k && eqb (flow_number max touches k) f) keys)
              (here first (sym (same_key-is key first t)))
          | false ↦ λ t h.
              (elim (is_live max touches first && eqb (flow_number max touches first) f) as
              (λ b. (b || list_any (λ k. is_live max touches k && eqb (flow_number max touches k) f) keys) ≡ true)
              [ true ↦ refl | false ↦ any_key keys h ])
        ]) refl h

pub key_of_flow : (max : MaxFlows) (touches keys : List Key) (f : ℕ)
    → list_any (λ k. is_live max touches k && eqb (flow_number max touches k) f) keys ≡ true
    → (key : Key) × (is_live max touches key ≡ true) × (flow_number max touches key ≡ f)
key_of_flow max touches [] f h = absurd (false≢true h)
key_of_flow max touches (first ∷ keys) f h =
    (elim (is_live max touches first && eqb (flow_number max touches first) f) as
    (λ b. (is_live max touches first && eqb (flow_number max touches first) f) ≡ b →
    (b || list_any (λ k. is_live max touches k && eqb (flow_number max touches k) f) keys) ≡ true →
    (key : Key) × (is_live max touches key ≡ true) × (flow_number max touches key ≡ f)) [
      | true ↦ λ t h.
          let parts = two (is_live max touches first) (eqb (flow_number max touches first) f) t in
          (first, parts.0, eqb-true (flow_number max touches first) f parts.1)
      | false ↦ λ t h. key_of_flow max touches keys f h
    ]) refl h
  where
    two : (a b : Bool) → (a && b) ≡ true → (a ≡ true) × (b ≡ true)
    two true b h = (refl, h)
    two false b h = absurd (false≢true h)

-- the kept flows in ascending order are the flows that live
pub live_flows-sorted : (flows : FlowsState) (touches : List Key) (sorted : List ℕ)
    → HasSeen flows touches
    → IsPermutation (values_of flows.tcp ++ values_of flows.udp) sorted
    → IsNonDecreasing sorted
    → sorted ≡ live_flows flows.max touches
unfolding live_flows
live_flows-sorted flows touches sorted seen moved up =
    let max : MaxFlows = flows.max in
    let all : List ℕ = values_of (all_kept max touches) in
    let same : values_of flows.tcp ++ values_of flows.udp ≡ all =
    ap (λ (es : List (Key × ℕ)). values_of es ++ values_of flows.udp) seen.tcp
    ∙ ap (λ (es : List (Key × ℕ)). values_of (kept max true touches) ++ values_of es) seen.udp
    ∙ sym (values_of-append (kept max true touches) (kept max false touches)) in
    sorted-is all sorted (is_live_flow max touches) (begun max touches)
    (distinct_values (all_kept max touches) (Apart-all max touches) (single_all max touches))
    (subst (λ (xs : List ℕ). IsPermutation xs sorted) same moved)
    up
    (λ f h.
    let at = key_of_value (all_kept max touches) (Apart-all max touches) f h in let live = kept_flow max touches at.0 f at.1 in (
      subst (λ (n : ℕ). n < begun max touches) live.1
          (flow_number-begun max touches at.0 (is_touched-live max touches at.0 live.0)),
      live_flow max touches f at.0 live.0 live.1,
    ))
    (λ f h.
    let at = key_of_flow max touches touches f h in
    value_among (all_kept max touches) at.0 f
    (found_all max touches at.0 ∙ ap (λ (b : Bool). cond b (Some (flow_number max touches at.0)) None) at.1 ∙
    ap (λ (n : ℕ). Some n) at.2))

-- there are no more different keys than places in a list that has them all
fits : (keys places : List Key) → ((key : Key) → is_touched keys key ≡ true → is_touched places key ≡ true) → distinct_count keys ≤ length places
fits [] places within = omega arith
fits (first ∷ keys) places within = (elim (is_touched keys first) as (λ x. is_touched keys first ≡ x → cond x (distinct_count keys) (distinct_count keys + 1) ≤ length places) [
  | true ↦ λ t. fits keys places (λ key h. within key (after key h))
  | false ↦ λ t.
      let fewer : distinct_count keys ≤ length (remove_key first places) = fits keys (remove_key first places) (λ key h. left t key h) in
      let there : length (remove_key first places) + cond (is_touched places first) 1 0 ≡ length places = length-remove_key first places in
      let here : is_touched places first ≡ true = within first (ap (λ (c : Bool). c || is_touched keys first) (same_key-self first)) in
      let one_less : length (remove_key first places) + 1 ≡ length places = ap (λ (c : Bool). length (remove_key first places) + cond c 1 0) (sym here) ∙ there in
      omega arith
]) refl
  where
    after : (key : Key) → is_touched keys key ≡ true → (same_key key first || is_touched keys key) ≡ true
    after key h = (elim (same_key key first) as (λ c. (c || is_touched keys key) ≡ true) [ true ↦ refl | false ↦ h ])

    left : is_touched keys first ≡ false → (key : Key) → is_touched keys key ≡ true → is_touched (remove_key first places) key ≡ true
    left t key h = (elim (same_key key first) as (λ c. same_key key first ≡ c → is_touched (remove_key first places) key ≡ true) [
      | true ↦ λ u. absurd (false≢true (sym t ∙ ap (is_touched keys) (sym (same_key-is key first u)) ∙ h))
      | false ↦ λ u. is_touched-remove_key first key u places ∙ within key (after key h)
    ]) refl

length-keys_of : (es : List (Key × ℕ)) → length (keys_of es) ≡ length es
length-keys_of [] = refl
length-keys_of (e ∷ es) = omega (arith, length-keys_of es)

-- no more keys of a protocol live than may
pub live_count-le : (max : MaxFlows) (tcp : Bool) (touches : List Key) → live_count max tcp touches ≤ max_for max tcp
live_count-le max tcp touches =
    let few : length (keys_of (kept max tcp touches)) ≤ max_for max tcp = omega (arith, length-take (max_for max tcp) (stretches max tcp touches), length-keys_of (kept max tcp touches)) in
    let within = fits (filter (λ key. is_of tcp key && is_live max touches key) touches) (keys_of (kept max tcp touches)) (λ key h. live_kept key (passes touches key h)) in
    omega (arith, within)
  where
    passes : (keys : List Key) (key : Key) → is_touched (filter (λ k. is_of tcp k && is_live max touches k) keys) key ≡ true → (is_of tcp key && is_live max touches key) ≡ true
    passes [] key h = absurd (false≢true h)
    passes (first ∷ keys) key h =
        (elim (is_of tcp first && is_live max touches first) as
        (λ x. (is_of tcp first && is_live max touches first) ≡ x →
        is_touched (cond x (first ∷ filter (λ k. is_of tcp k && is_live max touches k) keys)
        (filter (λ k. is_of tcp k && is_live max touches k) keys)) key ≡
        true →
        (is_of tcp key && is_live max touches key) ≡ true) [
          | true ↦ λ t h.
              (elim (same_key key first) as
              (λ y. same_key key first ≡ y → (y || is_touched (filter (λ k. is_of tcp k && is_live max touches k) keys) key) ≡ true →
              (is_of tcp key && is_live max touches key) ≡ true) [
                | true ↦ λ u h. ap (λ (k : Key). is_of tcp k && is_live max touches k) (same_key-is key first u) ∙ t
                | false ↦ λ u h. passes keys key h
              ]) refl h
          | false ↦ λ t h. passes keys key h
        ]) refl h

    two : (a b : Bool) → (a && b) ≡ true → (a ≡ true) × (b ≡ true)
    two true b h = (refl, h)
    two false b h = absurd (false≢true h)

    protocol : (a b : Bool) → cond a b (not b) ≡ true → b ≡ a
    protocol true b h = h
    protocol false true h = absurd (false≢true h)
    protocol false false h = refl

    live_kept : (key : Key) → (is_of tcp key && is_live max touches key) ≡ true → is_touched (keys_of (kept max tcp touches)) key ≡ true
    live_kept key h = let parts = two (is_of tcp key) (is_live max touches key) h in
        ap (λ (b : Bool). is_touched (keys_of (kept max b touches)) key) (sym (protocol tcp key.tcp parts.0)) ∙ sym (is_live-kept max touches key) ∙ parts.1
