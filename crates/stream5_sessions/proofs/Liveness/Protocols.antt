-- The touches of one protocol, and the keys that live among them.
use Rattle.std.proofs.Common.{◌≡◌, ℕ, zero, suc, ◌-◌, ◌<◌, Bool, true, false, cond, not, ◌&&◌, ◌||◌, List, [], ◌∷◌, Option, Some, None, length, take, filter, ltb, refl, sym, ap, ◌∙◌, arith}
use Rattle.std.specs.Option.{is_some}
use Rattle.std.proofs.lemmas.Map.Made.{is_some-lookup}
use Rattle.std.specs.Map.{keys_of, lookup, remove_entry}
use Rattle.std.proofs.lemmas.Bool.{false≢true}
use Rattle.stream5_sessions.specs.declared.key.Key.{Key}
use Rattle.stream5_sessions.specs.Keys.{is_of, same_key}
use Rattle.stream5_sessions.specs.Liveness.{MaxFlows, max_for, is_touched, since, distinct_count, is_live, begun, flow_number}
use Rattle.stream5_sessions.specs.Caches.{stretches, kept_by}
use Rattle.stream5_sessions.proofs.KeyLaws.{same_key-self, same_key-is, same_key-other}
use Rattle.stream5_sessions.proofs.Liveness.Recent.{recent, remove_key, keys_of-remove_entry, is_touched-recent, since-recent, length-recent, is_touched-take}

-- a key's look-ups among all touches are those among the touches of its protocol
pub is_touched-filter : (key : Key) (touches : List Key) → is_touched (filter (is_of key.tcp) touches) key ≡ is_touched touches key
is_touched-filter key [] = refl
is_touched-filter key (touch ∷ earlier) =
    (elim (is_of key.tcp touch) as
    (λ x. is_of key.tcp touch ≡ x →
    is_touched (cond x (touch ∷ filter (is_of key.tcp) earlier) (filter (is_of key.tcp) earlier)) key ≡
    (same_key key touch || is_touched earlier key)) [
      | true ↦ λ t. ap (λ (x : Bool). same_key key touch || x) (is_touched-filter key earlier)
      | false ↦ λ t. is_touched-filter key earlier ∙ ap (λ (x : Bool). x || is_touched earlier key) (sym (same_key-other key touch t))
    ]) refl

pub filter-since : (key : Key) (touches : List Key) → filter (is_of key.tcp) (since key touches) ≡ since key (filter (is_of key.tcp) touches)
filter-since key [] = refl
filter-since key (touch ∷ earlier) =
    (elim (is_of key.tcp touch) as
    (λ x. is_of key.tcp touch ≡ x →
    filter (is_of key.tcp) (cond (same_key key touch) [] (touch ∷ since key earlier)) ≡
    since key (cond x (touch ∷ filter (is_of key.tcp) earlier) (filter (is_of key.tcp) earlier))) [
      | true ↦ λ t.
          (elim (same_key key touch) as
          (λ y. same_key key touch ≡ y →
          filter (is_of key.tcp) (cond y [] (touch ∷ since key earlier)) ≡
          cond y [] (touch ∷ since key (filter (is_of key.tcp) earlier))) [
            | true ↦ λ u. refl
            | false ↦ λ u. rw t (ap (λ (ks : List Key). touch ∷ ks) (filter-since key earlier))
          ]) refl
      | false ↦ λ t. rw (same_key-other key touch t, t) (filter-since key earlier)
    ]) refl

-- a key lives where it is among as many recent ones of its protocol as may live
pub is_live-recent : (max : MaxFlows) (touches : List Key) (key : Key) → is_live max touches key ≡ is_touched (take (max_for max key.tcp) (recent (filter (is_of key.tcp) touches))) key
unfolding is_live
is_live-recent max touches key =
    let mine : List Key = filter (is_of key.tcp) touches in
    let room : ℕ = max_for max key.tcp in
    let found : is_touched touches key ≡ is_touched (recent mine) key = sym (is_touched-recent mine key ∙ is_touched-filter key touches) in
    let before : distinct_count (filter (is_of key.tcp) (since key touches)) ≡ length (since key (recent mine)) =
    ap distinct_count (filter-since key touches) ∙ sym (length-recent (since key mine)) ∙ ap (λ (ks : List Key). length ks) (sym (since-recent key mine)) in
    ap (λ (x : Bool). x && ltb (distinct_count (filter (is_of key.tcp) (since key touches))) room) found
    ∙ ap (λ (n : ℕ). is_touched (recent mine) key && ltb n room) before
    ∙ sym (is_touched-take room (recent mine) key)

pub keys_of-stretches : (max : MaxFlows) (tcp : Bool) (touches : List Key) → keys_of (stretches max tcp touches) ≡ recent (filter (is_of tcp) touches)
keys_of-stretches max tcp [] = refl
keys_of-stretches max tcp (touch ∷ earlier) =
    (elim (is_of tcp touch) as
    (λ x. is_of tcp touch ≡ x →
    keys_of (cond x ((touch, flow_number max (touch ∷ earlier) touch) ∷ remove_entry (same_key touch) (stretches max tcp earlier))
    (stretches max tcp earlier)) ≡
    recent (cond x (touch ∷ filter (is_of tcp) earlier) (filter (is_of tcp) earlier))) [
      | true ↦ λ t.
          ap (λ (ks : List Key). touch ∷ ks)
          (keys_of-remove_entry touch (stretches max tcp earlier) ∙ ap (remove_key touch) (keys_of-stretches max tcp earlier))
      | false ↦ λ t. keys_of-stretches max tcp earlier
    ]) refl

pub is_of-self : (key : Key) → is_of key.tcp key ≡ true
is_of-self key = (elim key.tcp as (λ b. cond b b (not b) ≡ true) [ true ↦ refl | false ↦ refl ])

pub same_protocol : (key other : Key) → same_key key other ≡ true → is_of key.tcp other ≡ true
same_protocol key other h = ap (is_of key.tcp) (sym (same_key-is key other h)) ∙ is_of-self key

pub lookup-remove_entry : (key other : Key) → same_key other key ≡ false → (es : List (Key × ℕ)) → lookup (same_key other) (remove_entry (same_key key) es) ≡ lookup (same_key other) es
lookup-remove_entry key other apart [] = refl
lookup-remove_entry key other apart (e ∷ es) =
    (elim (same_key key e.0) as
    (λ x. same_key key e.0 ≡ x →
    lookup (same_key other) (cond x es (e ∷ remove_entry (same_key key) es)) ≡
    cond (same_key other e.0) (Some e.1) (lookup (same_key other) es)) [
      | true ↦ λ t. let far : same_key other e.0 ≡ false = ap (same_key other) (sym (same_key-is key e.0 t)) ∙ apart in rw far
      | false ↦ λ t. ap (λ (o : Option ℕ). cond (same_key other e.0) (Some e.1) o) (lookup-remove_entry key other apart es)
    ]) refl

-- a touched key is there with its last flow's number
pub lookup-stretches : (max : MaxFlows) (touches : List Key) (key : Key) → is_touched touches key ≡ true → lookup (same_key key) (stretches max key.tcp touches) ≡ Some (flow_number max touches key)
lookup-stretches max [] key h = absurd (false≢true h)
lookup-stretches max (touch ∷ earlier) key h =
    (elim (same_key key touch) as
    (λ x. same_key key touch ≡ x → (x || is_touched earlier key) ≡ true →
    lookup (same_key key) (stretches max key.tcp (touch ∷ earlier)) ≡
    Some (cond x (cond (is_live max earlier touch) (flow_number max earlier touch) (begun max earlier))
    (flow_number max earlier key))) [
      | true ↦ λ t h. rw (same_protocol key touch t, same_key-self touch, t)
      | false ↦ λ t h.
          (elim (is_of key.tcp touch) as
          (λ y. is_of key.tcp touch ≡ y →
          lookup (same_key key)
          (cond y ((touch, flow_number max (touch ∷ earlier) touch) ∷ remove_entry (same_key touch) (stretches max key.tcp earlier))
          (stretches max key.tcp earlier)) ≡
          Some (flow_number max earlier key)) [
            | true ↦ λ u. rw t (lookup-remove_entry touch key t (stretches max key.tcp earlier) ∙ lookup-stretches max earlier key h)
            | false ↦ λ u. lookup-stretches max earlier key h
          ]) refl
    ]) refl h

lookup-take : (test : Key → Bool) (n : ℕ) (es : List (Key × ℕ)) → is_some (lookup test (take n es)) ≡ true → lookup test (take n es) ≡ lookup test es
lookup-take test zero es h = absurd (false≢true h)
lookup-take test (suc n) [] h = refl
lookup-take test (suc n) (e ∷ es) h =
    (elim (test e.0) as
    (λ x. is_some (cond x (Some e.1) (lookup test (take n es))) ≡ true →
    cond x (Some e.1) (lookup test (take n es)) ≡ cond x (Some e.1) (lookup test es)) [
      | true ↦ λ h. refl
      | false ↦ λ h. lookup-take test n es h
    ]) h

keys_of-take : (n : ℕ) (es : List (Key × ℕ)) → keys_of (take n es) ≡ take n (keys_of es)
keys_of-take zero es = refl
keys_of-take (suc n) [] = refl
keys_of-take (suc n) (e ∷ es) = ap (λ (ks : List Key). e.0 ∷ ks) (keys_of-take n es)

-- the keys that are kept of a protocol, with their flows' numbers
abbrev pub kept : MaxFlows → Bool → List Key → List (Key × ℕ)
kept max tcp touches = take (max_for max tcp) (stretches max tcp touches)

pub keys_of-kept : (max : MaxFlows) (tcp : Bool) (touches : List Key) → keys_of (kept max tcp touches) ≡ take (max_for max tcp) (recent (filter (is_of tcp) touches))
keys_of-kept max tcp touches = keys_of-take (max_for max tcp) (stretches max tcp touches) ∙ ap (take (max_for max tcp)) (keys_of-stretches max tcp touches)

-- a key lives where it is kept
pub is_live-kept : (max : MaxFlows) (touches : List Key) (key : Key) → is_live max touches key ≡ is_touched (keys_of (kept max key.tcp touches)) key
is_live-kept max touches key = is_live-recent max touches key ∙ ap (λ (ks : List Key). is_touched ks key) (sym (keys_of-kept max key.tcp touches))

is_some-kept : (max : MaxFlows) (touches : List Key) (key : Key) → is_some (lookup (same_key key) (kept max key.tcp touches)) ≡ is_live max touches key
is_some-kept max touches key = is_some-lookup (same_key key) (kept max key.tcp touches) ∙ sym (is_live-kept max touches key)

none_of : (o : Option ℕ) → is_some o ≡ false → o ≡ None
none_of None h = refl
none_of (Some x) h = absurd (false≢true (sym h))

pub is_touched-live : (max : MaxFlows) (touches : List Key) (key : Key) → is_live max touches key ≡ true → is_touched touches key ≡ true
unfolding is_live
is_touched-live max touches key h = (elim (is_touched touches key) as (λ x. (x && ltb (distinct_count (filter (is_of key.tcp) (since key touches))) (max_for max key.tcp)) ≡ true → x ≡ true) [
  | true ↦ λ h. refl
  | false ↦ λ h. h
]) h

-- what a look-up finds: the flow of a key that lives, and nothing for another
pub lookup-kept : (max : MaxFlows) (touches : List Key) (key : Key) → lookup (same_key key) (kept max key.tcp touches) ≡ cond (is_live max touches key) (Some (flow_number max touches key)) None
lookup-kept max touches key =
    (elim (is_live max touches key) as
    (λ x. is_live max touches key ≡ x →
    lookup (same_key key) (kept max key.tcp touches) ≡ cond x (Some (flow_number max touches key)) None) [
      | true ↦ λ t.
          lookup-take (same_key key) (max_for max key.tcp) (stretches max key.tcp touches) (is_some-kept max touches key ∙ t)
          ∙ lookup-stretches max touches key (is_touched-live max touches key t)
      | false ↦ λ t. none_of (lookup (same_key key) (kept max key.tcp touches)) (is_some-kept max touches key ∙ t)
    ]) refl

-- a touch leaves what is kept of the other protocol
pub stretches-other : (max : MaxFlows) (tcp : Bool) (key : Key) (touches : List Key) → is_of tcp key ≡ false → stretches max tcp (key ∷ touches) ≡ stretches max tcp touches
stretches-other max tcp key touches h = rw h

stretches-touched : (max : MaxFlows) (key : Key) (touches : List Key)
    → stretches max key.tcp (key ∷ touches) ≡
    (key, cond (is_live max touches key) (flow_number max touches key) (begun max touches)) ∷
    remove_entry (same_key key) (stretches max key.tcp touches)
stretches-touched max key touches = rw (is_of-self key, same_key-self key)

remove_entry-take : (test : Key → Bool) (n : ℕ) (es : List (Key × ℕ)) → is_some (lookup test (take (suc n) es)) ≡ true → remove_entry test (take (suc n) es) ≡ take n (remove_entry test es)
remove_entry-take test n [] h = absurd (false≢true h)
remove_entry-take test zero (e ∷ es) h =
    (elim (test e.0) as
    (λ x. is_some (cond x (Some e.1) (lookup test (take zero es))) ≡ true →
    cond x (take zero es) (e ∷ remove_entry test (take zero es)) ≡ take zero (cond x es (e ∷ remove_entry test es))) [
      | true ↦ λ h. refl
      | false ↦ λ h. absurd (false≢true h)
    ]) h
remove_entry-take test (suc n) (e ∷ es) h =
    (elim (test e.0) as
    (λ x. is_some (cond x (Some e.1) (lookup test (take (suc n) es))) ≡ true →
    cond x (take (suc n) es) (e ∷ remove_entry test (take (suc n) es)) ≡ take (suc n) (cond x es (e ∷ remove_entry test es))) [
      | true ↦ λ h. refl
      | false ↦ λ h. ap (λ (rest : List (Key × ℕ)). e ∷ rest) (remove_entry-take test n es h)
    ]) h

take-remove_entry : (test : Key → Bool) (n : ℕ) (es : List (Key × ℕ)) → is_some (lookup test (take (suc n) es)) ≡ false → take n (take (suc n) es) ≡ take n (remove_entry test es)
take-remove_entry test zero es h = refl
take-remove_entry test (suc n) [] h = refl
take-remove_entry test (suc n) (e ∷ es) h =
    (elim (test e.0) as
    (λ x. is_some (cond x (Some e.1) (lookup test (take (suc n) es))) ≡ false →
    e ∷ take n (take (suc n) es) ≡ take (suc n) (cond x es (e ∷ remove_entry test es))) [
      | true ↦ λ h. absurd (false≢true (sym h))
      | false ↦ λ h. ap (λ (rest : List (Key × ℕ)). e ∷ rest) (take-remove_entry test n es h)
    ]) h

-- what is kept after a touch, where `room` keys may live
after : (max : MaxFlows) (key : Key) (touches : List Key) (room : ℕ)
    → 0 < room
    → max_for max key.tcp ≡ room
    → kept_by (take room (stretches max key.tcp touches)) room
    (begun max touches) key
    (cond (is_live max touches key) (Some (flow_number max touches key)) None) ≡
    take room
    ((key, cond (is_live max touches key) (flow_number max touches key) (begun max touches)) ∷
    remove_entry (same_key key) (stretches max key.tcp touches))
after max key touches zero some is = absurd (omega arith)
after max key touches (suc n) some is =
    let S : List (Key × ℕ) = stretches max key.tcp touches in
    let kept_is : is_some (lookup (same_key key) (take (suc n) S)) ≡ is_live max touches key =
    ap (λ (m : ℕ). is_some (lookup (same_key key) (take m S))) (sym is) ∙ is_some-kept max touches key in
    let less : suc n - 1 ≡ n = omega arith in
    (elim (is_live max touches key) as
    (λ x. is_live max touches key ≡ x →
    kept_by (take (suc n) S) (suc n) (begun max touches) key (cond x (Some (flow_number max touches key)) None) ≡
    (key, cond x (flow_number max touches key) (begun max touches)) ∷ take n (remove_entry (same_key key) S)) [
      | true ↦ λ t.
          ap (λ (rest : List (Key × ℕ)). (key, flow_number max touches key) ∷ rest)
          (remove_entry-take (same_key key) n S (kept_is ∙ t))
      | false ↦ λ t.
          ap (λ (m : ℕ). (key, begun max touches) ∷ take m (take (suc n) S)) less
          ∙ ap (λ (rest : List (Key × ℕ)). (key, begun max touches) ∷ rest) (take-remove_entry (same_key key) n S (kept_is ∙ t))
    ]) refl

pub kept-touched : (max : MaxFlows) (key : Key) (touches : List Key)
    → 0 < max_for max key.tcp
    → kept_by (kept max key.tcp touches) (max_for max key.tcp) (begun max touches) key
    (lookup (same_key key) (kept max key.tcp touches)) ≡
    kept max key.tcp (key ∷ touches)
kept-touched max key touches some =
    ap (kept_by (kept max key.tcp touches) (max_for max key.tcp) (begun max touches) key) (lookup-kept max touches key)
    ∙ after max key touches (max_for max key.tcp) some refl
    ∙ ap (take (max_for max key.tcp)) (sym (stretches-touched max key touches))
