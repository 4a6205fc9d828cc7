-- The code's step is the definition's: at most one tracker is dropped for room, and only the first.
use Rattle.std.proofs.Common.{◌≡◌, ℕ, ◌+◌, ◌<◌, ◌≤◌, Bool, true, false, cond, not, ◌&&◌, ltb, leb, List, [], ◌∷◌, ◌++◌, Option}
use Rattle.std.proofs.Common.{Some, None, is_some, length, drop, unwrap_or, option_map, inl, inr, refl, sym, ap, ◌∙◌, arith}
use Rattle.std.proofs.Common.{length-append}
use Rattle.std.specs.Map.{lookup, remove_entry, set_value}
use Rattle.std.specs.Option.{option_map_or}
use Rattle.std.proofs.lemmas.Bool.{cases_lt}
use Rattle.std.proofs.lemmas.Bool.Decides.{nat_tests}
use borrow.Author.Tests.{leb-true}
use Rattle.frag3_core.specs.declared.key.DatagramKey.{DatagramKey}
use Rattle.frag3_core.specs.Parts.{Begins, Grows, Takes, is_first, is_kept, placed, roomy, settled}
use Rattle.frag3_core.specs.Sound.{AreTrackers}
use Rattle.frag3_core.specs.Trackers.{Fragment, Frag3State, Trackers, TrackerState, begun, datagram_of, found, held_count}
use Rattle.frag3_core.specs.Trackers.{in_time, is_timed_out, joined, key_of, others, own, same_key, trackers_after, with_own}
use Rattle.frag3_core.specs.Trackers.{with_room}
use Rattle.frag3_core.proofs.Entries.{demoted-found, held_count-cons, held_count-push, held_count-remove, held_count-set, lookup-removed, remove-none, some_found}

lt_test : (a b : ℕ) → a < b → ltb a b ≡ true
lt_test a b below = grind (arith, nat_tests)

ge_test : (a b : ℕ) → b ≤ a → ltb a b ≡ false
ge_test a b above = grind (arith, nat_tests)

le_test : (a b : ℕ) → a ≤ b → leb a b ≡ true
le_test a b below = grind (arith, nat_tests)

gt_test : (a b : ℕ) → b < a → leb a b ≡ false
gt_test a b above = grind (arith, nat_tests)

-- ---- the rule of room
with_room-fits : (most : ℕ) (ts : Trackers) → held_count ts < most → with_room most ts ≡ ts
with_room-fits most [] fits = refl
with_room-fits most (t ∷ ts) fits = ap (λ b. cond b (t ∷ ts) (with_room most ts)) (lt_test (held_count (t ∷ ts)) most fits)

with_room-full : (most : ℕ) (ts : Trackers) → AreTrackers ts → held_count ts ≤ most → most ≤ held_count ts → with_room most ts ≡ drop 1 ts
with_room-full most [] are few full = refl
with_room-full most (t ∷ ts) are few full =
    let first : 0 < length t.1.segments = are.some 0 t.1 (omega arith) in
    ap (λ b. cond b (t ∷ ts) (with_room most ts)) (ge_test (held_count (t ∷ ts)) most full)
    ∙ with_room-fits most ts (omega (arith, first, held_count-cons t ts))

roomy-fits : (limit : ℕ) (ts : Trackers) → held_count ts < limit → roomy limit ts ≡ ts
roomy-fits limit ts fits = ap (λ b. cond b (drop 1 ts) ts) (gt_test limit (held_count ts) fits)

roomy-full : (limit : ℕ) (ts : Trackers) → limit ≤ held_count ts → roomy limit ts ≡ drop 1 ts
roomy-full limit ts full = ap (λ b. cond b (drop 1 ts) ts) (le_test limit (held_count ts) full)

-- the rule leaves room for one
pub with_room-below : (most : ℕ) (ts : Trackers) → 0 < most → held_count (with_room most ts) < most
with_room-below most [] some = omega arith
with_room-below most (t ∷ ts) some = elim (cases_lt (held_count (t ∷ ts)) most) [
  | inl fits ↦ let same = ap held_count (with_room-fits most (t ∷ ts) fits) in omega (arith, same)
  | inr full ↦
      let rest = ap (λ b. held_count (cond b (t ∷ ts) (with_room most ts))) (ge_test (held_count (t ∷ ts)) most full) in
      omega (arith, rest, with_room-below most ts some)
]

-- the rule is one drop at most
with_room-roomy : (most : ℕ) (ts : Trackers) → AreTrackers ts → held_count ts ≤ most → with_room most ts ≡ roomy most ts
with_room-roomy most ts are few = elim (cases_lt (held_count ts) most) [
  | inl fits ↦ with_room-fits most ts fits ∙ sym (roomy-fits most ts fits)
  | inr full ↦ with_room-full most ts are few full ∙ sym (roomy-full most ts full)
]

-- ---- the tracker of a key
set-first : (key : DatagramKey) (ts : Trackers) (t : TrackerState) → is_first key ts ≡ false → drop 1 (set_value (same_key key) ts t) ≡ set_value (same_key key) (drop 1 ts) t
set-first key [] t other = refl
set-first key (x ∷ ts) t other = ap (λ b. drop 1 (cond b ((x.0, t) ∷ ts) (x ∷ set_value (same_key key) ts t))) other

lookup-first : (key : DatagramKey) (ts : Trackers) → is_first key ts ≡ false → lookup (same_key key) (drop 1 ts) ≡ lookup (same_key key) ts
lookup-first key [] other = refl
lookup-first key (x ∷ ts) other = sym (ap (λ b. cond b (Some x.1) (lookup (same_key key) ts)) other)

remove-first : (key : DatagramKey) (ts : Trackers) → is_first key ts ≡ true → remove_entry (same_key key) ts ≡ drop 1 ts
remove-first key [] first = cc
remove-first key (x ∷ ts) first = ap (λ b. cond b ts (x ∷ remove_entry (same_key key) ts)) first

lookup-drop-none : (key : DatagramKey) (ts : Trackers) → lookup (same_key key) ts ≡ None → lookup (same_key key) (drop 1 ts) ≡ None
lookup-drop-none key [] none = refl
lookup-drop-none key (x ∷ ts) none = (elim (same_key key x.0) as (λ b. cond b (Some x.1) (lookup (same_key key) ts) ≡ None → lookup (same_key key) ts ≡ None) [
  | true ↦ λ is. cc
  | false ↦ λ is. is
]) none

remove-set : (key : DatagramKey) (ts : Trackers) (t : TrackerState) → remove_entry (same_key key) (set_value (same_key key) ts t) ≡ remove_entry (same_key key) ts
remove-set key [] t = refl
remove-set key (x ∷ ts) t = (elim (same_key key x.0) as (λ b. same_key key x.0 ≡ b →
    remove_entry (same_key key) (cond b ((x.0, t) ∷ ts) (x ∷ set_value (same_key key) ts t)) ≡ cond b ts (x ∷ remove_entry (same_key key) ts)) [
      | true ↦ λ same. ap (λ b. cond b ts ((x.0, t) ∷ remove_entry (same_key key) ts)) same
      | false ↦ λ other. ap (λ b. cond b (set_value (same_key key) ts t) (x ∷ remove_entry (same_key key) (set_value (same_key key) ts t))) other ∙ ap (λ l. x ∷ l) (remove-set key ts t)
    ]) refl

lookup-set : (key : DatagramKey) (ts : Trackers) (old t : TrackerState) → lookup (same_key key) ts ≡ Some old → lookup (same_key key) (set_value (same_key key) ts t) ≡ Some t
lookup-set key [] old t is = cc
lookup-set key (x ∷ ts) old t is = (elim (same_key key x.0) as (λ b. same_key key x.0 ≡ b → cond b (Some x.1) (lookup (same_key key) ts) ≡ Some old →
    lookup (same_key key) (cond b ((x.0, t) ∷ ts) (x ∷ set_value (same_key key) ts t)) ≡ Some t) [
      | true ↦ λ same was. ap (λ b. cond b (Some t) (lookup (same_key key) ts)) same
      | false ↦ λ other was. ap (λ b. cond b (Some x.1) (lookup (same_key key) (set_value (same_key key) ts t))) other ∙ lookup-set key ts old t was
    ]) refl is

-- a changed tracker, settled
settled-set : (key : DatagramKey) (ts : Trackers) (old t : TrackerState) (bytes : Option (List ℕ)) → lookup (same_key key) ts ≡ Some old →
    settled key (is_some bytes) (set_value (same_key key) ts t) ≡ with_own key t (remove_entry (same_key key) ts) bytes
settled-set key ts old t (Some bytes) is = remove-set key ts t
settled-set key ts old t None is =
    demoted-found key (set_value (same_key key) ts t) t (lookup-set key ts old t is) ∙ ap (λ l. l ++ (key, t) ∷ []) (remove-set key ts t)

-- ---- a fragment whose tracker is kept
not_true : (b : Bool) → not b ≡ true → b ≡ false
not_true true is = cc
not_true false is = refl

and_left : (a b : Bool) → (a && b) ≡ true → a ≡ true
and_left true b is = refl
and_left false b is = cc

and_right : (a b : Bool) → (a && b) ≡ true → b ≡ true
and_right true b is = is
and_right false b is = cc

and_false : (a b : Bool) → (a && b) ≡ false → a ≡ true → b ≡ false
and_false true b is = λ _. is
and_false false b is = λ a. cc

-- what it means that a fragment's tracker is kept
pub record IsKeptAt (most : ℕ) (ts : Trackers) (key : DatagramKey) (moment : ℕ) (t : TrackerState) : Type 0 where
  pub is : lookup (same_key key) ts ≡ Some t
  pub in_time : is_timed_out moment t ≡ false
  pub kept : (nat_full : leb most (held_count ts) ≡ true) → is_first key ts ≡ false

kept_at : (most : ℕ) (ts : Trackers) (key : DatagramKey) (moment : ℕ) → is_kept most ts key moment ≡ true → (t : TrackerState) × IsKeptAt most ts key moment t
kept_at most ts key moment kept = (elim (lookup (same_key key) ts) as (λ o. lookup (same_key key) ts ≡ o →
    option_map_or (λ (t : TrackerState). not (is_timed_out moment t) && not (leb most (held_count ts) && is_first key ts)) o
    false ≡
    true →
    (t : TrackerState) × IsKeptAt most ts key moment t) [
      | None ↦ λ is test. cc
      | Some t ↦ λ is test. (
        t,
        record {
          is = is;
          in_time =
              not_true (is_timed_out moment t)
              (and_left (not (is_timed_out moment t)) (not (leb most (held_count ts) && is_first key ts)) test);
          kept =
              and_false (leb most (held_count ts)) (is_first key ts)
              (not_true (leb most (held_count ts) && is_first key ts)
              (and_right (not (is_timed_out moment t)) (not (leb most (held_count ts) && is_first key ts)) test));
        },
      )
    ]) refl kept

-- the trackers found are these without at most the first, which is another one's
found-kept_at : (most : ℕ) (f : Fragment) (ts : Trackers) (t : TrackerState) → AreTrackers ts → held_count ts ≤ most → IsKeptAt most ts (key_of f.ip) f.moment t →
    found (record { max_frags = most; trackers = ts }) f ≡ roomy most ts
found-kept_at most f ts t are few kept_here =
    let late : option_map_or (is_timed_out f.moment) (lookup (same_key (key_of f.ip)) ts) false ≡ false = ap (λ o. option_map_or (is_timed_out f.moment) o false) kept_here.is ∙ kept_here.in_time in
    ap (λ b. with_room most (cond b (remove_entry (same_key (key_of f.ip)) ts) ts)) late ∙ with_room-roomy most ts are few

-- the room and the tracker found before, where the tracker has one fragment more
roomy-set : (most : ℕ) (ts : Trackers) (key : DatagramKey) (moment : ℕ) (t new : TrackerState) → IsKeptAt most ts key moment t → length new.segments ≡ length t.segments + 1 →
    (roomy (most + 1) (set_value (same_key key) ts new) ≡ set_value (same_key key) (roomy most ts) new) × (lookup (same_key key) (roomy most ts) ≡ Some t)
roomy-set most ts key moment t new kept_here more =
    let count = held_count-set key ts t new kept_here.is in
    elim (cases_lt (held_count ts) most) [
      | inl fits ↦ (
        roomy-fits (most + 1) (set_value (same_key key) ts new) (omega (arith, count, more))
            ∙ ap (λ l. set_value (same_key key) l new) (sym (roomy-fits most ts fits)),
        ap (lookup (same_key key)) (roomy-fits most ts fits) ∙ kept_here.is,
      )
      | inr full ↦
          let other = kept_here.kept (le_test most (held_count ts) full) in (
            roomy-full (most + 1) (set_value (same_key key) ts new) (omega (arith, count, more))
                ∙ set-first key ts new other
                ∙ ap (λ l. set_value (same_key key) l new) (sym (roomy-full most ts full)),
            ap (lookup (same_key key)) (roomy-full most ts full) ∙ lookup-first key ts other ∙ kept_here.is,
          )
    ]

-- a tracker that is kept and grows is the definition's step
pub takes-grown : (most : ℕ) (f : Fragment) (ts new : Trackers) (bytes : Option (List ℕ)) → AreTrackers ts → held_count ts ≤ most →
    is_kept most ts (key_of f.ip) f.moment ≡ true → Grows most ts (key_of f.ip) f.ip f.part new bytes → Takes most ts f new bytes
takes-grown most f ts new bytes are few kept grows =
    let key = key_of f.ip in
    let frag3 : Frag3State = record { max_frags = most; trackers = ts } in
    let some = kept_at most ts key f.moment kept in
    let t = some.0 in
    let kept_here : IsKeptAt most ts key f.moment t = some.1 in
    let grown = joined f.ip f.part t in
    let more : length grown.segments ≡ length t.segments + 1 = length-append t.segments _ in
    let room = roomy-set most ts key f.moment t grown kept_here more in
    let finds = found-kept_at most f ts t are few kept_here in
    let mine : own frag3 f ≡ grown =
    ap (λ l. joined f.ip f.part (unwrap_or (lookup (same_key key) l) (begun f.moment f.rules))) finds
    ∙ ap (λ o. joined f.ip f.part (unwrap_or o (begun f.moment f.rules))) room.1 in
    let step = grows t kept_here.is in (
      step.0
          ∙ ap (settled key (is_some (datagram_of grown))) room.0
          ∙ settled-set key (roomy most ts) t grown (datagram_of grown) room.1
          ∙ sym (ap (λ l. with_own key (own frag3 f) (remove_entry (same_key key) l) (datagram_of (own frag3 f))) finds
          ∙ ap (λ m. with_own key m (remove_entry (same_key key) (roomy most ts)) (datagram_of m)) mine),
      step.1 ∙ sym (ap datagram_of mine),
    )

-- ---- a fragment that begins a tracker
nand_true : (a b : Bool) → (not a && not b) ≡ false → a ≡ false → b ≡ true
nand_true a true is = λ _. refl
nand_true true false is = λ a. cc
nand_true false false is = cc

-- the trackers found are the others, without at most the first, and none has the key
pub record IsFresh (most : ℕ) (f : Fragment) (ts : Trackers) : Type 0 where
  pub finds : found (record { max_frags = most; trackers = ts }) f ≡ roomy most (remove_entry (same_key (key_of f.ip)) ts)
  pub none : lookup (same_key (key_of f.ip)) (roomy most (remove_entry (same_key (key_of f.ip)) ts)) ≡ None

lookup-roomy-none : (most : ℕ) (key : DatagramKey) (ts : Trackers) → lookup (same_key key) ts ≡ None → lookup (same_key key) (roomy most ts) ≡ None
lookup-roomy-none most key ts none = elim (cases_lt (held_count ts) most) [
  | inl fits ↦ ap (lookup (same_key key)) (roomy-fits most ts fits) ∙ none
  | inr full ↦ ap (lookup (same_key key)) (roomy-full most ts full) ∙ lookup-drop-none key ts none
]

-- without a tracker that has a fragment there is room
removed-fits : (most : ℕ) (key : DatagramKey) (ts : Trackers) (t : TrackerState)
    → AreTrackers ts
    → held_count ts ≤ most
    → lookup (same_key key) ts ≡ Some t
    → held_count (remove_entry (same_key key) ts) < most
removed-fits most key ts t are few is =
    let some = some_found key ts t are is in
    let count = ap (λ o. held_count (remove_entry (same_key key) ts) + unwrap_or (option_map (λ (t : TrackerState). length t.segments) o) 0) (sym is) ∙ held_count-remove key ts in
    omega (arith, some, count)

fresh : (most : ℕ) (f : Fragment) (ts : Trackers) → AreTrackers ts → held_count ts ≤ most → is_kept most ts (key_of f.ip) f.moment ≡ false → IsFresh most f ts
fresh most f ts are few kept = (elim (lookup (same_key (key_of f.ip)) ts) as (λ o. lookup (same_key (key_of f.ip)) ts ≡ o →
    option_map_or (λ (t : TrackerState). not (is_timed_out f.moment t) && not (leb most (held_count ts) && is_first (key_of f.ip) ts)) o false ≡ false → IsFresh most f ts) [
      | None ↦ λ is test.
          let gone = remove-none (key_of f.ip) ts is in
          record {
            finds = ap (λ o. with_room most (cond (option_map_or (is_timed_out f.moment) o false) (remove_entry (same_key (key_of f.ip)) ts) ts)) is
                ∙ with_room-roomy most ts are few ∙ ap (roomy most) (sym gone);
            none = lookup-roomy-none most (key_of f.ip) (remove_entry (same_key (key_of f.ip)) ts) (lookup-removed (key_of f.ip) ts are);
          }
      | Some t ↦ λ is test.
          let fits = removed-fits most (key_of f.ip) ts t are few is in
          record {
            finds = found_of t is fits (λ in_time. nand_true (is_timed_out f.moment t) (leb most (held_count ts) && is_first (key_of f.ip) ts) test in_time) (is_timed_out f.moment t) refl
                ∙ sym (roomy-fits most (remove_entry (same_key (key_of f.ip)) ts) fits);
            none = lookup-roomy-none most (key_of f.ip) (remove_entry (same_key (key_of f.ip)) ts) (lookup-removed (key_of f.ip) ts are);
          }
    ]) refl kept
  where
    found_of : (t : TrackerState) → lookup (same_key (key_of f.ip)) ts ≡ Some t → held_count (remove_entry (same_key (key_of f.ip)) ts) < most →
        (is_timed_out f.moment t ≡ false → (leb most (held_count ts) && is_first (key_of f.ip) ts) ≡ true) → (late : Bool) → is_timed_out f.moment t ≡ late →
        found (record { max_frags = most; trackers = ts }) f ≡ remove_entry (same_key (key_of f.ip)) ts
    found_of t is fits full true late =
        ap (λ b. with_room most (cond b (remove_entry (same_key (key_of f.ip)) ts) ts)) (ap (λ o. option_map_or (is_timed_out f.moment) o false) is ∙ late)
        ∙ with_room-fits most (remove_entry (same_key (key_of f.ip)) ts) fits
    found_of t is fits full false in_time =
        let first = and_right (leb most (held_count ts)) (is_first (key_of f.ip) ts) (full in_time) in
        let most_held : most ≤ held_count ts = leb-true most (held_count ts) (and_left (leb most (held_count ts)) (is_first (key_of f.ip) ts) (full in_time)) in
        ap (λ b. with_room most (cond b (remove_entry (same_key (key_of f.ip)) ts) ts)) (ap (λ o. option_map_or (is_timed_out f.moment) o false) is ∙ in_time)
        ∙ with_room-full most ts are few most_held ∙ sym (remove-first (key_of f.ip) ts first)

drop-push : (ts : Trackers) (x : DatagramKey × TrackerState) → 0 < held_count ts → drop 1 (ts ++ x ∷ []) ≡ drop 1 ts ++ x ∷ []
drop-push [] x some = absurd (omega arith)
drop-push (t ∷ ts) x some = refl

roomy-push : (most : ℕ) (key : DatagramKey) (t : TrackerState) (ts : Trackers) → 0 < most → length t.segments ≡ 1 → roomy (most + 1) (ts ++ (key, t) ∷ []) ≡ roomy most ts ++ (key, t) ∷ []
roomy-push most key t ts some one =
    let count = held_count-push ts key t in
    elim (cases_lt (held_count ts) most) [
      | inl fits ↦ roomy-fits (most + 1) (ts ++ (key, t) ∷ []) (omega (arith, count, one)) ∙ ap (λ l. l ++ (key, t) ∷ []) (sym (roomy-fits most ts fits))
      | inr full ↦ roomy-full (most + 1) (ts ++ (key, t) ∷ []) (omega (arith, count, one)) ∙ drop-push ts (key, t) (omega arith) ∙ ap (λ l. l ++ (key, t) ∷ []) (sym (roomy-full most ts full))
    ]

placed-own : (most : ℕ) (key : DatagramKey) (t : TrackerState) (ts : Trackers) (bytes : Option (List ℕ)) → 0 < most → length t.segments ≡ 1 →
    placed most key t (is_some bytes) ts ≡ with_own key t (roomy most (remove_entry (same_key key) ts)) bytes
placed-own most key t ts (Some bytes) some one = refl
placed-own most key t ts None some one = roomy-push most key t (remove_entry (same_key key) ts) some one

-- a tracker that a fragment begins is the definition's step
pub takes-begun : (most : ℕ) (f : Fragment) (ts new : Trackers) (bytes : Option (List ℕ)) → AreTrackers ts → held_count ts ≤ most → 0 < most →
    is_kept most ts (key_of f.ip) f.moment ≡ false → Begins most ts (begun f.moment f.rules) f.ip f.part new bytes → Takes most ts f new bytes
takes-begun most f ts new bytes are few some kept begins =
    let key = key_of f.ip in
    let frag3 : Frag3State = record { max_frags = most; trackers = ts } in
    let is = fresh most f ts are few kept in
    let rest = roomy most (remove_entry (same_key key) ts) in
    let first = joined f.ip f.part (begun f.moment f.rules) in
    let mine : own frag3 f ≡ first =
    ap (λ l. joined f.ip f.part (unwrap_or (lookup (same_key key) l) (begun f.moment f.rules))) is.finds
    ∙ ap (λ o. joined f.ip f.part (unwrap_or o (begun f.moment f.rules))) is.none in
    let left : others frag3 f ≡ rest = ap (remove_entry (same_key key)) is.finds ∙ remove-none key rest is.none in (
      begins.0 ∙ placed-own most key first ts (datagram_of first) some refl
          ∙ sym (ap (λ l. with_own key (own frag3 f) l (datagram_of (own frag3 f))) left ∙
          ap (λ m. with_own key m rest (datagram_of m)) mine),
      begins.1 ∙ sym (ap datagram_of mine),
    )

-- ---- the bound
with_own-held : (key : DatagramKey) (t : TrackerState) (ts : Trackers) (bytes : Option (List ℕ)) → held_count (with_own key t ts bytes) ≤ held_count ts + length t.segments
with_own-held key t ts (Some bytes) = omega arith
with_own-held key t ts None = omega (arith, held_count-push ts key t)

-- at most `most` fragments are held after any
pub held_count-after : (most : ℕ) (f : Fragment) (ts : Trackers) → 0 < most → held_count (trackers_after (record { max_frags = most; trackers = ts }) f) ≤ most
held_count-after most f ts some =
    let key = key_of f.ip in
    let frag3 : Frag3State = record { max_frags = most; trackers = ts } in
    let below : held_count (found frag3 f) < most = with_room-below most (in_time f ts) some in
    let split = held_count-remove key (found frag3 f) in
    let all = with_own-held key (own frag3 f) (others frag3 f) (datagram_of (own frag3 f)) in
    let one : length (own frag3 f).segments
    ≡ unwrap_or (option_map (λ (t : TrackerState). length t.segments) (lookup (same_key key) (found frag3 f))) 0 + 1 =
    own_count (lookup (same_key key) (found frag3 f)) in
    omega (arith, below, split, all, one)
  where
    own_count : (o : Option TrackerState) → length (joined f.ip f.part (unwrap_or o (begun f.moment f.rules))).segments ≡ unwrap_or (option_map (λ (t : TrackerState). length t.segments) o) 0 + 1
    own_count None = refl
    own_count (Some t) = length-append t.segments _

pub held_count-takes : (most : ℕ) (f : Fragment) (ts new : Trackers) (bytes : Option (List ℕ)) → 0 < most → Takes most ts f new bytes → held_count new ≤ most
held_count-takes most f ts new bytes some takes = let same = ap held_count takes.0 in omega (arith, same, held_count-after most f ts some)
