-- Lists of trackers: their keys stay apart, none is without a fragment, and how many fragments they hold.
use Rattle.std.proofs.Common.{◌≡◌, ℕ, ◌+◌, ◌-◌, ◌^◌, ◌<◌, ◌≤◌, true, false, cond, [], ◌∷◌, ◌++◌, Option, Some, None, IfSome, All}
use Rattle.std.proofs.Common.{length, drop, take, slice_get, sum_by, unwrap_or, refl, sym, ap, subst, ◌∙◌, arith}
use Rattle.std.specs.List.{IsDistinct, AllByRecursion}
use Rattle.std.specs.Map.{keys_of, values_of, lookup, lookup_entry, remove_entry, set_value}
use Rattle.std.specs.Option.{is_some, option_map, option_map_or}
use Rattle.std.proofs.lemmas.List.{map-append, take_all}
use Rattle.std.proofs.lemmas.List.Elements.{All-push, All-drop}
use Rattle.std.proofs.lemmas.List.Sums.{sum_by-cons, sum_by_push}
use Rattle.std.proofs.lemmas.Map.{lookup-remove_entry, keys-set_value}
use Rattle.std.proofs.lemmas.Map.Entries.{sum_by-remove_entry, sum_by-set_value}
use Rattle.std.proofs.lemmas.Map.Keys.{IsDistinct-tail, IsDistinct-push}
use Rattle.std.proofs.lemmas.Map.Made.{is_some-lookup}
use Rattle.std.proofs.lemmas.Map.Views.{All-map-remove_entry, All-values-set_value, IfSome-lookup_from_All}
use Rattle.lru.specs.LruCache.{LruCache, lru_cache, demoted, put_entries}
use Rattle.frag3_core.specs.declared.key.DatagramKey.{DatagramKey}
use Rattle.frag3_core.specs.Inside.{IsCache}
use Rattle.frag3_core.specs.Sound.{AreTrackers}
use Rattle.frag3_core.specs.Parts.{frags_in}
use Rattle.frag3_core.specs.Trackers.{Trackers, TrackerState, held_count, same_key}
use Rattle.frag3_core.proofs.Keys.{same_key-equivalence, same_key-refl, same_key-true, one_key}

abbrev pub frags_of : TrackerState → ℕ
frags_of t = length t.segments

abbrev HasSome : TrackerState → Type 0
HasSome t = 0 < length t.segments

-- ---- the trackers without the first
pub AreTrackers-drop : (ts : Trackers) → AreTrackers ts → AreTrackers (drop 1 ts)
AreTrackers-drop [] are = are
AreTrackers-drop (t ∷ ts) are = record {
  some = All-drop HasSome 1 (values_of (t ∷ ts)) are.some;
  apart = IsDistinct-tail same_key t.0 (keys_of ts) are.apart;
}

pub held_count-cons : (t : DatagramKey × TrackerState) (ts : Trackers) → held_count (t ∷ ts) ≡ length t.1.segments + held_count ts
held_count-cons t ts = sum_by-cons frags_of t.1 (values_of ts)

pub held_count-drop : (ts : Trackers) → held_count (drop 1 ts) + frags_in (option_map (λ (e : DatagramKey × TrackerState). e.1) (slice_get ts 0)) ≡ held_count ts
held_count-drop [] = refl
held_count-drop (t ∷ ts) = omega (arith, held_count-cons t ts)

pub length-le : (ts : Trackers) → AreTrackers ts → length ts ≤ held_count ts
length-le [] are = omega arith
length-le (t ∷ ts) are =
    let first : 0 < length t.1.segments = are.some 0 t.1 (omega arith) in
    omega (arith, first, held_count-cons t ts, length-le ts (AreTrackers-drop (t ∷ ts) are))

-- ---- the trackers without that of a key
apart_others : (key : DatagramKey) (P : DatagramKey → Type 0) (ts : Trackers) → AllByRecursion P (keys_of ts) → AllByRecursion P (keys_of (remove_entry (same_key key) ts))
apart_others key P [] all = all
apart_others key P (t ∷ ts) all =
    elim (same_key key t.0) as (λ b. AllByRecursion P (keys_of (cond b ts (t ∷ remove_entry (same_key key) ts)))) [
      | true ↦ all.1
      | false ↦ (all.0, apart_others key P ts all.1)
    ]

apart-remove : (key : DatagramKey) (ts : Trackers) → IsDistinct same_key (keys_of ts) → IsDistinct same_key (keys_of (remove_entry (same_key key) ts))
unfolding IsDistinct
apart-remove key [] apart = apart
apart-remove key (t ∷ ts) apart =
    elim (same_key key t.0) as (λ b. IsDistinct same_key (keys_of (cond b ts (t ∷ remove_entry (same_key key) ts)))) [
      | true ↦ apart.1
      | false ↦ (apart_others key (λ y. same_key t.0 y ≡ false) ts apart.0, apart-remove key ts apart.1)
    ]

pub AreTrackers-remove : (key : DatagramKey) (ts : Trackers) → AreTrackers ts → AreTrackers (remove_entry (same_key key) ts)
AreTrackers-remove key ts are = record {
  some = All-map-remove_entry (same_key key) (λ e. e.1) HasSome ts are.some;
  apart = apart-remove key ts are.apart;
}

pub held_count-remove : (key : DatagramKey) (ts : Trackers) → held_count (remove_entry (same_key key) ts) + unwrap_or (option_map frags_of (lookup (same_key key) ts)) 0 ≡ held_count ts
held_count-remove key ts = sum_by-remove_entry frags_of (same_key key) ts

-- no tracker of the key is left
pub lookup-removed : (key : DatagramKey) (ts : Trackers) → AreTrackers ts → lookup (same_key key) (remove_entry (same_key key) ts) ≡ None
lookup-removed key ts are =
    lookup-remove_entry same_key-equivalence (same_key key) (one_key key) key ts are.apart
    ∙ ap (λ b. cond b None (lookup (same_key key) ts)) (same_key-refl key)

-- ---- the trackers with one more after the others
pub AreTrackers-push : (ts : Trackers) (key : DatagramKey) (t : TrackerState) → AreTrackers ts → lookup (same_key key) ts ≡ None → 0 < length t.segments → AreTrackers (ts ++ (key, t) ∷ [])
AreTrackers-push ts key t are none some = record {
  some = subst (All HasSome) (sym (map-append (λ e. e.1) ts ((key, t) ∷ []))) (All-push HasSome (values_of ts) t are.some some);
  apart = subst (IsDistinct same_key) (sym (map-append (λ e. e.0) ts ((key, t) ∷ [])))
      (IsDistinct-push same_key-equivalence (keys_of ts) key are.apart (sym (is_some-lookup (same_key key) ts) ∙ ap is_some none));
}

pub held_count-push : (ts : Trackers) (key : DatagramKey) (t : TrackerState) → held_count (ts ++ (key, t) ∷ []) ≡ held_count ts + length t.segments
held_count-push ts key t = ap (sum_by frags_of) (map-append (λ e. e.1) ts ((key, t) ∷ [])) ∙ sum_by_push frags_of (values_of ts) t

-- ---- the trackers with another value
pub AreTrackers-set : (key : DatagramKey) (ts : Trackers) (t : TrackerState) → AreTrackers ts → 0 < length t.segments → AreTrackers (set_value (same_key key) ts t)
AreTrackers-set key ts t are some = record {
  some = All-values-set_value (same_key key) HasSome ts t are.some some;
  apart = subst (IsDistinct same_key) (sym (keys-set_value (same_key key) ts t)) are.apart;
}

pub held_count-set : (key : DatagramKey) (ts : Trackers) (old new : TrackerState)
    → lookup (same_key key) ts ≡ Some old
    → held_count (set_value (same_key key) ts new) + length old.segments ≡ held_count ts + length new.segments
held_count-set key ts old new is = sum_by-set_value frags_of (same_key key) ts old new is

-- ---- the tracker of a key, put last
entry_found : (key : DatagramKey) (ts : Trackers) (o : Option TrackerState) → lookup (same_key key) ts ≡ o → lookup_entry (same_key key) ts ≡ option_map (λ t. (key, t)) o
entry_found key [] o is = ap (option_map (λ t. (key, t))) is
entry_found key (t ∷ ts) o is =
    (elim (same_key key t.0) as
    (λ b. same_key key t.0 ≡ b → cond b (Some t.1) (lookup (same_key key) ts) ≡ o →
    cond b (Some t) (lookup_entry (same_key key) ts) ≡ option_map (λ t. (key, t)) o) [
      | true ↦ λ same found. ap (λ k. Some (k, t.1)) (sym (same_key-true key t.0 same)) ∙ ap (option_map (λ t. (key, t))) found
      | false ↦ λ other found. entry_found key ts o found
    ]) refl is

pub demoted-found : (key : DatagramKey) (ts : Trackers) (t : TrackerState) → lookup (same_key key) ts ≡ Some t → demoted (same_key key) ts ≡ remove_entry (same_key key) ts ++ (key, t) ∷ []
demoted-found key ts t is = ap (λ o. option_map_or (λ e. remove_entry (same_key key) ts ++ e ∷ []) o ts) (entry_found key ts (Some t) is)

pub demoted-none : (key : DatagramKey) (ts : Trackers) → lookup (same_key key) ts ≡ None → demoted (same_key key) ts ≡ ts
demoted-none key ts is = ap (λ o. option_map_or (λ e. remove_entry (same_key key) ts ++ e ∷ []) o ts) (entry_found key ts None is)

-- a tracker has no more fragments than all
pub frags-le : (key : DatagramKey) (ts : Trackers) (t : TrackerState) → lookup (same_key key) ts ≡ Some t → length t.segments ≤ held_count ts
frags-le key ts t is = omega (arith, held_count-remove key ts, ap (λ o. unwrap_or (option_map frags_of o) 0) is)

pub AreTrackers-nil : AreTrackers []
unfolding IsDistinct
AreTrackers-nil = record { some = λ k d below. absurd (omega arith); apart = tt }

-- the invariant from the parts of the cache
pub is_cache : (cache : LruCache DatagramKey TrackerState) (held : ℕ) (ts : Trackers) (cap : ℕ)
    → cache ≡ lru_cache ts cap
    → held ≡ held_count ts
    → cap ≡ 2 ^ 64 - 1
    → AreTrackers ts
    → IsCache (record { cache = cache; held = held })
is_cache cache held ts cap is counted wide are = record {
  held = counted ∙ ap (λ (c : LruCache DatagramKey TrackerState). held_count c.entries) (sym is);
  room = ap (λ (c : LruCache DatagramKey TrackerState). c.cap) is ∙ wide;
  trackers = subst (λ (c : LruCache DatagramKey TrackerState). AreTrackers c.entries) (sym is) are;
}

-- a tracker that is found is among them
pub some_found : (key : DatagramKey) (ts : Trackers) (t : TrackerState) → AreTrackers ts → lookup (same_key key) ts ≡ Some t → 0 < length t.segments
some_found key ts t are is = subst (λ o. IfSome o HasSome) is (IfSome-lookup_from_All HasSome (same_key key) ts are.some)

pub AreTrackers-demoted : (key : DatagramKey) (ts : Trackers) → AreTrackers ts → AreTrackers (demoted (same_key key) ts)
AreTrackers-demoted key ts are = (elim (lookup (same_key key) ts) as (λ o. lookup (same_key key) ts ≡ o → AreTrackers (demoted (same_key key) ts)) [
  | None ↦ λ is. subst AreTrackers (sym (demoted-none key ts is)) are
  | Some t ↦ λ is. subst AreTrackers (sym (demoted-found key ts t is))
      (AreTrackers-push (remove_entry (same_key key) ts) key t (AreTrackers-remove key ts are) (lookup-removed key ts are) (some_found key ts t are is))
]) refl

pub held_count-demoted : (key : DatagramKey) (ts : Trackers) → held_count (demoted (same_key key) ts) ≡ held_count ts
held_count-demoted key ts = (elim (lookup (same_key key) ts) as (λ o. lookup (same_key key) ts ≡ o → held_count (demoted (same_key key) ts) ≡ held_count ts) [
  | None ↦ λ is. ap held_count (demoted-none key ts is)
  | Some t ↦ λ is. ap held_count (demoted-found key ts t is) ∙ held_count-push (remove_entry (same_key key) ts) key t
      ∙ ap (λ o. held_count (remove_entry (same_key key) ts) + unwrap_or (option_map frags_of o) 0) (sym is) ∙ held_count-remove key ts
]) refl

-- ---- a tracker put in the stead of the one of its key
pub remove-none : (key : DatagramKey) (ts : Trackers) → lookup (same_key key) ts ≡ None → remove_entry (same_key key) ts ≡ ts
remove-none key [] none = refl
remove-none key (t ∷ ts) none = (elim (same_key key t.0) as (λ b. cond b (Some t.1) (lookup (same_key key) ts) ≡ None → cond b ts (t ∷ remove_entry (same_key key) ts) ≡ t ∷ ts) [
  | true ↦ λ is. cc
  | false ↦ λ is. ap (λ l. t ∷ l) (remove-none key ts is)
]) none

-- the first tracker, put last
demoted-first : (key : DatagramKey) (t : TrackerState) (ts : Trackers) → demoted (same_key key) ((key, t) ∷ ts) ≡ ts ++ (key, t) ∷ []
demoted-first key t ts = rw (same_key-refl key)

pub demoted-put : (key : DatagramKey) (ts : Trackers) (t : TrackerState) (cap : ℕ) → length ts < cap →
    demoted (same_key key) (put_entries same_key (lru_cache ts cap) key t) ≡ remove_entry (same_key key) ts ++ (key, t) ∷ []
demoted-put key ts t cap room =
    (elim (lookup (same_key key) ts) as
    (λ o. lookup (same_key key) ts ≡ o →
    demoted (same_key key) (put_entries same_key (lru_cache ts cap) key t) ≡ remove_entry (same_key key) ts ++ (key, t) ∷ []) [
      | None ↦ λ is.
          ap (λ o. demoted (same_key key) (put_of o)) (entry_found key ts None is)
          ∙ ap (λ l. demoted (same_key key) ((key, t) ∷ l)) (take_all (cap - 1) ts (omega arith))
          ∙ demoted-first key t ts ∙ ap (λ l. l ++ (key, t) ∷ []) (sym (remove-none key ts is))
      | Some old ↦ λ is.
          ap (λ o. demoted (same_key key) (put_of o)) (entry_found key ts (Some old) is)
          ∙ demoted-first key t (remove_entry (same_key key) ts)
    ]) refl
  where
    put_of : Option (DatagramKey × TrackerState) → Trackers
    put_of o = option_map_or (λ e. (e.0, t) ∷ remove_entry (same_key key) ts) o ((key, t) ∷ take (cap - 1) ts)
