-- The different keys of a list of touches, the latest touched first: which of them come first.
use Rattle.std.proofs.Common.{◌≡◌, ℕ, zero, suc, ◌+◌, Bool, true, false, cond, ◌&&◌, ◌||◌, List, [], ◌∷◌, length, take, ltb, refl, sym, ap, ◌∙◌, arith}
use Rattle.std.specs.Map.{keys_of, remove_entry}
use Rattle.std.proofs.lemmas.Bool.Decides.{nat_tests}
use Rattle.stream5_sessions.specs.declared.key.Key.{Key}
use Rattle.stream5_sessions.specs.Keys.{same_key}
use Rattle.stream5_sessions.specs.Liveness.{is_touched, since, distinct_count}
use Rattle.stream5_sessions.proofs.KeyLaws.{same_key-is}

-- the keys without the first place of one of them
abbrev pub remove_key : Key → List Key → List Key
remove_key key [] = []
remove_key key (first ∷ keys) = cond (same_key key first) keys (first ∷ remove_key key keys)

-- each key once, at its last touch
abbrev pub recent : List Key → List Key
recent [] = []
recent (key ∷ earlier) = key ∷ remove_key key (recent earlier)

pub keys_of-remove_entry : (key : Key) (entries : List (Key × ℕ)) → keys_of (remove_entry (same_key key) entries) ≡ remove_key key (keys_of entries)
keys_of-remove_entry key [] = refl
keys_of-remove_entry key (e ∷ entries) =
    (elim (same_key key e.0) as
    (λ x. same_key key e.0 ≡ x →
    keys_of (cond x entries (e ∷ remove_entry (same_key key) entries)) ≡
    cond x (keys_of entries) (e.0 ∷ remove_key key (keys_of entries))) [
      | true ↦ λ t. refl
      | false ↦ λ t. ap (λ (ks : List Key). e.0 ∷ ks) (keys_of-remove_entry key entries)
    ]) refl

-- another key is found where it was
pub is_touched-remove_key : (key other : Key) → same_key other key ≡ false → (keys : List Key) → is_touched (remove_key key keys) other ≡ is_touched keys other
is_touched-remove_key key other apart [] = refl
is_touched-remove_key key other apart (first ∷ keys) =
    (elim (same_key key first) as
    (λ x. same_key key first ≡ x →
    is_touched (cond x keys (first ∷ remove_key key keys)) other ≡ (same_key other first || is_touched keys other)) [
      | true ↦ λ t. ap (λ (x : Bool). x || is_touched keys other) (sym (ap (same_key other) (sym (same_key-is key first t)) ∙ apart))
      | false ↦ λ t. ap (λ (x : Bool). same_key other first || x) (is_touched-remove_key key other apart keys)
    ]) refl

pub since-remove_key : (key other : Key) → same_key other key ≡ false → (keys : List Key) → since other (remove_key key keys) ≡ remove_key key (since other keys)
since-remove_key key other apart [] = refl
since-remove_key key other apart (first ∷ keys) =
    (elim (same_key key first) as
    (λ x. same_key key first ≡ x →
    since other (cond x keys (first ∷ remove_key key keys)) ≡
    remove_key key (cond (same_key other first) [] (first ∷ since other keys))) [
      | true ↦ λ t.
          let far : same_key other first ≡ false = ap (same_key other) (sym (same_key-is key first t)) ∙ apart in rw (far, t)
      | false ↦ λ t.
          (elim (same_key other first) as
          (λ y. same_key other first ≡ y →
          cond y [] (first ∷ since other (remove_key key keys)) ≡ remove_key key (cond y [] (first ∷ since other keys))) [
            | true ↦ λ u. refl
            | false ↦ λ u. rw t (ap (λ (ks : List Key). first ∷ ks) (since-remove_key key other apart keys))
          ]) refl
    ]) refl

pub is_touched-recent : (touches : List Key) (key : Key) → is_touched (recent touches) key ≡ is_touched touches key
is_touched-recent [] key = refl
is_touched-recent (touch ∷ earlier) key = (elim (same_key key touch) as (λ x. same_key key touch ≡ x → (x || is_touched (remove_key touch (recent earlier)) key) ≡ (x || is_touched earlier key)) [
  | true ↦ λ t. refl
  | false ↦ λ t. is_touched-remove_key touch key t (recent earlier) ∙ is_touched-recent earlier key
]) refl

-- the keys before a key among the recent ones are the recent ones of the touches since
pub since-recent : (key : Key) (touches : List Key) → since key (recent touches) ≡ recent (since key touches)
since-recent key [] = refl
since-recent key (touch ∷ earlier) =
    (elim (same_key key touch) as
    (λ x. same_key key touch ≡ x →
    cond x [] (touch ∷ since key (remove_key touch (recent earlier))) ≡ recent (cond x [] (touch ∷ since key earlier))) [
      | true ↦ λ t. refl
      | false ↦ λ t.
          ap (λ (ks : List Key). touch ∷ ks)
          (since-remove_key touch key t (recent earlier) ∙ ap (remove_key touch) (since-recent key earlier))
    ]) refl

pub length-remove_key : (key : Key) (keys : List Key) → length (remove_key key keys) + cond (is_touched keys key) 1 0 ≡ length keys
length-remove_key key [] = refl
length-remove_key key (first ∷ keys) =
    (elim (same_key key first) as
    (λ x. same_key key first ≡ x →
    length (cond x keys (first ∷ remove_key key keys)) + cond (x || is_touched keys key) 1 0 ≡ length (first ∷ keys)) [
      | true ↦ λ t. omega arith
      | false ↦ λ t. omega (arith, length-remove_key key keys)
    ]) refl

-- there are as many recent keys as different ones
pub length-recent : (touches : List Key) → length (recent touches) ≡ distinct_count touches
length-recent [] = refl
length-recent (touch ∷ earlier) =
    let fewer : length (remove_key touch (recent earlier)) + cond (is_touched earlier touch) 1 0 ≡ length (recent earlier) =
    ap (λ (x : Bool). length (remove_key touch (recent earlier)) + cond x 1 0) (sym (is_touched-recent earlier touch))
    ∙ length-remove_key touch (recent earlier) in
    let earlier_is = length-recent earlier in
    counted (is_touched earlier touch) (length (remove_key touch (recent earlier))) (distinct_count earlier) (fewer ∙ earlier_is)
  where
    counted : (again : Bool) (rest all : ℕ) → rest + cond again 1 0 ≡ all → suc rest ≡ cond again all (all + 1)
    counted true rest all h = omega arith
    counted false rest all h = omega arith

-- a key is among the first `n` where fewer come before it
pub is_touched-take : (n : ℕ) (keys : List Key) (key : Key) → is_touched (take n keys) key ≡ (is_touched keys key && ltb (length (since key keys)) n)
is_touched-take zero keys key = none (is_touched keys key) (length (since key keys))
  where
    none : (b : Bool) (m : ℕ) → false ≡ (b && ltb m zero)
    none true m = grind (arith, nat_tests)
    none false m = refl
is_touched-take (suc n) [] key = refl
is_touched-take (suc n) (first ∷ keys) key =
    (elim (same_key key first) as
    (λ x. same_key key first ≡ x →
    (x || is_touched (take n keys) key) ≡
    ((x || is_touched keys key) && ltb (length (cond x [] (first ∷ since key keys))) (suc n))) [
      | true ↦ λ t. below n
      | false ↦ λ t. is_touched-take n keys key ∙ ap (λ (x : Bool). is_touched keys key && x) (shifted (length (since key keys)) n)
    ]) refl
  where
    shifted : (m n : ℕ) → ltb m n ≡ ltb (suc m) (suc n)
    shifted m n = grind (arith, nat_tests)

    below : (n : ℕ) → true ≡ ltb zero (suc n)
    below n = grind (arith, nat_tests)
