-- No key is there twice among the recent ones.
use Rattle.std.proofs.Common.{◌≡◌, ℕ, zero, suc, ◌≤◌, Bool, true, false, cond, ◌||◌, List, [], ◌∷◌, Some, None, length, take, slice_get, refl, sym, ap, ◌∙◌, arith}
use Rattle.std.specs.Bool.{⊤}
use Rattle.std.specs.List.{find}
use Rattle.std.specs.Map.{keys_of, lookup}
use Rattle.std.proofs.lemmas.Bool.{false≢true}
use Rattle.stream5_sessions.specs.declared.key.Key.{Key}
use Rattle.stream5_sessions.specs.Keys.{same_key}
use Rattle.stream5_sessions.specs.Liveness.{is_touched}
use Rattle.stream5_sessions.proofs.KeyLaws.{same_key-self, same_key-is}
use Rattle.stream5_sessions.proofs.Liveness.Recent.{recent, remove_key}

abbrev pub Apart : List Key → Type 0
Apart [] = ⊤
Apart (key ∷ keys) = (is_touched keys key ≡ false) × Apart keys

neither : (a b : Bool) → (a || b) ≡ false → (a ≡ false) × (b ≡ false)
neither true b h = absurd (false≢true (sym h))
neither false b h = (refl, h)

is_touched-fewer : (key other : Key) (keys : List Key) → is_touched keys other ≡ false → is_touched (remove_key key keys) other ≡ false
is_touched-fewer key other [] h = refl
is_touched-fewer key other (first ∷ keys) h = (elim (same_key key first) as (λ x. is_touched (cond x keys (first ∷ remove_key key keys)) other ≡ false) [
  | true ↦ (neither (same_key other first) (is_touched keys other) h).1
  | false ↦ let parts = neither (same_key other first) (is_touched keys other) h in rw parts.0 (is_touched-fewer key other keys parts.1)
])

Apart-remove_key : (key : Key) (keys : List Key) → Apart keys → Apart (remove_key key keys)
Apart-remove_key key [] h = h
Apart-remove_key key (first ∷ keys) h = (elim (same_key key first) as (λ x. Apart (cond x keys (first ∷ remove_key key keys))) [
  | true ↦ h.1
  | false ↦ (is_touched-fewer key first keys h.0, Apart-remove_key key keys h.1)
])

removed : (key : Key) (keys : List Key) → Apart keys → is_touched (remove_key key keys) key ≡ false
removed key [] h = refl
removed key (first ∷ keys) h = (elim (same_key key first) as (λ x. same_key key first ≡ x → is_touched (cond x keys (first ∷ remove_key key keys)) key ≡ false) [
  | true ↦ λ t. ap (is_touched keys) (same_key-is key first t) ∙ h.0
  | false ↦ λ t. rw t (removed key keys h.1)
]) refl

pub Apart-recent : (touches : List Key) → Apart (recent touches)
Apart-recent [] = tt
Apart-recent (touch ∷ earlier) = (removed touch (recent earlier) (Apart-recent earlier), Apart-remove_key touch (recent earlier) (Apart-recent earlier))

is_touched-front : (n : ℕ) (keys : List Key) (key : Key) → is_touched keys key ≡ false → is_touched (take n keys) key ≡ false
is_touched-front zero keys key h = refl
is_touched-front (suc n) [] key h = refl
is_touched-front (suc n) (first ∷ keys) key h = let parts = neither (same_key key first) (is_touched keys key) h in rw parts.0 (is_touched-front n keys key parts.1)

pub Apart-take : (n : ℕ) (keys : List Key) → Apart keys → Apart (take n keys)
Apart-take zero keys h = tt
Apart-take (suc n) [] h = tt
Apart-take (suc n) (first ∷ keys) h = (is_touched-front n keys first h.0, Apart-take n keys h.1)

pub is_touched-at : (n : ℕ) (es : List (Key × ℕ)) (e : Key × ℕ) → slice_get es n ≡ Some e → is_touched (keys_of es) e.0 ≡ true
is_touched-at n [] e h = cc
is_touched-at zero (first ∷ es) e h = let same : first ≡ e = cc in ap (λ (x : Bool). x || is_touched (keys_of es) e.0) (ap (λ (f : Key × ℕ). same_key e.0 f.0) same ∙ same_key-self e.0)
is_touched-at (suc n) (first ∷ es) e h = (elim (same_key e.0 first.0) as (λ x. (x || is_touched (keys_of es) e.0) ≡ true) [
  | true ↦ refl
  | false ↦ is_touched-at n es e h
])

-- an entry's key isn't among those before it
pub not_before : (n : ℕ) (es : List (Key × ℕ)) (e : Key × ℕ) → Apart (keys_of es) → slice_get es n ≡ Some e → is_touched (keys_of (take n es)) e.0 ≡ false
not_before zero es e apart h = refl
not_before (suc n) [] e apart h = refl
not_before (suc n) (first ∷ es) e apart h = (elim (same_key e.0 first.0) as (λ x. same_key e.0 first.0 ≡ x → (x || is_touched (keys_of (take n es)) e.0) ≡ false) [
  | true ↦ λ t. sym (sym (ap (is_touched (keys_of es)) (same_key-is e.0 first.0 t) ∙ apart.0) ∙ is_touched-at n es e h)
  | false ↦ λ t. not_before n es e apart.1 h
]) refl

-- a key that is found, but not among all places but the last, is at the last
pub found_last : (n : ℕ) (es : List (Key × ℕ)) (key : Key) (flow : ℕ)
    → length es ≤ suc n
    → lookup (same_key key) es ≡ Some flow
    → is_touched (keys_of (take n es)) key ≡ false
    → slice_get es n ≡ Some (key, flow)
found_last n [] key flow few h out = cc
found_last zero (first ∷ []) key flow few h out = (elim (same_key key first.0) as (λ x. same_key key first.0 ≡ x → cond x (Some first.1) None ≡ Some flow → Some first ≡ Some (key, flow)) [
  | true ↦ λ t h. let numbered : first.1 ≡ flow = cc in ap (λ (k : Key). Some (k, first.1)) (sym (same_key-is key first.0 t)) ∙ ap (λ (f : ℕ). Some (key, f)) numbered
  | false ↦ λ t h. cc
]) refl h
found_last zero (first ∷ second ∷ es) key flow few h out = absurd (omega arith)
found_last (suc n) (first ∷ es) key flow few h out =
    let parts = neither (same_key key first.0) (is_touched (keys_of (take n es)) key) out in
    found_last n es key flow (omega arith) (rw parts.0 at h) parts.1

pub find-passes : (test : Key → Bool) (keys : List Key) (key : Key) → find test keys ≡ Some key → test key ≡ true
find-passes test [] key h = cc
find-passes test (first ∷ keys) key h = (elim (test first) as (λ x. test first ≡ x → cond x (Some first) (find test keys) ≡ Some key → test key ≡ true) [
  | true ↦ λ t h. let same : first ≡ key = cc in ap test (sym same) ∙ t
  | false ↦ λ t h. find-passes test keys key h
]) refl h

pub find-none : (test : Key → Bool) (keys : List Key) → find test keys ≡ None → (key : Key) → is_touched keys key ≡ true → test key ≡ false
find-none test [] h key among = absurd (false≢true among)
find-none test (first ∷ keys) h key among = (elim (test first) as (λ x. test first ≡ x → cond x (Some first) (find test keys) ≡ None → test key ≡ false) [
  | true ↦ λ t h. cc
  | false ↦ λ t h. (elim (same_key key first) as (λ y. same_key key first ≡ y → (y || is_touched keys key) ≡ true → test key ≡ false) [
    | true ↦ λ u among. ap test (same_key-is key first u) ∙ t
    | false ↦ λ u among. find-none test keys h key among
  ]) refl among
]) refl h
