-- A slice that is cut in two, and what is done to both parts.
use Rattle.std.proofs.Common.{◌≡◌, ℕ, ◌+◌, ◌-◌, ◌<◌, ◌≤◌, List, ◌++◌, length, get_or, sym, ap, subst, ◌∙◌, arith, length-append, inl, inr, ◌⊎◌, ⊎_elim}
use Rattle.std.proofs.lemmas.Bool.{cases_lt}
use Rattle.std.proofs.lemmas.List.{get_or_append_left, get_or-append-add}
use Rattle.flow_lanes.specs.Spread.{AcceptsFrom, ChangesFrom}

pub accepts_front : {X : Type 0} (P : ℕ → X → Type 0) (base : ℕ) (xs front back : List X) → xs ≡ front ++ back → AcceptsFrom P base xs → AcceptsFrom P base front
accepts_front {X} P base xs front back is all = λ k d within.
    let size = ap length is ∙ length-append front back in
    let there : get_or xs k d ≡ get_or front k d = ap (λ (l : List X). get_or l k d) is ∙ get_or_append_left front back d k within in
    subst (λ (x : X). P (base + k) x) there (all k d (omega (arith, size, within)))

pub accepts_back : {X : Type 0} (P : ℕ → X → Type 0) (base mid : ℕ) (xs front back : List X) → xs ≡ front ++ back → length front ≡ mid → AcceptsFrom P base xs → AcceptsFrom P (base + mid) back
accepts_back {X} P base mid xs front back is cut all = λ k d within.
    let size = ap length is ∙ length-append front back in
    let place : base + (length front + k) ≡ (base + mid) + k = omega (arith, cut) in
    let there : get_or xs (length front + k) d ≡ get_or back k d = ap (λ (l : List X). get_or l (length front + k) d) is ∙ get_or-append-add front back k d in
    subst (λ (i : ℕ). P i (get_or back k d)) place (subst (λ (x : X). P (base + (length front + k)) x) there (all (length front + k) d (omega (arith, size, within))))

below_or_not : (k n : ℕ) → (k < n) ⊎ ((i : ℕ) × (k ≡ n + i))
below_or_not k n = ⊎_elim (λ (low : k < n). inl low) (λ (high : n ≤ k). inr (k - n, omega (arith, high))) (cases_lt k n)

pub changes_both : {X : Type 0} (R : ℕ → X → X → Type 0) (base mid : ℕ) (xs front back front_then back_then : List X) → xs ≡ front ++ back → length front ≡ mid
    → ChangesFrom R base front front_then → ChangesFrom R (base + mid) back back_then → ChangesFrom R base xs (front_then ++ back_then)
changes_both {X} R base mid xs front back front_then back_then is cut one other = record {
  len =
      length-append front_then back_then
      ∙ (let size = ap length is ∙ length-append front back in let a = one.len in let b = other.len in omega (arith, size, a, b));
  each = λ k d within.
      let size = ap length is ∙ length-append front back in
      ⊎_elim
      (λ (low : k < length front).
      let a = one.len in
      let old : get_or xs k d ≡ get_or front k d = ap (λ (l : List X). get_or l k d) is ∙ get_or_append_left front back d k low in
      let new : get_or (front_then ++ back_then) k d ≡ get_or front_then k d =
      get_or_append_left front_then back_then d k (omega (arith, a, low)) in
      subst (λ (x : X). R (base + k) x (get_or (front_then ++ back_then) k d))
      (sym old)
      (subst (λ (y : X). R (base + k) (get_or front k d) y) (sym new) (one.each k d low)))
      (λ (high : (i : ℕ) × (k ≡ length front + i)).
      let i = high.0 in let at = high.1 in
      let a = one.len in
      let old : get_or xs k d ≡ get_or back i d =
      ap (λ (l : List X). get_or l k d) is ∙ ap (λ (n : ℕ). get_or (front ++ back) n d) at ∙ get_or-append-add front back i d in
      let new : get_or (front_then ++ back_then) k d ≡ get_or back_then i d =
      ap (λ (n : ℕ). get_or (front_then ++ back_then) n d) (at ∙ ap (λ (n : ℕ). n + i) (sym a)) ∙
      get_or-append-add front_then back_then i d in
      let place : (base + mid) + i ≡ base + k = omega (arith, at, cut) in
      subst (λ (x : X). R (base + k) x (get_or (front_then ++ back_then) k d))
      (sym old)
      (subst (λ (y : X). R (base + k) (get_or back i d) y) (sym new)
      (subst (λ (n : ℕ). R n (get_or back i d) (get_or back_then i d)) place (other.each i d (omega (arith, size, at, within))))))
      (below_or_not k (length front));
}
