-- A move from the place of a state.
use Rattle.std.proofs.Common.{◌≡◌, ℕ, ◌+◌, ◌-◌, ◌*◌, ◌/◌, ◌%◌, ◌<◌, ◌≤◌, cond, eqb, ltb, List, length, slice_index, sym, ap, subst, ◌∙◌, arith, ⊎_elim}
use Rattle.std.proofs.Math.Nat.{mul-le-mul_right}
use Rattle.std.proofs.lemmas.Nat.{div-mul-add, row_fits}
use Rattle.std.proofs.lemmas.Bool.{cases_lt, cases_eq, lt-ltb, le-ltb, eq-eqb, ne_eqb, cond-true, cond-false}
use Rattle.pattern_search.specs.declared.automaton.Automaton.{Automaton}
use Rattle.pattern_search.specs.declared.moves.Reached.{Reached}
use Rattle.pattern_search.specs.Moves.{Reaches}
use Rattle.pattern_search.specs.Rows.{sparse, place_of, state_of, entry_of, HasEntry}
use Rattle.pattern_search.specs.Finding.{Steps, StepsBack}
use Rattle.pattern_search.proofs.States.Moving.{reached-move}

pub place-row : (width dense state : ℕ) → state < dense → place_of width dense state ≡ state * width
unfolding place_of
place-row width dense state h = cond-true (ltb state dense) (state * width) (sparse + state) (lt-ltb state dense h)

pub place-sparse : (width dense state : ℕ) → dense ≤ state → place_of width dense state ≡ sparse + state
unfolding place_of
place-sparse width dense state h = cond-false (ltb state dense) (state * width) (sparse + state) (le-ltb state dense h)

state-row : (width at : ℕ) → at < sparse → state_of width at ≡ at / width
unfolding state_of
state-row width at h = cond-true (ltb at sparse) (at / width) (at - sparse) (lt-ltb at sparse h)

state-sparse : (width at : ℕ) → sparse ≤ at → state_of width at ≡ at - sparse
unfolding state_of
state-sparse width at h = cond-false (ltb at sparse) (at / width) (at - sparse) (le-ltb at sparse h)

whole : (a w : ℕ) → 0 < w → a * w / w ≡ a
whole a w some = let e : a * w ≡ a * w + 0 = omega arith in ap (λ (x : ℕ). x / w) e ∙ div-mul-add a w 0 some

-- the place of a state leaves room for a flag
pub place-fits : (width dense state : ℕ) → dense * width ≤ sparse → state < sparse → place_of width dense state < 2147483648
place-fits width dense state fits few =
    ⊎_elim
    (λ low.
    let below : state ≤ dense = omega arith in
    omega (arith, place-row width dense state low, mul-le-mul_right width below, fits))
    (λ high. omega (arith, place-sparse width dense state high, few))
    (cases_lt state dense)

pub state-place : (width dense state : ℕ) → 0 < width → dense * width ≤ sparse → state_of width (place_of width dense state) ≡ state
state-place width dense state wide fits = ⊎_elim
    (λ low.
    let at = place-row width dense state low in
    let small : state * width < sparse = omega (arith, row_fits state width dense width low (omega arith)) in
    ap (state_of width) at ∙ state-row width (state * width) small ∙ whole state width wide)
    (λ high.
    let at = place-sparse width dense state high in
    ap (state_of width) at ∙ state-sparse width (sparse + state) (omega arith) ∙ omega arith)
    (cases_lt state dense)

-- what a move tells
pub halves : (width dense : ℕ) (heads : List ℕ) (state entry : ℕ) → entry ≡ entry_of width dense heads state → (entry / 2 ≡ place_of width dense state) × (entry % 2 ≡ 0 → slice_index heads state ≡ 0)
unfolding entry_of
halves width dense heads state entry is = go (place_of width dense state) (slice_index heads state) entry is
  where
    go : (x hd e : ℕ) → e ≡ 2 * x + cond (eqb hd 0) 0 1 → (e / 2 ≡ x) × (e % 2 ≡ 0 → hd ≡ 0)
    go x hd e is = ⊎_elim
        (λ none. let same : ◌≡◌ {A = ℕ} (cond (eqb hd 0) 0 1) 0 = cond-true {A = ℕ} (eqb hd 0) 0 1 (eq-eqb hd 0 none) in (omega (arith, same), λ even. none))
        (λ some. let same : ◌≡◌ {A = ℕ} (cond (eqb hd 0) 0 1) 1 = cond-false {A = ℕ} (eqb hd 0) 0 1 (ne_eqb hd 0 some) in (omega (arith, same), λ even. absurd (omega (arith, same))))
        (cases_eq hd 0)

-- a move from a state that has a row
pub step-row : (automaton : Automaton) (at letter entry : ℕ) → at + letter < length automaton.table.items → entry ≡ slice_index automaton.table.items (at + letter) → Steps automaton at letter entry
step-row automaton at letter entry below known = record {
  stepped = λ patterns finds state h at_is k.
      let width = automaton.trie.width in
      let dense = automaton.dense in
      ⊎_elim
      (λ low.
      let e : at + letter ≡ state * width + letter = ap (λ n. n + letter) (at_is ∙ place-row width dense state low) in
      let bound : state * width + letter < length automaton.table.items = omega (arith, e) in
      let P : ℕ → Type 0 = λ x. HasEntry finds.words automaton.entries.items state letter x in
      subst P (sym (known ∙ ap (slice_index automaton.table.items) e)) (finds.rows.each state letter h k bound))
      (λ high. absurd (omega (arith, at_is, place-sparse width dense state high, finds.long, finds.fits)))
      (cases_lt state dense);
}

-- a move from a state that has no row
pub step-sparse : (automaton : Automaton) (at state letter entry : ℕ)
    → length automaton.table.items ≤ at + letter
    → state ≡ at - sparse
    → StepsBack automaton state letter entry
    → Steps automaton at letter entry
step-sparse automaton at state letter entry above state_is back = record {
  stepped = λ patterns finds own h at_is k.
      let width = automaton.trie.width in
      let dense = automaton.dense in
      ⊎_elim
      (λ low. absurd (omega (arith, at_is, place-row width dense own low, finds.long, row_fits own width dense width low (omega arith))))
      (λ high.
      let same : state ≡ own = omega (arith, at_is, place-sparse width dense own high, state_is) in
      let P : ℕ → Type 0 = λ s. HasEntry finds.words automaton.entries.items s letter entry in
      let Q : ℕ → Type 0 = λ s. s < length finds.words in
      subst P same (back.stepped patterns finds (subst Q (sym same) h) k))
      (cases_lt own dense);
}

pub back-child : (automaton : Automaton) (state letter : ℕ) (reached : Reached) (entry : ℕ)
    → Reaches automaton.trie automaton.fails.items automaton.dense state letter reached
    → (reached.child ≡ 0 → ⊥)
    → entry ≡ slice_index automaton.entries.items reached.child
    → StepsBack automaton state letter entry
back-child automaton state letter reached entry is some known = record {
  stepped = λ patterns finds h k.
      let comes = is.comes finds.words finds.deep (length finds.words) finds.trie finds.failing (omega arith) h in
      let move = reached-move finds.words automaton.dense state letter reached comes (omega arith) in
      record { next = reached.child; within = move.within; at = move.at; is = known };
}

pub back-row : (automaton : Automaton) (state letter : ℕ) (reached : Reached) (entry : ℕ)
    → Reaches automaton.trie automaton.fails.items automaton.dense state letter reached
    → reached.child ≡ 0
    → entry ≡ slice_index automaton.table.items (reached.state * automaton.trie.width + letter)
    → StepsBack automaton state letter entry
back-row automaton state letter reached entry is none known = record {
  stepped = λ patterns finds h k.
      let width = automaton.trie.width in
      let comes = is.comes finds.words finds.deep (length finds.words) finds.trie finds.failing (omega arith) h in
      let low = comes.none finds.dense.0 none in
      let bound : reached.state * width + letter < length automaton.table.items = omega (arith, finds.long, row_fits reached.state width automaton.dense width low (omega arith)) in
      let has = finds.rows.each reached.state letter (omega (arith, low, finds.dense.1)) k bound in
      record { next = has.next; within = has.within; at = λ other j. comes.back.same other j ∙ has.at other j; is = known ∙ has.is };
}
