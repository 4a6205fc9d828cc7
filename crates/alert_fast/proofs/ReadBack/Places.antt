-- Places of bytes and of texts, as cuts.
use Rattle.std.proofs.Common.{◌≡◌, ◌≢◌, ℕ, zero, suc, ◌+◌, ◌-◌, ◌<◌, ◌≤◌, Bool, true, eqb, List, [], ◌∷◌, ◌++◌, length, get_or}
use Rattle.std.proofs.Common.{take, drop, refl, sym, ap, ◌∙◌, append_assoc, arith, length-append, add-one, inl, inr}
use Rattle.std.proofs.lemmas.Bool.{eq-eqb, cases_lt}
use Rattle.std.proofs.lemmas.List.{ext_get_or, take-append-drop, get_or-take, get_or-drop, get_or-append-add, get_or_append_left, length-take-le, length-drop, drop-drop}
use Rattle.std.proofs.Math.Seq.{drop-cons}
use Rattle.memchr.specs.Find.{Nowhere, NoneBefore, NoneAfter, Passes, is_byte, OccursAt, IsFirstByte, IsLastByte}
use Rattle.alert_fast.specs.Fronts.{Lacks, IsWord}
use Rattle.alert_fast.specs.Splits.{IsBackWord, IsLastCut}
use Rattle.alert_fast.proofs.ReadBack.Fronts.{lacks-none, first_same, rest_same}

-- a text lacks the byte if it is at no place
pub lacks_by_place : (byte : ℕ) (text : List ℕ) → ((k : ℕ) → k < length text → get_or text k 0 ≢ byte) → Lacks byte text
lacks_by_place byte [] h = tt
lacks_by_place byte (a ∷ text) h = (h 0 (omega arith), lacks_by_place byte text (λ k lt. h (suc k) (omega (arith, lt))))

-- the byte at a place is between what comes before it and what comes after it
pub at_place : (text : List ℕ) (k : ℕ) → k < length text → text ≡ take k text ++ (get_or text k 0 ∷ drop (k + 1) text)
at_place text k lt =
    sym (take-append-drop k text) ∙ ap (λ (t : List ℕ). take k text ++ t) (rw add-one (drop-cons text k 0 lt))

pub no_place : (byte : ℕ) (text : List ℕ) → Nowhere (Passes (is_byte byte) text) 0 (length text) → Lacks byte text
no_place byte text h = lacks_by_place byte text (λ k lt e. h k (omega arith) lt (eq-eqb _ _ e))

pub first_place : (byte : ℕ) (text : List ℕ) (k : ℕ) → NoneBefore (Passes (is_byte byte) text) 0 (length text) k → get_or text k 0 ≡ byte → IsWord byte text (take k text) (drop (k + 1) text)
first_place byte text k h is = record {
  lacks =
      lacks_by_place byte (take k text) (λ j lt e.
      let short = length-take-le k text (omega (arith, h.high)) in
      let below : j < k = omega (arith, short, lt) in
      h.before j (omega arith) below (eq-eqb _ _ (sym (get_or-take k text j 0 below) ∙ e)));
  spelled = at_place text k h.high ∙ ap (λ (b : ℕ). take k text ++ (b ∷ drop (k + 1) text)) is;
}

pub last_place : (byte : ℕ) (text : List ℕ) (k : ℕ) → NoneAfter (Passes (is_byte byte) text) 0 (length text) k → get_or text k 0 ≡ byte → IsBackWord byte text (take k text) (drop (k + 1) text)
last_place byte text k h is = record {
  lacks =
      lacks_by_place byte (drop (k + 1) text) (λ j lt e.
      let left = length-drop (k + 1) text in
      h.after (k + 1 + j) (omega arith) (omega (arith, left, lt, h.high)) (eq-eqb _ _ (sym (get_or-drop (k + 1) text j 0) ∙ e)));
  spelled = at_place text k h.high ∙ ap (λ (b : ℕ). take k text ++ (b ∷ drop (k + 1) text)) is;
}

-- the last such byte is at one place alone
pub back_word_only : (start : ℕ) (x y w v : List ℕ) → Lacks start w → Lacks start v → x ++ (start ∷ w) ≡ y ++ (start ∷ v) → (x ≡ y) × (w ≡ v)
back_word_only start [] [] w v hw hv e = (refl, rest_same start start w v e)
back_word_only start [] (b ∷ y) w v hw hv e = absurd (lacks-none start y v (rw (sym (rest_same start b _ _ e)) hw))
back_word_only start (a ∷ x) [] w v hw hv e = absurd (lacks-none start x w (rw (rest_same a start _ _ e) hv))
back_word_only start (a ∷ x) (b ∷ y) w v hw hv e =
    let later = back_word_only start x y w v hw hv (rest_same a b _ _ e) in
    (ap (λ (h : ℕ). h ∷ x) (first_same a b _ _ e) ∙ ap (λ (t : List ℕ). b ∷ t) later.0, later.1)

-- a text that a needle begins, after another one
pub occurs_after : (needle x y : List ℕ) → OccursAt (x ++ (needle ++ y)) needle (length x)
occurs_after needle x y = record {
  fits = omega (arith, length-append x (needle ++ y), length-append needle y);
  reads = λ j lt. get_or-append-add x (needle ++ y) j 0 ∙ get_or_append_left needle y 0 j lt;
}

-- where a needle occurs, the text is cut there
pub cut_there : (needle text : List ℕ) (k : ℕ) → OccursAt text needle k → text ≡ take k text ++ (needle ++ drop (k + length needle) text)
cut_there needle text k h =
    let back = length-drop k text in
    let long = length-take-le (length needle) (drop k text) (omega (arith, back, h.fits)) in
    let same : take (length needle) (drop k text) ≡ needle =
    ext_get_or 0 _ _ long
    (λ j lt. get_or-take (length needle) (drop k text) j 0 (omega (arith, long, lt)) ∙ get_or-drop k text j 0 ∙
    h.reads j (omega (arith, long, lt))) in
    let rest = drop-drop (length needle) k text in
    sym (take-append-drop k text)
    ∙ ap (λ (t : List ℕ). take k text ++ t)
    (sym (take-append-drop (length needle) (drop k text)) ∙ ap (λ (t : List ℕ). t ++ drop (length needle) (drop k text)) same ∙
    ap (λ (t : List ℕ). needle ++ t) rest)

pub cut_nowhere : (needle text : List ℕ) → Nowhere (OccursAt text needle) 0 (length text + 1) → (x y : List ℕ) → text ≢ x ++ (needle ++ y)
cut_nowhere needle text h x y e =
    let long = length-append x (needle ++ y) in
    h (length x) (omega arith) (omega (arith, ap length e, long)) (rw e (occurs_after needle x y))

pub cut_last : (needle text : List ℕ) (k : ℕ) → NoneAfter (OccursAt text needle) 0 (length text + 1) k → OccursAt text needle k → IsLastCut needle text (take k text) (drop (k + length needle) text)
cut_last needle text k h occurs = record {
  spelled = cut_there needle text k occurs;
  last = λ x y e.
      let long = length-append x (needle ++ y) in
      let short = length-take-le k text (omega (arith, occurs.fits)) in
      elim (cases_lt k (length x)) [
        | inl after ↦ absurd (h.after (length x) (omega (arith, after)) (omega (arith, ap length e, long)) (rw e (occurs_after needle x y)))
        | inr within ↦ omega (arith, short, within)
      ];
}
