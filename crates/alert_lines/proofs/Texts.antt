-- The texts of joined alerts.
use Rattle.std.proofs.Common.{◌≡◌, ℕ, ◌+◌, List, [], ◌∷◌, ◌++◌, length, sym, ap, ◌∙◌, append_assoc, arith}
use Rattle.alert_lines.specs.Lines.{texts_from}

pub texts_from-append : {A : Type 0} (text : ℕ → A → List ℕ) (before : ℕ) (front back : List A)
    → texts_from text before (front ++ back) ≡ texts_from text before front ++ texts_from text (before + length front) back
texts_from-append text before [] back =
    let is : before ≡ before + 0 = omega arith in
    ap (λ (n : ℕ). texts_from text n back) is
texts_from-append text before (alert ∷ front) back =
    let own = text before alert in
    let is : (before + 1) + length front ≡ before + length (alert ∷ front) = omega arith in
    ap (λ (x : List ℕ). own ++ x) (texts_from-append text (before + 1) front back)
    ∙ sym (append_assoc own (texts_from text (before + 1) front) (texts_from text ((before + 1) + length front) back))
    ∙ ap (λ (n : ℕ). (own ++ texts_from text (before + 1) front) ++ texts_from text n back) is
