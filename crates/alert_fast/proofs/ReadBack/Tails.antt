-- The end of a line, from its parts.
use Rattle.std.proofs.Common.{◌≡◌, ◌≢◌, ℕ, zero, suc, ◌+◌, ◌-◌, ◌*◌, ◌/◌, ◌%◌, ◌^◌, ◌<◌, ◌≤◌, Bool, true, false, List, [], ◌∷◌, ◌++◌, refl, sym, ap, ◌∙◌, append_assoc, arith, inl, inr, codes, decimal}
use Rattle.std.specs.Prelude.{⊤}
use Rattle.std.proofs.lemmas.List.{append_cancel_left}
use Rattle.alert_fast.specs.Fronts.{Lacks, IsWord}
use Rattle.alert_fast.specs.Tails.{arrow_text, IsArrow, NoArrow}
use Rattle.alert_fast.proofs.ReadBack.Fronts.{word_only, lacks-none}

module _ (text from rest : List ℕ) (first : IsWord 32 text from rest) where
  same_from : (f t : List ℕ) → Lacks 32 f → text ≡ arrow_text f t → (from ≡ f) × (rest ≡ codes "-> " ++ (t ++ (10 ∷ [])))
  same_from f t free e = word_only 32 from f rest (codes "-> " ++ (t ++ (10 ∷ []))) first.lacks free (sym first.spelled ∙ e)

  pub arrow_no : ((more : List ℕ) → rest ≢ codes "-> " ++ more) → NoArrow text
  arrow_no none f t free free_to e = none _ (same_from f t free e).1

  module _ (back : List ℕ) (arrow : rest ≡ codes "-> " ++ back) where
    same_back : (f t : List ℕ) → Lacks 32 f → text ≡ arrow_text f t → back ≡ t ++ (10 ∷ [])
    same_back f t free e = append_cancel_left (codes "-> ") back (t ++ (10 ∷ [])) (sym arrow ∙ (same_from f t free e).1)

    pub arrow_nowhere : Lacks 10 back → NoArrow text
    arrow_nowhere lacks f t free free_to e = lacks-none 10 t [] (rw (← same_back f t free e) lacks)

    module _ (to left : List ℕ) (second : IsWord 10 back to left) where
      same_to : (f t : List ℕ) → Lacks 32 f → Lacks 10 t → text ≡ arrow_text f t → (to ≡ t) × (left ≡ [])
      same_to f t free free_to e = word_only 10 to t left [] second.lacks free_to (sym second.spelled ∙ same_back f t free e)

      pub arrow_more : left ≢ [] → NoArrow text
      arrow_more more f t free free_to e = more (same_to f t free free_to e).1

      pub arrow_whole : left ≡ [] → IsArrow text from to
      arrow_whole none = record {
        free_from = first.lacks;
        free_to = second.lacks;
        spelled = first.spelled ∙ ap (λ (r : List ℕ). from ++ (32 ∷ r)) (arrow ∙ ap (λ (b : List ℕ). codes "-> " ++ b) (second.spelled ∙ ap (λ (l : List ℕ). to ++ (10 ∷ l)) none));
      }

pub arrow_none : (text : List ℕ) → Lacks 32 text → NoArrow text
arrow_none text lacks f t free free_to e = lacks-none 32 f (codes "-> " ++ (t ++ (10 ∷ []))) (rw (← e) lacks)

pub arrow_only : (text from to f t : List ℕ) → IsArrow text from to → Lacks 32 f → Lacks 10 t → text ≡ arrow_text f t → (f ≡ from) × (t ≡ to)
arrow_only text from to f t h free free_to e =
    let first = word_only 32 f from _ _ free h.free_from (sym e ∙ h.spelled) in
    let second = word_only 10 t to [] [] free_to h.free_to (append_cancel_left (codes "-> ") _ _ first.1) in
    (first.0, second.0)
