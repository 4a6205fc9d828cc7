-- A message and its class, and the longest message that may be there.
use Rattle.std.proofs.Common.{◌≡◌, ◌≢◌, ℕ, ◌+◌, ◌≤◌, List, [], ◌∷◌, ◌++◌, Option, Some, None, length, refl, sym, ap, ◌∙◌, append_assoc, append-nil, arith, codes, length-append}
use Rattle.std.proofs.lemmas.List.{append_cancel_right}
use Rattle.alert_fast.specs.Told.{named_class}
use Rattle.alert_fast.specs.Splits.{IsLastCut, msg_text, IsSplit, NoSplit}

plain_text : (msg : List ℕ) → msg_text msg None ≡ msg ++ codes " [**] "
unfolding named_class
plain_text msg = refl

classed_text : (msg class : List ℕ) → msg_text msg (Some class) ≡ (msg ++ (codes " [**] [Classification: " ++ class)) ++ codes "] "
unfolding named_class
classed_text msg class = sym (append_assoc msg (codes " [**] [Classification: " ++ class) (codes "] "))

msg_shorter : (other : List ℕ) (named : Option (List ℕ)) → length other + 6 ≤ length (msg_text other named)
msg_shorter other named = omega (arith, length-append other (codes " [**] " ++ named_class named), length-append (codes " [**] ") (named_class named))

-- a message without a class
pub plain_split : (text msg : List ℕ) → text ≡ msg ++ codes " [**] " → IsSplit text msg None
plain_split text msg e = record {
  spelled = plain_text msg ∙ sym e;
  longest = λ other named same. omega (arith, msg_shorter other named, ap length (same ∙ e), length-append msg (codes " [**] "));
}

-- no split without a class, so one with a class
module _ (text : List ℕ) (plain : (front : List ℕ) → text ≢ front ++ codes " [**] ") where
  pub classed_split : (named msg class : List ℕ) → text ≡ named ++ codes "] " → IsLastCut (codes " [**] [Classification: ") named msg class → IsSplit text msg (Some class)
  classed_split named msg class e cut = record {
    spelled = classed_text msg class ∙ ap (λ (t : List ℕ). t ++ codes "] ") (sym cut.spelled) ∙ sym e;
    longest = λ other it same. elim it as (λ (o : Option (List ℕ)). msg_text other o ≡ text → length other ≤ length msg) [
      | None ↦ (λ same. absurd (plain other (sym same ∙ plain_text other)))
      | Some c ↦ (λ same. cut.last other c (append_cancel_right _ _ (codes "] ") (sym e ∙ sym same ∙ classed_text other c)))
    ] same;
  }

  pub classed_nowhere : ((front : List ℕ) → text ≢ front ++ codes "] ") → NoSplit text
  classed_nowhere nay other None same = plain other (sym same ∙ plain_text other)
  classed_nowhere nay other (Some c) same = nay _ (sym same ∙ classed_text other c)

  pub classed_no : (named : List ℕ) → text ≡ named ++ codes "] " → ((x y : List ℕ) → named ≢ x ++ (codes " [**] [Classification: " ++ y)) → NoSplit text
  classed_no named e nay other None same = plain other (sym same ∙ plain_text other)
  classed_no named e nay other (Some c) same = nay other c (append_cancel_right _ _ (codes "] ") (sym e ∙ sym same ∙ classed_text other c))
