-- The parts of a line, step by step.
use Rattle.std.proofs.Common.{◌≡◌, ◌≢◌, ℕ, ◌+◌, ◌<◌, ◌≤◌, List, [], ◌∷◌, ◌++◌, Option, length, refl, sym, ap, ◌∙◌, append_assoc, arith, codes, decimal}
use Rattle.std.proofs.lemmas.List.{append_cancel_left}
use Rattle.alert_fast.specs.declared.told.LineTime.{LineTime}
use Rattle.alert_fast.specs.Fronts.{Lacks, IsFront, NoFront}
use Rattle.alert_fast.specs.Heads.{Numbers, IsHead, head_text}
use Rattle.alert_fast.specs.Line.{protocol_text}
use Rattle.alert_fast.specs.Splits.{msg_text, IsBackWord, IsSplit, NoSplit}
use Rattle.alert_fast.specs.Tails.{IsRanked, ranked_text, arrow_text, IsArrow, NoArrow}
use Rattle.alert_fast.specs.Parts.{PartFacts, parts_text, FitParts, IsNoLonger, AreParts, NoParts}
use Rattle.alert_fast.proofs.ReadBack.Fronts.{lacks-append, lacks-none}
use Rattle.alert_fast.proofs.ReadBack.Places.{back_word_only}
use Rattle.alert_fast.proofs.ReadBack.Tails.{arrow_only}
use Rattle.alert_fast.proofs.ReadBack.WholeWords.{free_number}
use Rattle.alert_fast.proofs.ReadBack.Protocols.{Free, join, literal, free_protocol, bracket_is_foreign}

-- what follows the bracket of a priority
abbrev after_bracket : PartFacts → List ℕ
after_bracket q = codes "Priority: " ++ (ranked_text q.ranked ++ arrow_text q.from q.to)

bracket_free : (q : PartFacts) → FitParts q → Lacks 91 (after_bracket q)
bracket_free q fit =
    let priority : Free 91 (decimal q.ranked.0) = record { lacks = free_number 91 refl q.ranked.0 fit.ranked.0 } in
    let protocol : Free 91 (protocol_text q.ranked.1) = record {
      lacks = free_protocol 91 bracket_is_foreign q.ranked.1 fit.ranked.1;
    } in
    let from : Free 91 q.from = record { lacks = fit.from_bracket } in
    let to : Free 91 q.to = record { lacks = fit.to_bracket } in
    let ranked : Free 91 (ranked_text q.ranked) =
    join (join (join priority (literal 91 (93 ∷ []) refl)) (literal 91 (codes " {") refl))
    (join (join protocol (literal 91 (125 ∷ []) refl)) (literal 91 (codes " ") refl)) in
    let arrow : Free 91 (arrow_text q.from q.to) =
    join from (join (literal 91 (codes " -> ") refl) (join to (literal 91 (10 ∷ []) refl))) in
    (join (literal 91 (codes "Priority: ") refl) (join ranked arrow)).lacks

pub parts_no_head : (line : List ℕ) → NoFront IsHead head_text line → NoParts line
parts_no_head line none q fit e = none (q.time, q.numbers) _ fit.head e

module _ (line : List ℕ) (time : LineTime) (numbers : Numbers) (rest : List ℕ) (h : IsFront IsHead head_text line (time, numbers) rest) where
  same_head : (q : PartFacts) → FitParts q → line ≡ parts_text q → (◌≡◌ {A = LineTime × Numbers} (q.time, q.numbers) (time, numbers)) × (msg_text q.msg q.class ++ (91 ∷ after_bracket q) ≡ rest)
  same_head q fit e = h.only (q.time, q.numbers) (msg_text q.msg q.class ++ (91 ∷ after_bracket q)) fit.head e

  pub parts_no_bracket : Lacks 91 rest → NoParts line
  parts_no_bracket lacks q fit e = lacks-none 91 (msg_text q.msg q.class) (after_bracket q) (rw (same_head q fit e).1 lacks)

  module _ (middle word : List ℕ) (w : IsBackWord 91 rest middle word) where
    same_middle : (q : PartFacts) → FitParts q → line ≡ parts_text q → (msg_text q.msg q.class ≡ middle) × (after_bracket q ≡ word)
    same_middle q fit e = back_word_only 91 (msg_text q.msg q.class) middle (after_bracket q) word (bracket_free q fit) w.lacks ((same_head q fit e).1 ∙ w.spelled)

    pub parts_no_priority : ((more : List ℕ) → word ≢ codes "Priority: " ++ more) → NoParts line
    parts_no_priority none q fit e = none _ (sym (same_middle q fit e).1)

    module _ (tail : List ℕ) (is : word ≡ codes "Priority: " ++ tail) where
      same_tail : (q : PartFacts) → FitParts q → line ≡ parts_text q → tail ≡ ranked_text q.ranked ++ arrow_text q.from q.to
      same_tail q fit e = append_cancel_left (codes "Priority: ") tail _ (sym is ∙ sym (same_middle q fit e).1)

      pub parts_no_rank : NoFront IsRanked ranked_text tail → NoParts line
      parts_no_rank none q fit e = none q.ranked _ fit.ranked (same_tail q fit e)

      module _ (ranked : ℕ × ℕ) (back : List ℕ) (r : IsFront IsRanked ranked_text tail ranked back) where
        same_rank : (q : PartFacts) → FitParts q → line ≡ parts_text q → (q.ranked ≡ ranked) × (arrow_text q.from q.to ≡ back)
        same_rank q fit e = r.only q.ranked (arrow_text q.from q.to) fit.ranked (same_tail q fit e)

        pub parts_no_arrow : NoArrow back → NoParts line
        parts_no_arrow none q fit e = none q.from q.to fit.from fit.to (sym (same_rank q fit e).1)

        pub parts_no_msg : NoSplit middle → NoParts line
        parts_no_msg none q fit e = none q.msg q.class (same_middle q fit e).0

        pub parts_whole : (from to msg : List ℕ) (class : Option (List ℕ))
            → IsArrow back from to
            → IsSplit middle msg class
            → AreParts line
            (record { time = time; numbers = numbers; msg = msg; class = class; ranked = ranked; from = from; to = to })
        parts_whole from to msg class a s = record {
          head = h.fits;
          ranked = r.fits;
          spelled =
              h.spelled ∙ ap (λ (t : List ℕ). head_text (time, numbers) ++ t)
              (w.spelled ∙ ap (λ (t : List ℕ). t ++ (91 ∷ word)) (sym s.spelled)
              ∙ ap (λ (t : List ℕ). msg_text msg class ++ (91 ∷ t)) (is ∙ ap (λ (t : List ℕ). codes "Priority: " ++ t) (r.spelled ∙ ap (λ (t : List ℕ). ranked_text ranked ++ t) a.spelled)));
          others = λ q fit e.
              let head = (same_head q fit e).0 in
              let ends = arrow_only back from to q.from q.to a fit.from fit.to (sym (same_rank q fit e).1) in
              record {
                time = ap (λ (p : LineTime × Numbers). p.0) head;
                numbers = ap (λ (p : LineTime × Numbers). p.1) head;
                ranked = (same_rank q fit e).0;
                from = ends.0;
                to = ends.1;
                msg = s.longest q.msg q.class (same_middle q fit e).0;
              };
        }
