-- The lines of a Unified2 file, and how they are put together.
use Rattle.std.proofs.Common.{◌≡◌, ℕ, ◌+◌, ◌<◌, codes, List, [], ◌∷◌, ◌++◌, length, take, get_or, sym, ap, ◌∙◌, append_assoc}
use Rattle.std.specs.List.{flat_map}
use Rattle.std.proofs.lemmas.List.{append-nil, take_more}
use Rattle.std.proofs.lemmas.List.Concat.{flat_map-append}
use Rattle.unified2_out.specs.declared.record.U2.{U2}
use Rattle.unified2_out.specs.declared.record.U2Event.{U2Event}
use Rattle.alert_lines.specs.RecordLines.{end_text, entry_line, entry_lines, event_front, event_line, micro_text}

-- the parts of an event's line, one after another
pub event_parts : (event : U2Event) (out front micro blank src dst : List ℕ)
    → front ≡ out ++ event_front event → micro ≡ front ++ micro_text event.micro → blank ≡ micro ++ codes " "
    → src ≡ blank ++ (end_text event.src event.sport ++ codes " -> ") → dst ≡ src ++ (end_text event.dst event.dport ++ codes "\n")
    → dst ≡ out ++ event_line event
unfolding event_line
event_parts event out front micro blank src dst front_is micro_is blank_is src_is dst_is =
    let one = event_front event in
    let two = micro_text event.micro in
    let four = end_text event.src event.sport ++ codes " -> " in
    let five = end_text event.dst event.dport ++ codes "\n" in
    let joined : ((((out ++ one) ++ two) ++ codes " ") ++ four) ++ five ≡ out ++ (one ++ (two ++ (codes " " ++ (four ++ five)))) = simp append_assoc in
    dst_is ∙ ap (λ (x : List ℕ). x ++ five) (src_is ∙ ap (λ (x : List ℕ). x ++ four) (blank_is ∙ ap (λ (x : List ℕ). x ++ codes " ")
    (micro_is ∙ ap (λ (x : List ℕ). x ++ two) front_is)))
    ∙ joined

-- one record more
pub entries_more : (entries : List U2) (i : ℕ) (entry : U2) (out lines next : List ℕ) → i < length entries → entry ≡ get_or entries i entry
    → lines ≡ out ++ entry_lines (take i entries) → next ≡ lines ++ entry_line entry → next ≡ out ++ entry_lines (take (i + 1) entries)
entries_more entries i entry out lines next lt is so_far more =
    let front = take i entries in
    let one : flat_map entry_line (entry ∷ []) ≡ entry_line entry = append-nil (entry_line entry) in
    more ∙ ap (λ (x : List ℕ). x ++ entry_line entry) so_far
    ∙ append_assoc out (entry_lines front) (entry_line entry)
    ∙ ap (λ (x : List ℕ). out ++ (entry_lines front ++ x)) (sym one)
    ∙ ap (λ (x : List ℕ). out ++ x) (sym (flat_map-append entry_line front (entry ∷ [])))
    ∙ ap (λ (es : List U2). out ++ entry_lines es) (ap (λ (e : U2). front ++ e ∷ []) is ∙ sym (take_more entries i entry lt))
