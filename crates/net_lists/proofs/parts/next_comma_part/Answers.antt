-- Where no comma cuts, the text is one part; else the first part is
-- what is before the comma, trimmed, and the others are those after it.
use Rattle.std.proofs.Common.{◌≡◌, ◌∙◌, ◌+◌, ◌-◌, suc, sym, ap, [], ◌∷◌, length, take, drop, arith, add-one}
use Rattle.std.proofs.lemmas.List.{take_rest}
use Rattle.std.proofs.lemmas.Grind.{common_steps}
use Rattle.edge_io.specs.Bytes.{trimmed}
use Rattle.net_lists.specs.Cutting.{comma_parts, front_len, is_comma}
use Rattle.net_lists.proofs.Cuts.{comma_parts-only, comma_parts-first}
use Rattle.net_lists.proofs.parts.next_comma_part.Goals as goal

pub returns-then-len-text : goal.returns-then-len-text
returns-then-len-text c = comma_parts-only c.args.text.now (omega (arith, c.front_len-len.ensures.len)) ∙ ap (λ part. part ∷ []) (sym c.trimmed.ensures)

pub returns : goal.returns
returns c =
    let text = c.args.text.now in
    let n = c.front_len-len.result in
    let len : n ≡ front_len is_comma 0 text = c.front_len-len.ensures.len in
    let rest : take (length text - (n + 1)) (drop (n + 1) text) ≡ drop (suc (front_len is_comma 0 text)) text = take_rest text (n + 1) ∙ ap (λ k. drop k text) (add-one n ∙ ap suc len) in
    let whole : c.trimmed-2.result.now ≡ trimmed (take n text) = grind (arith, common_steps, c.trimmed-2.ensures) in
    comma_parts-first text (omega (arith, c.front_len-len.ensures.within, c.if-len-text.false))
    ∙ ap (λ part. part ∷ comma_parts (drop (suc (front_len is_comma 0 text)) text)) (ap (λ k. trimmed (take k text)) (sym len) ∙ sym whole)
    ∙ ap (λ xs. c.trimmed-2.result.now ∷ comma_parts xs) (sym rest)
