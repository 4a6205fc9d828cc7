-- Past the bytes that cut, nothing left means no word, and else a word goes up to the next byte that cuts.
use Rattle.std.proofs.Common.{◌≡◌, ℕ, ◌∙◌, ◌-◌, sym, ap, List, ◌∷◌, length, take, drop, arith}
use Rattle.std.specs.List.{prefix_len}
use Rattle.std.proofs.lemmas.List.{take_rest}
use Rattle.std.proofs.lemmas.Bool.Decides.{nat_tests}
use Rattle.net_lists.specs.Cutting.{words_between}
use Rattle.net_lists.specs.Parted.{cuts}
use Rattle.net_lists.proofs.Cuts.{words-none, words-some}
use Rattle.net_lists.proofs.parts.next_word.Goals as goal

pub returns-then-is_empty : goal.returns-then-is_empty
returns-then-is_empty c =
    let text = c.args.text.now in
    let n = c.skipped_len.result in
    let left : take (length text - n) (drop n text) ≡ drop (prefix_len (cuts c.args.cut) text) text = take_rest text n ∙ ap (λ k. drop k text) c.skipped_len.ensures.len in
    words-none (cuts c.args.cut) text _ left (grind (arith, nat_tests, c.if-is_empty.true, c.is_empty.ensures))

pub returns : goal.returns
returns c =
    let text = c.args.text.now in
    let n = c.skipped_len.result in
    let rest : List ℕ = take (length text - n) (drop n text) in
    let left : rest ≡ drop (prefix_len (cuts c.args.cut) text) text = take_rest text n ∙ ap (λ k. drop k text) c.skipped_len.ensures.len in
    words-some (cuts c.args.cut) text rest left (grind (arith, nat_tests, c.if-is_empty.false, c.is_empty.ensures))
    ∙ ap (λ k. take k rest ∷ words_between (cuts c.args.cut) (drop k rest)) (sym c.front_len.ensures.len)
    ∙ ap (λ w. w ∷ words_between (cuts c.args.cut) (drop c.front_len.result rest)) (sym c.split_at.ensures.front)
    ∙ ap (λ r. c.split_at.result.0.now ∷ words_between (cuts c.args.cut) r) (sym c.split_at.ensures.back)
