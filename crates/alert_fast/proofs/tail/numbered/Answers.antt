-- What the pattern binds after six bytes is all that is left of the word, so that the code reads the digits
-- that the definition reads.
use Rattle.std.proofs.Common.{◌≡◌, ℕ, ◌-◌, ◌%◌, ◌≤◌, List, length, drop, ap, ◌∙◌, arith, take_all}
use Rattle.std.proofs.lemmas.List.{length-drop}
use Rattle.alert_fast.specs.Words.{read_value}
use Rattle.alert_fast.proofs.tail.numbered.Goals as goal

pub returns-in-len6-up : goal.returns-in-len6-up
returns-in-len6-up c =
    let word = c.args.word.now in
    let all = take_all (length word - 6) (drop 6 word) (omega (arith, length-drop 6 word)) in
    ap (λ (n : ℕ). n % 256) (c.read_value.ensures ∙ ap read_value all)
