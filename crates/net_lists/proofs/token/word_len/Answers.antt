-- A word in front ends at the first byte that isn't one of a word's, or at the text's end.
use Rattle.std.proofs.Common.{◌≡◌, ◌∙◌, not, ap, length, unwrap_or, rules, tests}
use Rattle.std.specs.List.{position}
use Rattle.std.proofs.lemmas.Iterator.{YieldsList-from_slice}
use Rattle.std.proofs.lemmas.Iterator.Search.{position_from_yields_List}
use Rattle.net_lists.proofs.Fronts.{unwrap_or-position}
use Rattle.net_lists.specs.Tokens.{is_word_byte}
use Rattle.net_lists.proofs.token.word_len.Goals as goal

pub returns-clause-len : goal.returns-clause-len
returns-clause-len c =
    let text = c.args.text.now in
    let found : c.position.result ≡ position (λ b. not (is_word_byte b)) text =
    position_from_yields_List (λ b. not (is_word_byte b)) _ _ c.position.result c.position.ensures.ran
    (YieldsList-from_slice _ c.iter.ensures.rest)
    (λ x b q k. search (rules, tests)) in
    c.unwrap_or.ensures ∙ ap (λ place. unwrap_or place (length text)) found ∙ unwrap_or-position is_word_byte text
