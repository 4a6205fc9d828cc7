-- The blanks in front end at the first byte that is none, or are the whole text.
use Rattle.std.proofs.Common.{◌≡◌, ◌∙◌, not, ap, length, unwrap_or, rules, tests}
use Rattle.std.specs.List.{position}
use Rattle.std.proofs.lemmas.Iterator.{YieldsList-from_slice}
use Rattle.std.proofs.lemmas.Iterator.Search.{position_from_yields_List}
use Rattle.net_lists.proofs.Fronts.{unwrap_or-position}
use Rattle.edge_io.specs.Bytes.{is_blank}
use Rattle.net_lists.proofs.blank.blanks_len.Goals as goal

pub returns-clause-len : goal.returns-clause-len
returns-clause-len c =
    let text = c.args.text.now in
    let found : c.position.result ≡ position (λ b. not (is_blank b)) text =
    position_from_yields_List (λ b. not (is_blank b)) _ _ c.position.result c.position.ensures.ran
    (YieldsList-from_slice _ c.iter.ensures.rest)
    (λ x b q k. search (rules, tests)) in
    c.unwrap_or.ensures ∙ ap (λ place. unwrap_or place (length text)) found ∙ unwrap_or-position is_blank text
