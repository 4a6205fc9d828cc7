-- The place of the first byte that is no blank, or the length, is the length of the blanks in front.
use Rattle.std.proofs.Common.{◌≡◌, ◌∙◌, not, ap, length, unwrap_or, rules, tests, position}
use Rattle.std.proofs.lemmas.Iterator.{YieldsList-from_slice}
use Rattle.std.proofs.lemmas.Iterator.Search.{position_from_yields_List}
use Rattle.net_lists.proofs.Fronts.{unwrap_or-position}
use Rattle.edge_io.specs.Bytes.{is_blank}
use Rattle.rule_parser.proofs.byte_options.blanks_len.Goals as goal

pub returns : goal.returns
returns c =
    let text = c.args.text.now in
    let found : c.position.result ≡ position (λ b. not (is_blank b)) text =
    position_from_yields_List (λ b. not (is_blank b)) _ _ c.position.result c.position.ensures.ran
    (YieldsList-from_slice _ c.iter.ensures.rest)
    (λ x b q k. search (rules, tests)) in
    c.unwrap_or.ensures ∙ ap (λ place. unwrap_or place (length text)) found ∙ unwrap_or-position is_blank text
