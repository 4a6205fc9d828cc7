-- The bytes in front that cut end at the first that doesn't, or are the whole text.
use Rattle.std.proofs.Common.{◌≡◌, ◌∙◌, not, ap, length, unwrap_or, rules, tests}
use Rattle.std.specs.List.{position}
use Rattle.std.proofs.lemmas.Iterator.{YieldsList-from_slice}
use Rattle.std.proofs.lemmas.Iterator.Search.{position_from_yields_List}
use Rattle.net_lists.proofs.Fronts.{unwrap_or-position}
use Rattle.net_lists.specs.Parted.{cuts}
use Rattle.net_lists.proofs.parts.skipped_len.Goals as goal

pub returns-clause-len : goal.returns-clause-len
returns-clause-len c =
    let text = c.args.text.now in
    let found : c.position.result ≡ position (λ b. not (cuts c.args.cut b)) text =
    position_from_yields_List (λ b. not (cuts c.args.cut b)) _ _ c.position.result c.position.ensures.ran
    (YieldsList-from_slice _ c.iter.ensures.rest)
    (λ x b q k. search (rules, tests)) in
    c.unwrap_or.ensures ∙ ap (λ place. unwrap_or place (length text)) found ∙ unwrap_or-position (cuts c.args.cut) text
