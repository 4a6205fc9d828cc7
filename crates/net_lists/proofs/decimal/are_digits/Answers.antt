-- `all` over the bytes of a text that isn't empty is the test `list_all` of its definition.
use Rattle.std.proofs.Common.{◌≡◌, ◌∙◌, ◌&&◌, not, ap, sym, rules, tests}
use Rattle.std.specs.List.{list_all}
use Rattle.std.specs.Char.{is_ascii_digit}
use Rattle.std.proofs.lemmas.Iterator.{YieldsList-from_slice}
use Rattle.std.proofs.lemmas.Iterator.Search.{all_from_yields_List}
use Rattle.net_lists.proofs.decimal.are_digits.Goals as goal

pub returns-then-not-is_empty : goal.returns-then-not-is_empty
returns-then-not-is_empty c =
    let all : c.all.result ≡ list_all is_ascii_digit c.args.text.now =
    all_from_yields_List is_ascii_digit _ _ c.all.result c.all.ensures.ran (YieldsList-from_slice _ c.iter.ensures.rest)
    (λ x b q k. search (rules, tests)) in
    all ∙ ap (λ b. not b && list_all is_ascii_digit c.args.text.now) (sym c.if-not-is_empty.true ∙ c.is_empty.ensures)
