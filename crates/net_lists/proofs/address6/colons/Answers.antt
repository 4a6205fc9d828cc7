-- With a `::` the address is the groups on both sides around it,
-- else eight groups: each way out of the code is one case of that.
use Rattle.std.proofs.Common.{◌∙◌, sym, ap}
use Rattle.std.specs.Option.{option_and_then}
use Rattle.net_lists.specs.Addresses.{groups}
use Rattle.net_lists.specs.Groups.{around, whole, groups_upto}
use Rattle.net_lists.proofs.Addresses.HexGroups.{colons-gap, colons-whole}
use Rattle.net_lists.proofs.address6.colons.Goals as goal

pub returns-in_err-front-in-Some : goal.returns-in_err-front-in-Some
returns-in_err-front-in-Some c =
    let back = c.in-Some.back.now in
    c.from_residual.ensures
    ∙ ap (λ o. option_and_then (λ f. option_and_then (λ b. around f b) (groups_upto (groups back))) o) c.in_err-front-in-Some.ensures.value
    ∙ sym (colons-gap c.args.text.now _ back c.in-Some.ensures)

pub returns-in_err-back-in-Some : goal.returns-in_err-back-in-Some
returns-in_err-back-in-Some c =
    let back = c.in-Some.back.now in
    c.from_residual-in_err-back-in-Some.ensures
    ∙ ap (λ o. option_and_then (λ b. around c.in_ok-front-in-Some.front b) o) c.in_err-back-in-Some.ensures.value
    ∙ ap (λ o. option_and_then (λ f. option_and_then (λ b. around f b) (groups_upto (groups back))) o) c.in_ok-front-in-Some.ensures.value
    ∙ sym (colons-gap c.args.text.now _ back c.in-Some.ensures)

pub returns-in_err-eight_groups-in-None : goal.returns-in_err-eight_groups-in-None
returns-in_err-eight_groups-in-None c =
    c.from_residual-in_err-eight_groups-in-None.ensures ∙ ap (λ o. option_and_then whole o) c.in_err-eight_groups-in-None.ensures.value ∙ sym (colons-whole c.args.text.now c.in-None.ensures)

pub returns-in_ok-back-in-Some : goal.returns-in_ok-back-in-Some
returns-in_ok-back-in-Some c =
    let back = c.in-Some.back.now in
    c.around.ensures
    ∙ ap (λ o. option_and_then (λ b. around c.in_ok-front-in-Some.front b) o) c.in_ok-back-in-Some.ensures.value
    ∙ ap (λ o. option_and_then (λ f. option_and_then (λ b. around f b) (groups_upto (groups back))) o) c.in_ok-front-in-Some.ensures.value
    ∙ sym (colons-gap c.args.text.now _ back c.in-Some.ensures)

pub returns-in_ok-eight_groups-in-None : goal.returns-in_ok-eight_groups-in-None
returns-in_ok-eight_groups-in-None c =
    c.whole.ensures ∙ ap (λ o. option_and_then whole o) c.in_ok-eight_groups-in-None.ensures.value ∙ sym (colons-whole c.args.text.now c.in-None.ensures)
