-- The groups so far, joined with the pieces left, make the answer:
-- a piece that is no group ends it, and so does a ninth group.
use Rattle.std.proofs.Common.{◌≡◌, ◌∙◌, sym, ap, ◌∷◌}
use Rattle.net_lists.specs.Groups.{joined, pieces_left}
use Rattle.net_lists.proofs.Addresses.HexGroups.{joined-stop, joined-full, joined-on, joined-end}
use Rattle.net_lists.proofs.address6.joined_groups.Goals as goal

pub returns-in_err-group-clause-value : goal.returns-in_err-group-clause-value
returns-in_err-group-clause-value c =
    let here : pieces_left c.loop-rest.rest ≡ c.first_piece.result.0.now ∷ pieces_left c.first_piece.result.1 = ap pieces_left c.in-Some.is ∙ c.first_piece.ensures in
    c.from_residual.ensures ∙ joined-stop c.loop-rest.groups _ _ _ here c.in_err-group.ensures.value ∙ sym c.loop-rest.invariant.so_far

pub returns-in_err-groups-clause-value : goal.returns-in_err-groups-clause-value
returns-in_err-groups-clause-value c =
    let here : pieces_left c.loop-rest.rest ≡ c.first_piece.result.0.now ∷ pieces_left c.first_piece.result.1 = ap pieces_left c.in-Some.is ∙ c.first_piece.ensures in
    c.from_residual-in_err-groups.ensures ∙ joined-full c.loop-rest.groups _ _ _ here c.in_ok-group.field-0 c.in_ok-group.ensures.value c.in_err-groups.ensures.value ∙ sym c.loop-rest.invariant.so_far

pub loop-rest-preserved : goal.loop-rest-preserved
loop-rest-preserved c =
    let here : pieces_left c.loop-rest.rest ≡ c.first_piece.result.0.now ∷ pieces_left c.first_piece.result.1 = ap pieces_left c.in-Some.is ∙ c.first_piece.ensures in
    record {
      small = c.in_ok-groups.ensures.small;
      so_far = c.loop-rest.invariant.so_far ∙ joined-on c.loop-rest.groups _ _ _ here c.in_ok-group.field-0 c.in_ok-groups.groups c.in_ok-group.ensures.value c.in_ok-groups.ensures.value;
    }

pub returns-clause-value : goal.returns-clause-value
returns-clause-value c = sym (c.loop-rest.invariant.so_far ∙ ap (λ r. joined c.loop-rest.groups (pieces_left r)) c.in_default.is ∙ joined-end c.loop-rest.groups)
