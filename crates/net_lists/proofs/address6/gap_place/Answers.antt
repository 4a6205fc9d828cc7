-- No `::` begins before `place`: one that begins here is the first, and past the last byte there is none.
use Rattle.std.proofs.Common.{◌∙◌, sym, ap, arith, codes, nat_eq}
use Rattle.std.specs.List.{starts_with}
use Rattle.std.proofs.lemmas.List.{take_rest}
use Rattle.net_lists.proofs.Addresses.HexGroups.{gap_found, gap_goes_on, gap_ends}
use Rattle.net_lists.proofs.address6.gap_place.Goals as goal

pub returns-then-starts_with-clause-place : goal.returns-then-starts_with-clause-place
returns-then-starts_with-clause-place c =
    let text = c.args.text.now in
    let place = c.loop-place.place in
    gap_found text place _ c.loop-place.invariant c.loop-place-test.true
    (ap (λ rest. starts_with nat_eq rest (codes "::")) (sym (take_rest text place)) ∙ sym c.starts_with.ensures.value ∙
    c.if-starts_with.true)

pub loop-place-preserved : goal.loop-place-preserved
loop-place-preserved c =
    let text = c.args.text.now in
    let place = c.loop-place.place in
    gap_goes_on text place _ c.loop-place.invariant c.loop-place-test.true
    (ap (λ rest. starts_with nat_eq rest (codes "::")) (sym (take_rest text place)) ∙ sym c.starts_with.ensures.value ∙
    c.if-starts_with.false)

pub returns-clause-place : goal.returns-clause-place
returns-clause-place c = gap_ends c.args.text.now c.loop-place.place _ c.loop-place.invariant (omega arith)
