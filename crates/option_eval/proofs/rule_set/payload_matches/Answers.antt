-- A rule and what was made of it have the same place in two lists of one length, so `is_passed`
-- answers for that rule; by `visits_few` its bounds by lists of values give the one by the rule alone.
use Rattle.std.proofs.Common.{◌≡◌, ◌<◌, length, map, arith, get_or, sym, ap, subst}
use Rattle.std.proofs.lemmas.List.{get_or_default}
use Rattle.std.proofs.lemmas.Result.{IfOk-weaker}
use Rattle.std.specs.List.{AllZip}
use Rattle.option_eval.specs.Ready.{IsReady, pattern_of}
use Rattle.option_eval.specs.RuleSet.{AreMade, Rules}
use Rattle.option_eval.proofs.Chosen.{zip_length, zip_at, zip_map_at, same_at, way_start}
use Rattle.option_eval.proofs.rule_set.payload_matches.Goals as goal
use Rattle.option_eval.proofs.Costs.Visits.{visits_few}

pub index-made-requires : goal.index-made-requires
index-made-requires g c =
    let sizes = zip_length (λ rule made. AllZip (IsReady {P = g.row.P.Denot}) rule.opts made.items) c.set.inside.rules.items c.set.inside.made.items c.set.invariant in
    let same = ap (λ (s : Rules g.row.P.Denot). length s.rules) c.set.view_is in
    omega (arith, c.requires)

pub is_passed-requires-clause-ready : goal.is_passed-requires-clause-ready
is_passed-requires-clause-ready g c κs within =
    let same = ap (λ (s : Rules g.row.P.Denot). length s.rules) c.set.view_is in
    rw (c.as_slice.ensures, c.deref.ensures.value)
    (zip_at (λ rule made. AllZip (IsReady {P = g.row.P.Denot}) rule.opts made.items)
    c.set.inside.rules.items c.set.inside.made.items c.args.rule c.set.invariant (omega (arith, c.requires))
    c.index-rule.result.now c.index-made.result.now c.index-rule.ensures c.index-made.ensures)

pub returns-clause-right : goal.returns-clause-right
returns-clause-right g c = λ means chosen finds at.
    let same = ap (λ (s : Rules g.row.P.Denot). length s.rules) c.set.view_is in
    let below : c.args.rule < length c.set.inside.rules.items = omega (arith, c.requires) in
    let finds' =
    subst (λ (s : Rules g.row.P.Denot). AllZip (AreMade g.P.Pattern.finds means) s.rules s.patterns) (sym c.set.view_is) finds in
    let made =
    zip_map_at (AreMade g.P.Pattern.finds means) (λ made. map (pattern_of {P = g.row.P.Denot}) made.items)
    c.set.inside.rules.items c.set.inside.made.items c.args.rule finds' below c.index-rule.result.now c.index-made.result.now
    c.index-rule.ensures c.index-made.ensures in
    let at' = subst (λ (s : Rules g.row.P.Denot). chosen ≡ get_or s.rules c.args.rule chosen) (sym c.set.view_is) at in
    let is = same_at c.set.inside.rules.items c.args.rule chosen c.index-rule.result.now below at' c.index-rule.ensures in
    let from = way_start means c.args.payload.now c.as_slice.result.now in
    let served = rw (← c.as_slice.ensures, ← c.deref.ensures.value) at made in
    rw (is, ← c.as_slice.ensures)
    (IfOk-weaker c.is_passed.result _ _ (λ passed h. (λ yes. from.1 (h.0 yes), λ way. h.1 (from.0 way)))
    (c.is_passed.ensures.right means served))

pub returns-clause-bounded_by_values : goal.returns-clause-bounded_by_values
returns-clause-bounded_by_values g c = λ means chosen finds at lists listed each few.
    let same = ap (λ (s : Rules g.row.P.Denot). length s.rules) c.set.view_is in
    let below : c.args.rule < length c.set.inside.rules.items = omega (arith, c.requires) in
    let finds' =
    subst (λ (s : Rules g.row.P.Denot). AllZip (AreMade g.P.Pattern.finds means) s.rules s.patterns) (sym c.set.view_is) finds in
    let made =
    zip_map_at (AreMade g.P.Pattern.finds means) (λ made. map (pattern_of {P = g.row.P.Denot}) made.items)
    c.set.inside.rules.items c.set.inside.made.items c.args.rule finds' below c.index-rule.result.now c.index-made.result.now
    c.index-rule.ensures c.index-made.ensures in
    let at' = subst (λ (s : Rules g.row.P.Denot). chosen ≡ get_or s.rules c.args.rule chosen) (sym c.set.view_is) at in
    let is = same_at c.set.inside.rules.items c.args.rule chosen c.index-rule.result.now below at' c.index-rule.ensures in
    let served = rw (← c.as_slice.ensures, ← c.deref.ensures.value) at made in
    let had = rw (is, ← c.as_slice.ensures) at each in
    rw (is, ← c.as_slice.ensures) (c.is_passed.ensures.bounded_by_values means served lists listed had few)

pub returns-clause-bounded_in_parts : goal.returns-clause-bounded_in_parts
returns-clause-bounded_in_parts g c = λ means chosen finds at lists each.
    let same = ap (λ (s : Rules g.row.P.Denot). length s.rules) c.set.view_is in
    let below : c.args.rule < length c.set.inside.rules.items = omega (arith, c.requires) in
    let finds' =
    subst (λ (s : Rules g.row.P.Denot). AllZip (AreMade g.P.Pattern.finds means) s.rules s.patterns) (sym c.set.view_is) finds in
    let made =
    zip_map_at (AreMade g.P.Pattern.finds means) (λ made. map (pattern_of {P = g.row.P.Denot}) made.items)
    c.set.inside.rules.items c.set.inside.made.items c.args.rule finds' below c.index-rule.result.now c.index-made.result.now
    c.index-rule.ensures c.index-made.ensures in
    let at' = subst (λ (s : Rules g.row.P.Denot). chosen ≡ get_or s.rules c.args.rule chosen) (sym c.set.view_is) at in
    let is = same_at c.set.inside.rules.items c.args.rule chosen c.index-rule.result.now below at' c.index-rule.ensures in
    let served = rw (← c.as_slice.ensures, ← c.deref.ensures.value) at made in
    let had = rw (is, ← c.as_slice.ensures) at each in
    rw (is, ← c.as_slice.ensures) (c.is_passed.ensures.bounded_in_parts means served lists had)

pub returns-clause-bounded_by_rule : goal.returns-clause-bounded_by_rule
returns-clause-bounded_by_rule g c = λ means chosen finds at.
    visits_few means c.args.payload.now chosen.opts c.args.visits.now c.is_passed.new.visits
    (λ k d h. omega (arith, c.type_inv.payload k, get_or_default c.args.payload.now k d 0 h))
    (λ lists listed each few. returns-clause-bounded_by_values g c means chosen finds at lists listed each few)
    (λ lists each. returns-clause-bounded_in_parts g c means chosen finds at lists each)
