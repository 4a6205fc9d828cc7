-- The loop of `pick_all` has tried the places so far: by any test it has found those whose rules match, the
-- bits are as these leave them, and no more visits were taken than these places may.
use Rattle.std.proofs.Common.{◌+◌, ◌≤◌, length, take}
use Rattle.option_eval.specs.Places.{Means}
use Rattle.option_eval.specs.RuleSet.{FindWhatIsMeant}
use Rattle.rule_eval.specs.Hits.{Tells, Test}
use Rattle.rule_eval.specs.Picking.{PicksAll}
use Rattle.rule_eval.specs.Work.{visits_among}
use Rattle.rule_eval.proofs.hits.pick_all.Given as goal

-- the places so far were tried
abbrev pub invariant-loop-place : goal.invariant-loop-place
invariant-loop-place g l = record {
  picks : (means : Means) (test : Test) → FindWhatIsMeant g.P.Pattern.finds means l.set → Tells means test
      → PicksAll test l.set.rules (record { head = l.item.head.now; payload = l.item.payload.now }) (take l.place-index l.places) l.fn.bits l.bits l.found.items;
  visits : (means : Means) → FindWhatIsMeant g.P.Pattern.finds means l.set → l.visits ≤ l.fn.visits + visits_among l.set.rules (length l.item.payload.now) (take l.place-index l.places);
}
