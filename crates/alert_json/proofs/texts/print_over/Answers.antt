-- Bytes before `at` have their printable form and the others are as they were, so that the byte that is read at `at` is
-- still the old one: `map_over_more`.
use Rattle.std.proofs.Common.{arith, get_or}
use Rattle.std.proofs.lemmas.List.{get_or_default}
use Rattle.std.proofs.lemmas.List.Edits.{map_over_more}
use Rattle.alert_json.specs.Texts.{printable}
use Rattle.alert_json.proofs.texts.print_over.Goals as goal

pub loop-at-preserved : goal.loop-at-preserved
loop-at-preserved c =
    let old = get_or c.loop-at.text c.loop-at.at 0 in
    rw c.printable.ensures
    (map_over_more printable c.args.text.now c.loop-at.text c.loop-at.at old c.loop-at-test.true c.loop-at.invariant
    (get_or_default c.loop-at.text c.loop-at.at 0 old (omega arith)))
