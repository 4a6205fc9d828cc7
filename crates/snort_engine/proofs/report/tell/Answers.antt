-- A text is offered once: a sink that failed before gets nothing, one that takes it has all of it, and one that stops has a
-- first part, and its count of faults rose.
use Rattle.std.proofs.Common.{◌≡◌, true, false, rules, arith}
use Rattle.alert_lines.proofs.Prefixes.{WritesPart-take}
use Rattle.snort_engine.proofs.Headline.Reported.{tells_nothing, tells_whole, tells_part}
use Rattle.snort_engine.proofs.report.tell.Goals as goal

pub returns-then-not-well-clause-tells : goal.returns-then-not-well-clause-tells
returns-then-not-well-clause-tells g c =
    let failed : c.args.well ≡ false = first_of (search rules, grind arith) in
    rw failed (tells_nothing _ _ _)

pub returns-in-Ok-clause-tells : goal.returns-in-Ok-clause-tells
returns-in-Ok-clause-tells g c =
    let well : c.args.well ≡ true = first_of (search rules, grind arith) in
    rw well (tells_whole _ _ _ _ c.in-Ok.ensures.all)

pub returns-in-Err-clause-tells : goal.returns-in-Err-clause-tells
returns-in-Err-clause-tells g c =
    let well : c.args.well ≡ true = first_of (search rules, grind arith) in
    rw well (tells_part _ _ _ _ (WritesPart-take _ _ c.in-Err._stop.done _ c.in-Err.ensures.stopped) c.in-Err.ensures.failed)
