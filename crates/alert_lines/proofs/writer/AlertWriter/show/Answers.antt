-- The hits of the jobs are shown one after another, and all items are counted at once, with those that no rule matches:
-- `shows_matches`; where a step fails, a part was shown.
use Rattle.std.proofs.lemmas.Result.{err_from_is_err_and}
use Rattle.alert_lines.specs.Sourcing.{source_by}
use Rattle.alert_lines.proofs.Matching.{matches_nothing, matches_part, shows_matches}
use Rattle.alert_lines.proofs.writer.AlertWriter.show.Goals as goal

pub returns-in_err-items : goal.returns-in_err-items
returns-in_err-items g c =
    let p = err_from_is_err_and c.from_residual.result c.from_residual.ensures.1 in
    rw (p.1, p.2) (matches_nothing c.args.by.now.form c.args.by.now.config.now c.args.by.now.rules.now (source_by c.args.sources) c.args.found.now _)

pub returns-in_err-show_hits : goal.returns-in_err-show_hits
returns-in_err-show_hits g c =
    let p = err_from_is_err_and c.from_residual-in_err-show_hits.result c.from_residual-in_err-show_hits.ensures.1 in
    let stopped = rw c.deref.ensures.value at c.in_err-show_hits.ensures in
    rw (p.1, p.2) (matches_part c.args.by.now.form c.args.by.now.config.now c.args.by.now.rules.now (source_by c.args.sources) c.args.found.now _ _ _ stopped)

pub returns : goal.returns
returns g c =
    let shown = rw c.deref.ensures.value at c.in_ok-show_hits.ensures in
    shows_matches c.args.by.now.form c.args.by.now.config.now c.args.by.now.rules.now (source_by c.args.sources) c.args.found.now _ _ _ c.in_ok-items.items c.in_ok-items.ensures shown
