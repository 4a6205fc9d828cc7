-- The items of a job are all beside the same record, and one item more is shown after those before it
-- (`items_step`), or a part of its lines.
use Rattle.std.proofs.Common.{◌≡◌, take, arith}
use Rattle.std.proofs.lemmas.List.{take_all}
use Rattle.std.proofs.lemmas.Result.{err_from_is_err_and}
use Rattle.alert_lines.proofs.Showing.{shows_none, items_step, items_part}
use Rattle.alert_lines.proofs.writer.AlertWriter.show_items.Goals as goal

pub loop-hits-init : goal.loop-hits-init
loop-hits-init g c = shows_none c.args.by.now.form c.args.by.now.config.now c.args.by.now.rules.now _

pub returns-in_err-show_item : goal.returns-in_err-show_item
returns-in_err-show_item g c =
    let p = err_from_is_err_and c.from_residual.result c.from_residual.ensures.1 in
    rw (p.1, p.2)
    (items_part c.args.by.now.form c.args.by.now.config.now c.args.by.now.rules.now c.args.origin.now c.args.items.now
    c.loop-hits.hits-index c.hits-item.result _ _ _ _ _ c.loop-hits-test.true c.hits-item.is c.loop-hits.invariant
    c.in_err-show_item.ensures)

pub loop-hits-preserved : goal.loop-hits-preserved
loop-hits-preserved g c =
    items_step c.args.by.now.form c.args.by.now.config.now c.args.by.now.rules.now c.args.origin.now c.args.items.now
    c.loop-hits.hits-index c.hits-item.result _ _ _ _ _ c.loop-hits-test.true c.hits-item.is c.loop-hits.invariant
    c.in_ok-show_item.ensures

pub returns : goal.returns
returns g c =
    let all : take c.loop-hits.hits-index c.args.items.now ≡ c.args.items.now = take_all c.loop-hits.hits-index c.args.items.now (omega arith) in
    rw all at c.loop-hits.invariant
