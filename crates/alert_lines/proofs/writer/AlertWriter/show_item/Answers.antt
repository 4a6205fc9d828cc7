-- The filters keep some of the item's rules, whose lines are made, and then the item is counted: three steps that make
-- `shows_one`, or a part of it where one of them fails.
use Rattle.std.proofs.Common.{ap, refl, ℕ, List}
use Rattle.std.specs.Prelude.{length}
use Rattle.std.proofs.lemmas.Result.{err_from_is_err_and}
use Rattle.alert_lines.proofs.Showing.{shows_nothing, shows_one, shows_part_of, shows_uncounted}
use Rattle.alert_lines.proofs.writer.AlertWriter.show_item.Goals as goal

pub returns-in_err-pass : goal.returns-in_err-pass
returns-in_err-pass g c =
    let p = err_from_is_err_and c.from_residual.result c.from_residual.ensures.1 in
    rw (p.1, p.2) (shows_nothing c.args.by.now.form c.args.by.now.config.now c.args.by.now.rules.now _ _ _ refl refl)

pub returns-in_err-count : goal.returns-in_err-count
returns-in_err-count g c =
    let p = err_from_is_err_and c.from_residual-in_err-count.result c.from_residual-in_err-count.ensures.1 in
    let passes = rw (c.clear.ensures.items, c.as_slice-matching.ensures) at c.in_ok-pass.ensures.passes in
    let stopped = rw c.deref.ensures.value at c.in_err-count.ensures in
    rw (p.1, p.2) (shows_part_of c.args.by.now.form c.args.by.now.config.now c.args.by.now.rules.now c.args.origin.now c.args.hits.now _ _ _ c.pass.new.out.items _ passes stopped)

pub returns-in_err-self : goal.returns-in_err-self
returns-in_err-self g c =
    let p = err_from_is_err_and c.from_residual-in_err-self.result c.from_residual-in_err-self.ensures.1 in
    let passes = rw (c.clear.ensures.items, c.as_slice-matching.ensures) at c.in_ok-pass.ensures.passes in
    let shown = rw c.deref.ensures.value at c.in_ok-count.ensures in
    rw (p.1, p.2) (shows_uncounted c.args.by.now.form c.args.by.now.config.now c.args.by.now.rules.now c.args.origin.now c.args.hits.now _ _ _ c.pass.new.out.items c.in_ok-count.count passes shown)

pub returns : goal.returns
returns g c =
    let passes = rw (c.clear.ensures.items, c.as_slice-matching.ensures) at c.in_ok-pass.ensures.passes in
    let shown = rw c.deref.ensures.value at c.in_ok-count.ensures in
    shows_one c.args.by.now.form c.args.by.now.config.now c.args.by.now.rules.now c.args.origin.now c.args.hits.now _ _
    c.pass.new.out.items c.in_ok-count.count (length c.as_slice-matching.result.now) passes shown c.in_ok-self.ensures
    (ap (λ (x : List ℕ). length x) c.as_slice-matching.ensures)
