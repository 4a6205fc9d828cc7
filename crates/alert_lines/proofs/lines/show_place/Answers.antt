-- At a place without a rule there is no line and none is counted; at one with a rule there is the line of this rule, or a
-- part of it where a fault stops it.
use Rattle.std.proofs.lemmas.Result.{err_from_is_err_and}
use Rattle.alert_lines.specs.Showing.{subject_of}
use Rattle.alert_lines.proofs.Showing.{place_absent, place_part, place_passed, place_shown, place_there}
use Rattle.alert_lines.proofs.lines.show_place.Goals as goal

pub returns-in_default-clause-shown : goal.returns-in_default-clause-shown
returns-in_default-clause-shown g c =
    place_passed (subject_of c.args.subject.now) c.args.before c.args.place _
    (place_absent c.args.subject.now.rules.now c.args.place c.get.result c.get.ensures.lookup
    (λ rule is. c.in_default.not-Some rule is))

pub returns-in_err-show_line-clause-shown : goal.returns-in_err-show_line-clause-shown
returns-in_err-show_line-clause-shown g c =
    let p = err_from_is_err_and c.from_residual.result c.from_residual.ensures.1 in
    rw (p.1, p.2)
    (place_part (subject_of c.args.subject.now) c.args.before c.args.place c.in-Some.rule.now _ _ _
    (place_there c.args.subject.now.rules.now c.args.place c.in-Some.rule c.in-Some.ensures.lookup)
    c.in_err-show_line.ensures)

pub returns-clause-shown : goal.returns-clause-shown
returns-clause-shown g c =
    place_shown (subject_of c.args.subject.now) c.args.before c.args.place c.in-Some.rule.now _ _ _
    (place_there c.args.subject.now.rules.now c.args.place c.in-Some.rule c.in-Some.ensures.lookup)
    c.in_ok-show_line.ensures
