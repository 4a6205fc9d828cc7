-- The numbers of `utc_time`, in two digits and in six, are those of the definition's date and clock, with the same signs
-- between them: `time_text-pieces`.
use Rattle.std.proofs.lemmas.Result.{on_ok_weaker}
use Rattle.std.proofs.Common.{ℕ, List, ◌++◌, ap, ◌∙◌}
use Rattle.alert_fast.proofs.LineTexts.{time_text-pieces}
use Rattle.alert_fast.proofs.alert.push_time.Goals as goal

pub returns-clause-appended : goal.returns-clause-appended
returns-clause-appended c =
    let u = c.utc_time-utc.ensures.utc in
    let t = c.utc_time-utc.result in
    on_ok_weaker c.push_pieces.result
    (λ e. e ∙
    ap (λ (x : List ℕ). c.args.out.now.items ++ x)
    (rw (
      c.two_digits.ensures,
      c.two_digits-2.ensures,
      c.two_digits-3.ensures,
      c.two_digits-4.ensures,
      c.two_digits-5.ensures,
      c.six_digits.ensures,
    )
    (time_text-pieces c.args.moment.nanos t.month t.day t.hour t.minute t.second t.microsecond u.month u.day u.hour u.minute
    u.second u.microsecond)))
    c.push_pieces.ensures.appended
