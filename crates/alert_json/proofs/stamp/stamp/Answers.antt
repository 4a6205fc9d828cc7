-- The digits of the numbers of `utc_time`, with the signs between and after them, are the moment's text: `timestamp-items`.
use Rattle.std.proofs.Common.{ℕ, ap, ◌∙◌}
use Rattle.alert_fast.specs.Pieces.{digits}
use Rattle.alert_json.proofs.Times.{timestamp-items}
use Rattle.alert_json.proofs.stamp.stamp.Goals as goal

pub returns : goal.returns
returns c =
    let u = c.utc_time-utc.ensures.utc in
    timestamp-items c.args.moment.nanos _ _ _ _ _ _ _ (c.four_digits.ensures ∙ ap (λ (n : ℕ). digits 4 n) u.year) (c.two_digits.ensures ∙ ap (λ (n : ℕ). digits 2 n) u.month)
    (c.two_digits-2.ensures ∙ ap (λ (n : ℕ). digits 2 n) u.day) (c.two_digits-3.ensures ∙ ap (λ (n : ℕ). digits 2 n) u.hour)
    (c.two_digits-4.ensures ∙ ap (λ (n : ℕ). digits 2 n) u.minute) (c.two_digits-5.ensures ∙ ap (λ (n : ℕ). digits 2 n) u.second)
    (c.six_digits.ensures ∙ ap (λ (n : ℕ). digits 6 n) u.microsecond)
