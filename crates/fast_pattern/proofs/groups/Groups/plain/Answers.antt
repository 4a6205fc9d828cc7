-- A place that passes the test is the next of the numbers that do (`numbers-more`), and one that doesn't is left out
-- (`numbers-skip`).
use Rattle.std.proofs.Common.{sym, ap, ◌∙◌}
use Rattle.fast_pattern.specs.Kinds.{is_plain}
use Rattle.fast_pattern.proofs.Candidates.Ordering.{numbers-start, numbers-more, numbers-skip}
use Rattle.fast_pattern.proofs.groups.Groups.plain.Goals as goal
use Rattle.fast_pattern.proofs.groups.Groups.plain.Goals.{then-is_plain+in_ok-push, else-is_plain}

pub loop-place-init : goal.loop-place-init
loop-place-init c = c.new-plain.ensures.items ∙ sym (numbers-start (is_plain c.args.rules.now c.args.patterns.now c.args.kind) 0)

pub loop-place-preserved : goal.loop-place-preserved
loop-place-preserved c =
    let test = is_plain c.args.rules.now c.args.patterns.now c.args.kind in
    elim c.if-is_plain.branch [
      | then-is_plain+in_ok-push w ↦
          numbers-more test c.loop-place.place c.loop-place.plain.items c.if-is_plain.plain.items c.loop-place.invariant
          (sym w.if-is_plain.ensures) (ap (λ v. v.items) w.plain-is ∙ w.in_ok-push.ensures.items)
      | else-is_plain w ↦
          ap (λ v. v.items) w.plain-is
          ∙ numbers-skip test c.loop-place.place c.loop-place.plain.items c.loop-place.invariant (sym w.if-is_plain.ensures)
    ]
