-- A time is a stamp that some year's calendar allows, and has the same text: so it is read where a stamp is read
-- that `is_time` lets pass.
use Rattle.std.proofs.Common.{◌≡◌, sym, ◌∙◌, true≢false}
use Rattle.alert_fast.proofs.ReadBack.Heads.{time_front, time_none, time_no}
use Rattle.alert_fast.proofs.head.time.Goals as goal

pub returns-in_err-parts : goal.returns-in_err-parts
returns-in_err-parts c = rw c.from_residual.ensures (time_none c.args.text.now c.in_err-parts.ensures)

pub returns-then-is_time : goal.returns-then-is_time
returns-then-is_time c = time_front c.args.text.now c.in_ok-parts.rest.now c.in_ok-parts.parts c.in_ok-parts.ensures (c.is_time.ensures.0 c.if-is_time.true)

pub returns-else-is_time : goal.returns-else-is_time
returns-else-is_time c = time_no c.args.text.now c.in_ok-parts.rest.now c.in_ok-parts.parts c.in_ok-parts.ensures (λ fit. true≢false (sym (c.is_time.ensures.1 fit) ∙ c.if-is_time.false))
