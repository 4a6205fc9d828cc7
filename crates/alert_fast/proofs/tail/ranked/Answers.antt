-- A priority and a protocol, each with what follows it, are two fronts, one after the other: where a step fails, the text
-- begins with no such pair.
use Rattle.std.specs.Prelude.{decimal, codes}
use Rattle.alert_fast.specs.Fronts.{ended, followed, BothFit, both}
use Rattle.alert_fast.specs.Pieces.{digits}
use Rattle.alert_fast.specs.Words.{IsNumber, IsTwo, IsMicros}
use Rattle.alert_fast.specs.Line.{protocol_text}
use Rattle.alert_fast.specs.Tails.{IsProtocol}
use Rattle.alert_fast.proofs.ReadBack.Fronts.{both_front, both_none, both_no, followed_front, followed_none, followed_no}
use Rattle.alert_fast.proofs.tail.ranked.Goals as goal

pub returns-in_err-priority : goal.returns-in_err-priority
returns-in_err-priority c =
    rw c.from_residual.ensures
    (both_none IsNumber (followed (ended decimal 93) (codes " {")) IsProtocol
    (followed (ended protocol_text 125) (codes " "))
    c.args.text.now
    (followed_none IsNumber (ended decimal 93) (codes " {") c.args.text.now c.in_err-priority.ensures))

pub returns-in_err-after : goal.returns-in_err-after
returns-in_err-after c =
    rw c.from_residual-in_err-after.ensures
    (both_none IsNumber (followed (ended decimal 93) (codes " {")) IsProtocol
    (followed (ended protocol_text 125) (codes " "))
    c.args.text.now
    (followed_no IsNumber (ended decimal 93) (codes " {") c.args.text.now c.in_ok-priority.following.now c.in_ok-priority.priority
    c.in_ok-priority.ensures c.in_err-after.ensures))

pub returns-in_err-named : goal.returns-in_err-named
returns-in_err-named c =
    rw c.from_residual-in_err-named.ensures
    (both_no IsNumber (followed (ended decimal 93) (codes " {")) IsProtocol
    (followed (ended protocol_text 125) (codes " "))
    c.args.text.now c.in_ok-after.after.now c.in_ok-priority.priority
    (followed_front IsNumber (ended decimal 93) (codes " {") c.args.text.now c.in_ok-priority.following.now
    c.in_ok-after.after.now c.in_ok-priority.priority c.in_ok-priority.ensures c.in_ok-after.ensures)
    (followed_none IsProtocol (ended protocol_text 125) (codes " ") c.in_ok-after.after.now c.in_err-named.ensures))

pub returns-in_err-rest : goal.returns-in_err-rest
returns-in_err-rest c =
    rw c.from_residual-in_err-rest.ensures
    (both_no IsNumber (followed (ended decimal 93) (codes " {")) IsProtocol
    (followed (ended protocol_text 125) (codes " "))
    c.args.text.now c.in_ok-after.after.now c.in_ok-priority.priority
    (followed_front IsNumber (ended decimal 93) (codes " {") c.args.text.now c.in_ok-priority.following.now
    c.in_ok-after.after.now c.in_ok-priority.priority c.in_ok-priority.ensures c.in_ok-after.ensures)
    (followed_no IsProtocol (ended protocol_text 125) (codes " ") c.in_ok-after.after.now c.in_ok-named.later.now
    c.in_ok-named.named c.in_ok-named.ensures c.in_err-rest.ensures))

pub returns : goal.returns
returns c =
    both_front IsNumber (followed (ended decimal 93) (codes " {")) IsProtocol
    (followed (ended protocol_text 125) (codes " "))
    c.args.text.now c.in_ok-after.after.now c.in_ok-rest.rest.now c.in_ok-priority.priority c.in_ok-named.named
    (followed_front IsNumber (ended decimal 93) (codes " {") c.args.text.now c.in_ok-priority.following.now
    c.in_ok-after.after.now c.in_ok-priority.priority c.in_ok-priority.ensures c.in_ok-after.ensures)
    (followed_front IsProtocol (ended protocol_text 125) (codes " ") c.in_ok-after.after.now c.in_ok-named.later.now
    c.in_ok-rest.rest.now c.in_ok-named.named c.in_ok-named.ensures c.in_ok-rest.ensures)
