-- Each step reads the only part that may be there: no part after the bracket of the priority has a bracket itself, so that
-- the last one is the priority's, and what is before it is the message's.
use Rattle.alert_fast.specs.Told.{lent}
use Rattle.alert_fast.proofs.ReadBack.Parts.{parts_no_head, parts_no_bracket, parts_no_priority, parts_no_rank, parts_no_arrow, parts_no_msg, parts_whole}
use Rattle.alert_fast.proofs.reader.parts.Goals as goal

pub returns-in_err-time : goal.returns-in_err-time
returns-in_err-time c = rw c.from_residual.ensures (parts_no_head c.args.line.now c.in_err-time.ensures)

pub returns-in_err-middle : goal.returns-in_err-middle
returns-in_err-middle c =
    rw c.from_residual-in_err-middle.ensures
    (parts_no_bracket c.args.line.now c.in_ok-time.time c.in_ok-time.numbers c.in_ok-time.rest.now c.in_ok-time.ensures
    c.in_err-middle.ensures)

pub returns-in_err-tail : goal.returns-in_err-tail
returns-in_err-tail c =
    rw c.from_residual-in_err-tail.ensures
    (parts_no_priority c.args.line.now c.in_ok-time.time c.in_ok-time.numbers c.in_ok-time.rest.now c.in_ok-time.ensures
    c.in_ok-middle.middle.now c.in_ok-middle.word.now c.in_ok-middle.ensures c.in_err-tail.ensures)

pub returns-in_err-rank : goal.returns-in_err-rank
returns-in_err-rank c =
    rw c.from_residual-in_err-rank.ensures
    (parts_no_rank c.args.line.now c.in_ok-time.time c.in_ok-time.numbers c.in_ok-time.rest.now c.in_ok-time.ensures
    c.in_ok-middle.middle.now c.in_ok-middle.word.now c.in_ok-middle.ensures c.in_ok-tail.tail.now c.in_ok-tail.ensures
    c.in_err-rank.ensures)

pub returns-in_err-from : goal.returns-in_err-from
returns-in_err-from c =
    rw c.from_residual-in_err-from.ensures
    (parts_no_arrow c.args.line.now c.in_ok-time.time c.in_ok-time.numbers c.in_ok-time.rest.now c.in_ok-time.ensures
    c.in_ok-middle.middle.now c.in_ok-middle.word.now c.in_ok-middle.ensures c.in_ok-tail.tail.now c.in_ok-tail.ensures
    c.in_ok-rank.rank c.in_ok-rank.back.now c.in_ok-rank.ensures c.in_err-from.ensures)

pub returns-in_err-msg : goal.returns-in_err-msg
returns-in_err-msg c =
    rw c.from_residual-in_err-msg.ensures
    (parts_no_msg c.args.line.now c.in_ok-time.time c.in_ok-time.numbers c.in_ok-time.rest.now c.in_ok-time.ensures
    c.in_ok-middle.middle.now c.in_ok-middle.word.now c.in_ok-middle.ensures c.in_ok-tail.tail.now c.in_ok-tail.ensures
    c.in_ok-rank.rank c.in_ok-rank.back.now c.in_ok-rank.ensures c.in_err-msg.ensures)

pub returns : goal.returns
returns c =
    parts_whole c.args.line.now c.in_ok-time.time c.in_ok-time.numbers c.in_ok-time.rest.now c.in_ok-time.ensures
    c.in_ok-middle.middle.now c.in_ok-middle.word.now c.in_ok-middle.ensures c.in_ok-tail.tail.now c.in_ok-tail.ensures
    c.in_ok-rank.rank c.in_ok-rank.back.now c.in_ok-rank.ensures c.in_ok-from.from.now c.in_ok-from.to.now c.in_ok-msg.msg.now
    (lent c.in_ok-msg.class) c.in_ok-from.ensures c.in_ok-msg.ensures
