-- A text that doesn't end as a message alone does has a class or is no split; with the last mark of a class before it the
-- message is the longest (`classed_split`).
use Rattle.alert_fast.proofs.ReadBack.Messages.{classed_split, classed_nowhere, classed_no}
use Rattle.alert_fast.proofs.cuts.classed.Goals as goal

pub returns-in_err-named : goal.returns-in_err-named
returns-in_err-named c = rw c.from_residual.ensures (classed_nowhere c.args.text.now c.requires c.in_err-named.ensures)

pub returns-in_err-msg : goal.returns-in_err-msg
returns-in_err-msg c = rw c.from_residual-in_err-msg.ensures (classed_no c.args.text.now c.requires c.in_ok-named.named.now c.in_ok-named.ensures c.in_err-msg.ensures)

pub returns : goal.returns
returns c = classed_split c.args.text.now c.requires c.in_ok-named.named.now c.in_ok-msg.msg.now c.in_ok-msg.class.now c.in_ok-named.ensures c.in_ok-msg.ensures
