-- A text that ends with the mark of a message is split there, since with a class any message in it would
-- be shorter: `plain_split`.
use Rattle.alert_fast.proofs.ReadBack.Messages.{plain_split}
use Rattle.alert_fast.proofs.cuts.split_msg.Goals as goal

pub returns-in-Some : goal.returns-in-Some
returns-in-Some c = plain_split c.args.text.now c.in-Some.msg.now c.in-Some.ensures
