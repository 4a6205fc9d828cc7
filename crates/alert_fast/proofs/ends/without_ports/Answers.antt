-- Ends without ports have an address alone in each word: where both words are such, they are the ends (`plain_ends`), and
-- where one isn't, no ends are written so.
use Rattle.alert_fast.proofs.ReadBack.EndPairs.{plain_ends, plain_no_source, plain_no_target}
use Rattle.alert_fast.proofs.ends.without_ports.Goals as goal

pub returns-in-None : goal.returns-in-None
returns-in-None c = plain_no_source c.args.from.now c.args.to.now (rw c.in-None.is at c.in_ok-address.ensures)

pub returns-in-None-2 : goal.returns-in-None-2
returns-in-None-2 c = plain_no_target c.args.from.now c.args.to.now (rw c.in-None-2.is at c.in_ok-address-in-Some.ensures)

pub returns-in-Some-2 : goal.returns-in-Some-2
returns-in-Some-2 c = plain_ends c.args.from.now c.args.to.now c.in-Some.src c.in-Some-2.dst (rw c.in-Some.is at c.in_ok-address.ensures) (rw c.in-Some-2.is at c.in_ok-address-in-Some.ensures)
