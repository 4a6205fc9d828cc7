-- Ends with ports have an address and a port in each word: where both words are such, they are the ends (`with_ends`), and
-- where one isn't, no ends are written so.
use Rattle.alert_fast.proofs.ReadBack.EndPairs.{with_ends, with_no_source, with_no_target}
use Rattle.alert_fast.proofs.ends.with_ports.Goals as goal

pub returns-in-None : goal.returns-in-None
returns-in-None c = with_no_source c.args.from.now c.args.to.now (rw c.in-None.is at c.in_ok-ported.ensures)

pub returns-in-None-2 : goal.returns-in-None-2
returns-in-None-2 c = with_no_target c.args.from.now c.args.to.now (rw c.in-None-2.is at c.in_ok-ported-in-Some.ensures)

pub returns-in-Some-2 : goal.returns-in-Some-2
returns-in-Some-2 c =
    with_ends c.args.from.now c.args.to.now c.in-Some.src c.in-Some-2.dst c.in-Some.sport c.in-Some-2.dport
    (rw c.in-Some.is at c.in_ok-ported.ensures)
    (rw c.in-Some-2.is at c.in_ok-ported-in-Some.ensures)
