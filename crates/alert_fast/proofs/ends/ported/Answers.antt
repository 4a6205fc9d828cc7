-- The port of an end has no colon, so that the word is cut at the last one; where either part can't be
-- read, no end is written so.
use Rattle.alert_fast.proofs.ReadBack.EndPairs.{ported_whole, ported_none, ported_no_port, ported_no_address}
use Rattle.alert_fast.proofs.ends.ported.Goals as goal

pub returns-in-None : goal.returns-in-None
returns-in-None c = ported_none c.args.word.now c.in-None.ensures

pub returns-in-None-port : goal.returns-in-None-port
returns-in-None-port c = ported_no_port c.args.word.now c.in-Some.front.now c.in-Some.digits.now c.in-Some.ensures c.in-None-port.ensures

pub returns-in-None-2 : goal.returns-in-None-2
returns-in-None-2 c = ported_no_address c.args.word.now c.in-Some.front.now c.in-Some.digits.now c.in-Some.ensures (rw c.in-None-2.is at c.in_ok-address-in-Some-port.ensures)

pub returns-in-Some-2 : goal.returns-in-Some-2
returns-in-Some-2 c =
    ported_whole c.args.word.now c.in-Some.front.now c.in-Some.digits.now c.in-Some.ensures c.in-Some-2.address
    c.in-Some-port.port c.in-Some-port.ensures (rw c.in-Some-2.is at c.in_ok-address-in-Some-port.ensures)
