-- No text is both an address of version 4 in dots and one of version 6 in colons, so that the word is read as the
-- one, or else as the other.
use Rattle.alert_fast.proofs.ReadBack.EndWords.{address_v4, address_v6, address_none}
use Rattle.alert_fast.proofs.ends.address.Goals as goal

pub returns-in-Some : goal.returns-in-Some
returns-in-Some c = address_v4 c.args.word.now c.in-Some.address c.in-Some.ensures

pub returns-in-Some-2 : goal.returns-in-Some-2
returns-in-Some-2 c = address_v6 c.args.word.now c.in-Some-2.address c.in-None.ensures (rw c.in-Some-2.is at c.in_ok-address-in-None.ensures)

pub returns-in-None-2 : goal.returns-in-None-2
returns-in-None-2 c = address_none c.args.word.now c.in-None.ensures (rw c.in-None-2.is at c.in_ok-address-in-None.ensures)
