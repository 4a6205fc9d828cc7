-- What `Ipv4Addr` parses is how the address of its four octets is written, and nothing else is: `v4_whole` and `v4_none`.
use Rattle.alert_fast.proofs.ReadBack.EndWords.{v4_whole, v4_none}
use Rattle.alert_fast.proofs.ends.dotted.Goals as goal

pub returns-in-Ok : goal.returns-in-Ok
returns-in-Ok c = rw (c.from_be_bytes.ensures, c.octets.ensures) (v4_whole c.args.word.now c.in-Ok.address c.in-Ok.ensures)

pub returns-in-Err : goal.returns-in-Err
returns-in-Err c = v4_none c.args.word.now c.in-Err.ensures
