-- The packet is between the two ends of the dialogue because its head is, whatever payload it has; both
-- ways go by the first engine.
use Rattle.std.proofs.Common.{refl, arith}
use Rattle.layer_rows.proofs.dialogues.turn.Goals as goal

pub returns : goal.returns
returns c =
    let most = c.requires.size in
    record {
      flow_is = refl;
      protocol = c.requires.head.protocol;
      ends = c.requires.head.ends c.args.manner.preference c.args.manner.needed c.args.payload (record { nanos = 0 });
      size = omega arith;
      to_dst = refl;
      to_src = refl;
    }
