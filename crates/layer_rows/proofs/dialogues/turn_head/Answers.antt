-- The heads of both sides go between the same two ends, one in each direction, whatever flags and numbers they have:
-- `client-head` and `server-head`.
use Rattle.std.proofs.Common.{subst, sym}
use Rattle.packet_decode.specs.declared.item.ItemHead.{ItemHead}
use Rattle.layer_rows.specs.Dialogue.{IsTurnHead}
use Rattle.layer_rows.proofs.DialogueLaws.{client-head, server-head}
use Rattle.layer_rows.proofs.dialogues.turn_head.Goals as goal

pub returns-then-of_client : goal.returns-then-of_client
returns-then-of_client c =
    subst (λ (head : ItemHead). IsTurnHead head) (sym c.tcp_head.ensures) (client-head c.args.numbers.flags c.args.numbers.seq c.args.numbers.ack)

pub returns-else-of_client : goal.returns-else-of_client
returns-else-of_client c =
    subst (λ (head : ItemHead). IsTurnHead head) (sym c.tcp_head-else-of_client.ensures) (server-head c.args.numbers.flags c.args.numbers.seq c.args.numbers.ack)
