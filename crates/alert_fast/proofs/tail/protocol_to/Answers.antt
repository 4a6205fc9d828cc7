-- No protocol's text has the brace that ends it (`free_protocol`), so that the word up to the first brace is the protocol,
-- or the text begins with none.
use Rattle.alert_fast.specs.Line.{protocol_text}
use Rattle.alert_fast.specs.Tails.{IsProtocol}
use Rattle.alert_fast.proofs.ReadBack.Fronts.{ended_front, ended_nowhere, ended_no}
use Rattle.alert_fast.proofs.ReadBack.Protocols.{free_protocol, brace_is_foreign}
use Rattle.alert_fast.proofs.tail.protocol_to.Goals as goal

pub returns-in_err-word : goal.returns-in_err-word
returns-in_err-word c = rw c.from_residual.ensures (ended_nowhere IsProtocol protocol_text 125 c.args.text.now c.in_err-word.ensures)

pub returns-in_err-value : goal.returns-in_err-value
returns-in_err-value c =
    rw c.from_residual-in_err-value.ensures
    (ended_no IsProtocol protocol_text 125 c.args.text.now c.in_ok-word.word.now c.in_ok-word.rest.now
    (free_protocol 125 brace_is_foreign) c.in_ok-word.ensures c.in_err-value.ensures)

pub returns : goal.returns
returns c =
    ended_front IsProtocol protocol_text 125 c.args.text.now c.in_ok-word.word.now c.in_ok-word.rest.now c.in_ok-value.value
    (free_protocol 125 brace_is_foreign) c.in_ok-word.ensures c.in_ok-value.ensures
