-- The one protocol that a word may name is `protocol_value`, and the word names it just where that protocol's text is the
-- word, which `is_protocol` decides.
use Rattle.std.proofs.Common.{◌≡◌, ◌<◌, sym, ◌∙◌, arith, true≢false}
use Rattle.std.proofs.lemmas.Slice.Eq.{bytes_eq-Decides}
use Rattle.alert_fast.specs.Line.{protocol_text}
use Rattle.alert_fast.proofs.ReadBack.Protocols.{protocol_whole, protocol_none}
use Rattle.alert_fast.proofs.tail.protocol.Goals as goal

pub returns-then-is_protocol : goal.returns-then-is_protocol
returns-then-is_protocol c =
    let same = bytes_eq-Decides (protocol_text c.protocol_value-value.result) c.args.word.now in
    protocol_whole c.args.word.now c.protocol_value-value.result c.protocol_value-value.ensures (omega arith) (same.0 (sym c.is_protocol.ensures ∙ c.if-is_protocol.true))

pub returns-else-is_protocol : goal.returns-else-is_protocol
returns-else-is_protocol c =
    let same = bytes_eq-Decides (protocol_text c.protocol_value-value.result) c.args.word.now in
    protocol_none c.args.word.now c.protocol_value-value.result c.protocol_value-value.ensures (λ e. true≢false (sym (same.1 e) ∙ sym c.is_protocol.ensures ∙ c.if-is_protocol.false))
