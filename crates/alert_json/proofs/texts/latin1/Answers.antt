-- One byte more appends its character in UTF-8 to the text of the bytes before it: the lemma `latin_more`.
use Rattle.std.proofs.Common.{string_bytes}
use Rattle.alert_json.proofs.Latin.{latin_more}
use Rattle.alert_json.proofs.texts.latin1.Goals as goal

pub loop-byte-preserved : goal.loop-byte-preserved
loop-byte-preserved c =
    latin_more (string_bytes c.loop-byte.text) _ c.args.bytes.now c.loop-byte.byte-index _ c.loop-byte-test.true c.loop-byte.invariant c.in_ok-push.ensures.bytes
