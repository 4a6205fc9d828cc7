-- As many bytes in front as the text has are equal to it without case just if both are equal once folded.
use Rattle.std.proofs.Common.{◌≡◌, length, take, arith}
use Rattle.std.proofs.lemmas.Grind.{common_steps}
use Rattle.edge_io.proofs.Folding.{begins_folded}
use Rattle.edge_io.proofs.literal.begins_with.Goals as goal

pub returns-in-Some-clause-test : goal.returns-in-Some-clause-test
returns-in-Some-clause-test c =
    let front : c.in-Some.front.now ≡ take (length c.args.text.now) c.args.bytes.now = grind (arith, common_steps) in
    rw c.if-nocase.true (begins_folded c.args.bytes.now c.args.text.now c.in-Some.front.now c.eq_ignore_ascii_case.result front c.eq_ignore_ascii_case.ensures.test)
