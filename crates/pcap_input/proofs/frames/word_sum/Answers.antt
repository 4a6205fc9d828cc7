-- Two bytes more are one word more; at the end an odd byte is the high one of a word, and no byte adds nothing.
use Rattle.std.proofs.Common.{arith}
use Rattle.edge_io.proofs.Words.{two, last, nothing}
use Rattle.pcap_input.proofs.frames.word_sum.Goals as goal

pub loop-rest-preserved : goal.loop-rest-preserved
loop-rest-preserved c =
    let counted = two c.loop-rest.sum c.loop-rest.rest.now (omega arith) in
    record { same = cc; room = omega arith }

pub returns-then-rest-eq1-clause-value : goal.returns-then-rest-eq1-clause-value
returns-then-rest-eq1-clause-value c = let counted = last c.loop-rest.rest.now (omega arith) in omega arith

pub returns-else-rest-eq1-clause-value : goal.returns-else-rest-eq1-clause-value
returns-else-rest-eq1-clause-value c = let counted = nothing c.loop-rest.rest.now (omega arith) in omega arith
