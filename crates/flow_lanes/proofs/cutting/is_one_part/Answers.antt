-- From 1 to `item_size` bytes make one part, since their number of parts, rounded up, is 1: the lemma `one-part`.
use Rattle.std.proofs.Common.{◌<◌, ◌≤◌, length, arith}
use Rattle.std.proofs.lemmas.Bool.Decides.{nat_tests}
use Rattle.flow_lanes.specs.Streams.{item_size}
use Rattle.flow_lanes.proofs.Sessions.PartsOf.{one-part}
use Rattle.flow_lanes.proofs.cutting.is_one_part.Goals as goal

pub returns-then-not-is_empty : goal.returns-then-not-is_empty
returns-then-not-is_empty c = λ is.
    let bytes = c.args.bytes.now in
    let some : 0 < length bytes = grind (arith, nat_tests) in
    let few : length bytes ≤ item_size = grind (arith, nat_tests) in
    one-part bytes some few
