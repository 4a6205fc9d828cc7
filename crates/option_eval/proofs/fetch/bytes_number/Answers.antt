-- At most four bytes, each below 256, make a number below 2 ^ 41 in either byte order.
use Rattle.std.proofs.Common.{arith}
use Rattle.option_eval.proofs.Digits.{little_small, big_small}
use Rattle.option_eval.proofs.fetch.bytes_number.Goals as goal

pub returns-in-Binary-true-clause-small : goal.returns-in-Binary-true-clause-small
returns-in-Binary-true-clause-small c =
    let short = rw c.in-Binary-true.is at c.requires in
    little_small c.args.bytes.now _ _ short.1 (λ k. omega (arith, c.type_inv.bytes k)) c.read_uint.ensures

pub returns-in-Binary-false-clause-small : goal.returns-in-Binary-false-clause-small
returns-in-Binary-false-clause-small c =
    let short = rw c.in-Binary-false.is at c.requires in
    big_small c.args.bytes.now _ _ short.1 (λ k. omega (arith, c.type_inv.bytes k)) c.read_uint-in-Binary-false.ensures
