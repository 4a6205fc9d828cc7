-- n groups make a number below 2 ^ (16 n), so with fewer than eight there is room for 16 bits more in 128.
use Rattle.std.proofs.Common.{◌+◌, arith}
use Rattle.net_lists.proofs.Addresses.HexGroups.{grown_small, all_fit}
use Rattle.net_lists.proofs.address6.with_group.Goals as goal

pub overflow_mul-result : goal.overflow_mul-result
overflow_mul-result c =
    let count = c.args.groups.count in
    omega (arith, grown_small count c.args.groups.value 0 c.requires.small.1 (omega arith), all_fit (count + 1) (omega (arith, c.requires.small.0)))

pub overflow_add-result-2 : goal.overflow_add-result-2
overflow_add-result-2 c =
    let count = c.args.groups.count in
    omega (arith, grown_small count c.args.groups.value c.args.next c.requires.small.1 c.requires.next, all_fit (count + 1) (omega (arith, c.requires.small.0)))

pub returns-clause-small : goal.returns-clause-small
returns-clause-small c =
    let count = c.args.groups.count in
    (omega (arith, c.requires.small.0), omega (arith, grown_small count c.args.groups.value c.args.next c.requires.small.1 c.requires.next))
