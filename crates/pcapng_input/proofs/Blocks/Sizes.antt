-- What a total length that a block may have says of its parts.
use Rattle.std.proofs.Common.{◌≡◌, ◌+◌, ◌≤◌, Bool, true, false, IsTrue, refl, arith}
use Rattle.std.specs.Prelude.{◌&&◌, ◌==◌, ◌%◌, nat_le}
use Rattle.std.proofs.lemmas.Bool.Decides.{nat_tests}
use Rattle.pcapng_input.specs.declared.block.BlockKind.{BlockKind}
use Rattle.pcapng_input.specs.declared.block.BlockKind.TheVariants as kind
use Rattle.pcapng_input.specs.declared.block.Block.{Block}
use Rattle.pcapng_input.specs.Blocks.{least_total, fixed_front, front_length, is_sized}

-- a least length has room for the fixed front and the last four bytes
front_least : (k : BlockKind) → fixed_front k + 4 ≤ least_total k
front_least kind.Section = omega arith
front_least kind.Interface = omega arith
front_least kind.Simple = omega arith
front_least kind.Enhanced = omega arith
front_least kind.Other = omega arith

middle : (a b c : Bool) → IsTrue (a && b && c) → b ≡ true
middle true true c is = refl
middle true false c is = cc
middle false b c is = cc

-- each total length that a block may have has room for the fixed front and the last four bytes
pub sized_fits : (block : Block) → IsTrue (is_sized block) → fixed_front block.kind + 4 ≤ block.total
unfolding is_sized
sized_fits block is =
    let enough = middle (block.total % 4 == 0) (nat_le (least_total block.kind) block.total) _ is in
    let least : least_total block.kind ≤ block.total = grind (arith, nat_tests, enough) in
    omega (arith, front_least block.kind)

-- a front is no longer than a buffer of 20 bytes
pub front_short : (k : BlockKind) → front_length k ≤ 20
front_short kind.Section = omega arith
front_short kind.Interface = omega arith
front_short kind.Simple = omega arith
front_short kind.Enhanced = omega arith
front_short kind.Other = omega arith

pub ruleset sizes = (sized_fits, front_short)
