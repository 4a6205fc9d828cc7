-- The shift in 64 bits is the power of two itself, and a number less
-- its remainder by that has room in 32 bits for all its last bits.
use Rattle.std.proofs.Common.{◌≡◌, ◌*◌, ◌%◌, ◌^◌, arith}
use Rattle.std.proofs.lemmas.Nat.{one_shl}
use Rattle.net_lists.proofs.Addresses.Prefixes.{last_fits}
use Rattle.net_lists.proofs.network.cleared4.Goals as goal

pub returns-clause-within : goal.returns-clause-within
returns-clause-within c =
    let size : 1 * 2 ^ c.args.last % 18446744073709551616 ≡ 2 ^ c.args.last = one_shl c.args.last 64 (omega arith) in
    rw (size, c.from-value.ensures) (last_fits 32 c.args.value c.args.last (omega (arith, c.ranges.value.fits)) c.requires)
