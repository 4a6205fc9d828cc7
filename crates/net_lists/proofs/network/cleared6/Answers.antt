-- Fewer than 128 places to shift lose no bit, and a number less its
-- remainder by that power has room in 128 bits for all its last bits.
use Rattle.std.proofs.Common.{◌≡◌, ◌*◌, ◌%◌, ◌^◌, arith}
use Rattle.std.proofs.lemmas.Nat.{one_shl}
use Rattle.net_lists.proofs.Addresses.Prefixes.{last_fits}
use Rattle.net_lists.proofs.network.cleared6.Goals as goal

pub returns-clause-within : goal.returns-clause-within
returns-clause-within c =
    let size : 1 * 2 ^ c.args.last % 340282366920938463463374607431768211456 ≡ 2 ^ c.args.last = one_shl c.args.last 128 (omega arith) in
    rw size (last_fits 128 c.args.value c.args.last (omega (arith, c.ranges.value.fits)) c.requires)
