-- The last bits of the first address are cleared, so the last address of
-- the network, all of them set, still fits its version's 32 or 128 bits.
use Rattle.std.proofs.Common.{◌≤◌, subst}
use Rattle.edge_io.specs.declared.address.Addr.{Addr}
use Rattle.net_lists.specs.Addresses.{bits_of}
use Rattle.net_lists.proofs.network.Network.at.Goals as goal

pub returns-in-V4-clause-sound : goal.returns-in-V4-clause-sound
returns-in-V4-clause-sound c =
    let Bits : Addr → Type 0 = λ addr. c.args.length ≤ bits_of addr in
    (subst Bits c.in-V4.is c.requires, c.cleared4.ensures.within)

pub returns-in-V6-clause-sound : goal.returns-in-V6-clause-sound
returns-in-V6-clause-sound c =
    let Bits : Addr → Type 0 = λ addr. c.args.length ≤ bits_of addr in
    (subst Bits c.in-V6.is c.requires, c.cleared6.ensures.within)
