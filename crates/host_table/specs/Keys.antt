-- How the code keeps networks in order: by prefix length, then by address.
use Rattle.std.specs.declared.cmp.Ordering.{Ordering}
use Rattle.net_lists.specs.declared.network.Network.{Network}
use Rattle.host_table.specs.declared.key.NetworkKey.{NetworkKey}
use Rattle.host_table.specs.contracts.key.NetworkKeyOrd.TheImpl as ord

-- the key of a network
abbrev pub key_of : Network → NetworkKey
key_of net = record { length = net.length; first = net.first }

-- the order of keys
abbrev pub key_cmp : NetworkKey → NetworkKey → Ordering
key_cmp = (ord.ghosts).cmp
