-- How the code finds an entry: by its network, in a map to its place; and each prefix length that an entry has
-- is marked.
use Rattle.std.specs.Prelude.{◌≡◌, ℕ, Bool, false, Option, None, List, All}
use Rattle.std.specs.List.{position_from, slice_index_or}
use Rattle.std.specs.BTreeMap.{BTreeMap, get}
use Rattle.net_lists.specs.declared.network.Network.{Network}
use Rattle.net_lists.specs.Addresses.{IsNetwork}
use Rattle.host_table.specs.declared.host_line.HostLine.{HostLine}
use Rattle.host_table.specs.declared.key.NetworkKey.{NetworkKey}
use Rattle.host_table.specs.HostLine.{same_network}
use Rattle.host_table.specs.Keys.{key_of, key_cmp}

-- the place of the entry with this network
unfoldable pub place_of : List HostLine → Network → Option ℕ
place_of entries net = position_from (λ entry. same_network entry.network net) 0 entries

-- the map has the place of each entry, no length but a marked one occurs, and each entry has a network
pub record IsIndexed (entries : List HostLine) (places : BTreeMap NetworkKey ℕ) (lengths : List Bool) : Type 0 where
  pub found : (net : Network) → get key_cmp places (key_of net) ≡ place_of entries net
  pub marked : (net : Network) → slice_index_or lengths net.length false ≡ false → place_of entries net ≡ None
  pub sound : All (λ entry. IsNetwork entry.network) entries
