-- One line of a host table: `address FRAG STREAM`, of which the address may have a prefix length, as
-- `10.0.0.0/8`, and each policy is a name or `-` for none.
--
-- It gives an entry after those before it, or is refused: as given twice where one of those has the same
-- version, prefix length and address bits, and else as a bad line. A table has 65536 entries; each line after
-- them is bad, whatever it holds. (The form of the table is our own. It takes the place of Snort's host attribute
-- table, Snort Users Manual 2.9, section 2.7; policies as in sections 2.2.1 and 2.2.3.)
-- To try it on: `10.1.2.3/8 last -` is the network 10.0.0.0 of 8 bits with the fragment policy last and no
-- stream policy; after it `10.0.0.0/8 - linux` is given twice, and `10.0.0.0/9 - linux` is not.
use Rattle.std.specs.Prelude.{ℕ, ◌==◌, ◌&&◌, Bool, Option, Some, None, Result, Ok, Err, List, [], ◌∷◌, length, codes, bytes_eq, nat_lt, if◌then◌else◌}
use Rattle.std.specs.List.{list_any}
use Rattle.std.specs.Option.{option_map}
use Rattle.edge_io.specs.OnOption.{◌>>=◌}
use Rattle.edge_io.specs.Addresses.{same_addr}
use Rattle.net_lists.specs.declared.network.Network.{Network}
use Rattle.net_lists.specs.Addresses.{network}
use Rattle.net_lists.specs.Cutting.{words}
use Rattle.host_table.specs.declared.fault.HostFault.{HostFault}
use Rattle.host_table.specs.declared.fault.HostFault.TheVariants.{BadLine, Twice}
use Rattle.host_table.specs.declared.host_line.HostLine.{HostLine}
use Rattle.net_lists.specs.declared.lines.NumberedLine.{NumberedLine}
use Rattle.edge_io.specs.Policies.{frag_policy, stream_policy}

-- two networks have the same version, prefix length and address bits
unfoldable pub same_network : Network → Network → Bool
same_network a b = a.length == b.length && same_addr a.first b.first

-- one of these entries has this network
unfoldable pub is_given : List HostLine → Network → Bool
is_given entries net = list_any (λ entry. same_network entry.network net) entries

-- the policy that a word names, `-` for none; nothing, where it names none
unfoldable pub named : {P : Type 0} → (List ℕ → Option P) → List ℕ → Option (Option P)
named policy word = if bytes_eq word (codes "-") then Some None else option_map Some (policy word)

-- an address word and two policy words
unfoldable pub entry_of : List ℕ → List ℕ → List ℕ → Option HostLine
entry_of address frag stream = do
  net ← network address
  fragments ← named frag_policy frag
  streams ← named stream_policy stream
  Some (record { network = net; frag = fragments; stream = streams })

-- three words and no more
unfoldable pub entry_of_words : List (List ℕ) → Option HostLine
entry_of_words [] = None
entry_of_words (address ∷ []) = None
entry_of_words (address ∷ frag ∷ []) = None
entry_of_words (address ∷ frag ∷ stream ∷ []) = entry_of address frag stream
entry_of_words (address ∷ frag ∷ stream ∷ more ∷ rest) = None

-- the most entries of a table
abbrev pub most_entries : ℕ
most_entries = 65536

-- an entry is taken after others that lack its network
unfoldable pub taken : List HostLine → ℕ → HostLine → Result HostLine HostFault
taken before number entry = if is_given before entry.network then Err (Twice number) else Ok entry

-- what a line gives after the entries before it
unfoldable pub host_line : List HostLine → NumberedLine → Result HostLine HostFault
host_line before line =
    if nat_lt (length before) most_entries
    then elim (entry_of_words (words line.text)) [
      | None ↦ Err (BadLine line.number)
      | Some entry ↦ taken before line.number entry
    ]
    else Err (BadLine line.number)
