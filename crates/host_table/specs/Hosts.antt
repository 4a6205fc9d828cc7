-- The hosts of a table, and what it says of an address.
--
-- A table is read line by line; the first line that is refused ends it. Of an address the line with the longest
-- prefix that has it decides, and that line alone: where it gives no policy, the address has none. An address is
-- looked for among those of its own version. (Longest prefix as in RFC 4632, section 5.1; the host table is our
-- own.)
-- To try it on: by the lines `10.0.0.0/8 last linux` and `10.1.0.0/16 - -` the address 10.2.0.1 has the fragment
-- policy last, and 10.1.0.1 and 11.0.0.1 have none.
use Rattle.std.specs.Prelude.{◌≡◌, ⊤, ℕ, Bool, Option, Some, None, option_and_then, Result, Ok, Err, List, [], ◌∷◌, ◌++◌, filter, nat_lt, if◌then◌else◌}
use Rattle.edge_io.specs.OnResult.{◌>>=◌}
use Rattle.edge_io.specs.declared.address.Addr.{Addr}
use Rattle.edge_io.specs.declared.policy.FragPolicy.{FragPolicy}
use Rattle.edge_io.specs.declared.policy.StreamPolicy.{StreamPolicy}
use Rattle.net_lists.specs.Addresses.{network_at}
use Rattle.host_table.specs.declared.fault.HostFault.{HostFault}
use Rattle.host_table.specs.declared.fault.HostFault.TheVariants.{BadLine, Twice, NoMemory}
use Rattle.host_table.specs.declared.host_line.HostLine.{HostLine}
use Rattle.net_lists.specs.declared.lines.NumberedLine.{NumberedLine}
use Rattle.host_table.specs.Lines.{content_lines}
use Rattle.host_table.specs.HostLine.{same_network, host_line}

-- the entries after these lines, or the refusal of the first line that is refused
unfoldable pub hosts_after : List HostLine → List NumberedLine → Result (List HostLine) HostFault
hosts_after entries [] = Ok entries
hosts_after entries (line ∷ rest) = host_line entries line >>= (λ entry. hosts_after (entries ++ entry ∷ []) rest)

-- the entries of a table, or the refusal of the first line that is refused
unfoldable pub hosts_of : List ℕ → Result (List HostLine) HostFault
hosts_of text = hosts_after [] (content_lines text)

-- an answer that gives what is meant, or want of memory
abbrev pub Gives : Result (List HostLine) HostFault → Result (List HostLine) HostFault → Type 0
Gives (Ok entries) meant = meant ≡ Ok entries
Gives (Err NoMemory) meant = ⊤
Gives (Err (BadLine number)) meant = meant ≡ Err (BadLine number)
Gives (Err (Twice number)) meant = meant ≡ Err (Twice number)

-- the address agrees with the entry's in the bits of its prefix
unfoldable pub has_address : Addr → HostLine → Bool
has_address addr entry = same_network entry.network (network_at addr entry.network.length)

-- the entry with the longer prefix, if there are two
abbrev pub longer : HostLine → Option HostLine → HostLine
longer entry None = entry
longer entry (Some other) = if nat_lt entry.network.length other.network.length then other else entry

-- the entry with the longest prefix
abbrev pub longest : List HostLine → Option HostLine
longest [] = None
longest (entry ∷ rest) = Some (longer entry (longest rest))

-- of the entries that have the address, the one with the longest prefix
unfoldable pub entry_at : List HostLine → Addr → Option HostLine
entry_at entries addr = longest (filter (has_address addr) entries)

-- the fragment policy of an address
abbrev pub frag_policy_at : List HostLine → Addr → Option FragPolicy
frag_policy_at entries addr = option_and_then (λ entry. entry.frag) (entry_at entries addr)

-- the stream policy of an address
abbrev pub stream_policy_at : List HostLine → Addr → Option StreamPolicy
stream_policy_at entries addr = option_and_then (λ entry. entry.stream) (entry_at entries addr)
