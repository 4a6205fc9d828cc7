-- The keys of flows: a protocol and two ends, the lower end first.
--
-- Ends are ordered by address, those of version 4 before those of version 6, and then by port. Which
-- of the two ends of a packet is the lower one doesn't depend on which of them sent it, so both
-- directions of a flow have one key. This order is this project's own.
-- To try it on: the key of 10.0.0.2 port 80 and 10.0.0.1 port 1000 has 10.0.0.1 port 1000 as its low
-- end, whichever of the two is named first.
use Rattle.std.specs.Prelude.{Bool, true, false, not, ◌&&◌, ◌||◌, ◌==◌, nat_lt, if◌then◌else◌}
use Rattle.edge_io.specs.declared.address.Addr.{Addr}
use Rattle.edge_io.specs.declared.address.Addr.TheVariants.{V4, V6}
use Rattle.edge_io.specs.Addresses.{same_addr}
use Rattle.stream5_sessions.specs.declared.key.End.{End}
use Rattle.stream5_sessions.specs.declared.key.Key.{Key}

-- the two ends are one
abbrev pub same_end : End → End → Bool
same_end a b = same_addr a.addr b.addr && (a.port == b.port)

-- the key is of this protocol: TCP where the word is true, UDP where it is false
abbrev pub is_of : Bool → Key → Bool
is_of tcp key = if tcp then key.tcp else not key.tcp

-- the two keys are one
unfoldable pub same_key : Key → Key → Bool
same_key a b = is_of a.tcp b && same_end a.low b.low && same_end a.high b.high

-- the order of addresses: by version, then by number
abbrev pub is_addr_before : Addr → Addr → Bool
is_addr_before (V4 a) (V4 b) = nat_lt a b
is_addr_before (V4 a) (V6 b) = true
is_addr_before (V6 a) (V4 b) = false
is_addr_before (V6 a) (V6 b) = nat_lt a b

-- the order of ends: by address, then by port
abbrev pub is_end_before : End → End → Bool
is_end_before a b = is_addr_before a.addr b.addr || (same_addr a.addr b.addr && nat_lt a.port b.port)

-- the key of two ends, named in either order
unfoldable pub key_of : Bool → End → End → Key
key_of tcp a b =
    if is_end_before b a
    then record { tcp = tcp; low = b; high = a }
    else record { tcp = tcp; low = a; high = b }
