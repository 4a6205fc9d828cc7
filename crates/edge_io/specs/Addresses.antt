-- When two addresses are one: they are of one version of the protocol, and have one number.
--
-- To try it on: `V4 1` and `V6 1` are two addresses, and `V4 1` is one with itself.
use Rattle.std.specs.Prelude.{◌==◌, Bool, false}
use Rattle.edge_io.specs.declared.address.Addr.{Addr}
use Rattle.edge_io.specs.declared.address.Addr.TheVariants.{V4, V6}

-- the two addresses are one
abbrev pub same_addr : Addr → Addr → Bool
same_addr (V4 a) (V4 b) = a == b
same_addr (V6 a) (V6 b) = a == b
same_addr a b = false
