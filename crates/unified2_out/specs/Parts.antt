-- Parts of records, as they are written.
use Rattle.std.specs.Prelude.{ℕ, ◌+◌, length}
use Rattle.edge_io.specs.declared.address.Addr.{Addr}
use Rattle.unified2_out.specs.Records.{address_bytes}

-- how many bytes the body of an event between these addresses has
abbrev pub event_len : Addr → Addr → ℕ
event_len src dst = 44 + length (address_bytes src) + length (address_bytes dst)
