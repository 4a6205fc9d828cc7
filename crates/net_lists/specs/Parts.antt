-- The parts of port lists: `n`, `a:b` with a at most b, `a:` or `:b`, of numbers from 0 to 65535 without
-- leading zeros.
--
-- (Snort Users Manual 2.9, "Port Numbers".)
-- To try it on: `1024:` is 1024 to 65535.
use Rattle.std.specs.Prelude.{ℕ, ◌+◌, ◌==◌, ◌&&◌, Option, Some, None, List, false, length, nat_lt, nat_le, if◌then◌else◌}
use Rattle.std.specs.Option.{option_map}
use Rattle.edge_io.specs.OnOption.{◌>>=◌}
use Rattle.net_lists.specs.declared.part.ValueBounds.{ValueBounds}
use Rattle.net_lists.specs.declared.part.Part.{Part}
use Rattle.net_lists.specs.Numbers.{number_in}
use Rattle.net_lists.specs.Addresses.{cut}

-- the number before or after a colon, which may lack
unfoldable pub port_end : ℕ → List ℕ → Option ℕ
port_end lacking text = if length text == 0 then Some lacking else number_in 0 65535 text

-- two ends with the colon (58) between them, not both lacking, and in order
unfoldable pub between_ends : List ℕ × List ℕ → Option (ValueBounds ℕ)
between_ends part = do
  low ← port_end 0 part.0
  high ← port_end 65535 part.1
  if nat_le low high && nat_lt 0 (length part.0 + length part.1) then Some (record { low = low; high = high }) else None

-- a port part
unfoldable pub port_bounds : List ℕ → Option (ValueBounds ℕ)
port_bounds text = elim (cut 58 text) [
  | None ↦ option_map (λ port. record { low = port; high = port }) (number_in 0 65535 text)
  | Some part ↦ between_ends part
]

-- the part that one port is by itself
abbrev pub one_port : ℕ → Part (ValueBounds ℕ)
one_port port = record { negated = false; bounds = record { low = port; high = port } }
