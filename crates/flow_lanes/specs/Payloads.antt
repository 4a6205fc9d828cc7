-- The bytes of a payload, whoever owns them.
use Rattle.std.specs.Prelude.{ℕ, List}
use Rattle.flow_lanes.specs.declared.payload.PayloadBytes.{PayloadBytes}
use Rattle.flow_lanes.specs.declared.payload.PayloadBytes.TheVariants.{Lent, Own}

abbrev pub bytes_held : PayloadBytes → List ℕ
bytes_held (Lent bytes) = bytes.now
bytes_held (Own bytes) = bytes
