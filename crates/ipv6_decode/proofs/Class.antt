-- The traffic class, by its halves in two bytes.
use Rattle.std.proofs.Common.{◌≡◌, ℕ, ◌+◌, ◌*◌, ◌/◌, ◌%◌, ◌<◌, List, ap, sym, ◌∙◌, arith}
use Rattle.edge_io.specs.Bytes.{byte_at, be16}
use Rattle.edge_io.proofs.Bytes.{be16-bytes}

-- the traffic class of two bytes
pub class-halves : (high low : ℕ) → low < 256 → (high * 256 + low) / 16 % 256 ≡ high % 16 * 16 + low / 16
class-halves high low small = omega arith

-- the traffic class of two bytes at a place
pub traffic_class : (bytes : List ℕ) (place : ℕ) → byte_at bytes (place + 1) < 256 → byte_at bytes place % 16 * 16 + byte_at bytes (place + 1) / 16 ≡ be16 bytes place / 16 % 256
traffic_class bytes place small =
    sym (class-halves (byte_at bytes place) (byte_at bytes (place + 1)) small) ∙ ap (λ (n : ℕ). n / 16 % 256) (sym (be16-bytes bytes place))
