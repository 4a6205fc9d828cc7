-- What an engine says where no line says otherwise. (Snort Users Manual 2.9, sections 2.2.1 to 2.2.3.)
--
-- A reader starts each engine from these values, and a packet whose address no engine has goes by them.
-- An engine of streams is named by its place among those of the configuration; their number names the
-- defaults.
-- To try it on: where no line gives an engine of streams, a session ends 30 seconds after its last packet,
-- and the data that a client sends to port 80 are put together.
use Rattle.std.specs.Prelude.{ℕ, List, [], ◌∷◌, Some, None, map, slice_get, unwrap_or}
use Rattle.edge_io.specs.declared.policy.FragPolicy.TheVariants as frag
use Rattle.edge_io.specs.declared.policy.StreamPolicy.TheVariants as stream
use Rattle.net_lists.specs.Parts.{one_port}
use Rattle.conf_types.specs.declared.config.FragEngine.{FragEngine}
use Rattle.conf_types.specs.declared.config.StreamEngine.{StreamEngine}

-- an engine of fragments
abbrev pub default_frag_engine : FragEngine
default_frag_engine = record { bind = None; policy = frag.Bsd; timeout = 60; min_ttl = 1 }

-- the ports of servers whose clients' data are put together
abbrev pub default_ports : List ℕ
default_ports =
    21 ∷ 23 ∷ 25 ∷ 42 ∷ 53 ∷ 80 ∷ 110 ∷ 111 ∷ 135 ∷ 136 ∷ 137 ∷ 139 ∷ 143 ∷ 445 ∷ 513 ∷ 514 ∷ 1433 ∷ 1521 ∷ 2401 ∷ 3306 ∷ []

-- an engine of streams
unfoldable pub default_stream_engine : StreamEngine
default_stream_engine = record {
  bind = None;
  policy = stream.Bsd;
  timeout = 30;
  handshake = None;
  bytes_limit = 1048576;
  segs_limit = 2621;
  client_ports = Some (map one_port default_ports);
  server_ports = None;
}

-- the engine of streams at a place; after the last one come the defaults
abbrev pub stream_engine_at : List StreamEngine → ℕ → StreamEngine
stream_engine_at engines place = unwrap_or (slice_get engines place) default_stream_engine
