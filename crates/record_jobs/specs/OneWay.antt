-- Where each address goes by the same.
use Rattle.std.specs.Prelude.{ℕ, ◌&&◌, ◌==◌, Bool, Option, is_none, is_some, length, position, unwrap_or}
use Rattle.edge_io.specs.declared.policy.StreamPolicy.{StreamPolicy}
use Rattle.edge_io.specs.Policies.{stream_preference}
use Rattle.conf_types.specs.declared.config.StreamEngine.{StreamEngine}
use Rattle.conf_types.specs.Defaults.{stream_engine_at}
use Rattle.flow_lanes.specs.declared.job.Toward.{Toward}
use Rattle.record_jobs.specs.declared.time.Time.{Time}
use Rattle.record_jobs.specs.Way.{Way, is_due}

-- there is one engine of streams, to all, and nothing is known of hosts
abbrev pub is_one_for_all : Way → Bool
is_one_for_all way =
    (length way.stream.engines == 1) && is_some (position (λ engine. is_none engine.bind) way.stream.engines)
    && (length way.hosts == 0)

-- what a packet's data go by at the engine at this place, where the host table says this of the address
abbrev pub toward_by : Way → Bool → Time → ℕ → Option StreamPolicy → Toward
toward_by way tcp time place host = let engine : StreamEngine = stream_engine_at way.stream.engines place in record {
  engine = place;
  preference = stream_preference (unwrap_or host engine.policy);
  needed = tcp && is_due time engine.handshake;
}
