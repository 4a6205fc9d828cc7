-- The engine's place is no greater than the number of engines (`stream_place-within`); with what the host table says of the
-- address it gives what goes by the address (`toward_is`).
use Rattle.std.proofs.Common.{ap, arith, length, ◌∙◌}
use Rattle.record_jobs.specs.Way.{stream_place, way_of}
use Rattle.record_jobs.proofs.Ways.Bound.{stream_place-within}
use Rattle.record_jobs.proofs.Ways.OnePlace.{toward_is}
use Rattle.record_jobs.proofs.engines.toward.Goals as goal

pub toward_by-requires : goal.toward_by-requires
toward_by-requires c =
    omega (arith, stream_place-within c.as_slice-engines.result.now c.args.addr, ap length c.as_slice-engines.ensures, c.stream_place-place.ensures, c.requires)

pub returns : goal.returns
returns c =
    c.toward_by.ensures
    ∙ toward_is (way_of c.args.by.now) c.args.tcp c.args.time c.args.addr c.stream_place-place.result c.stream_policy-host.result
    (c.stream_place-place.ensures ∙ ap (λ engines. stream_place engines c.args.addr) c.as_slice-engines.ensures) c.stream_policy-host.ensures
