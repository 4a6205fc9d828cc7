-- The limits of an engine are in their ranges.
use Rattle.std.proofs.Common.{ℕ, ◌≤◌, List, [], ◌∷◌, arith, suc, zero}
use Rattle.std.specs.Prelude.{All}
use Rattle.std.proofs.Math.Logic.{∥∥₁_elim}
use native.Mathlib.Bridge.{le_prop}
use Rattle.std.proofs.lemmas.List.Elements.{All-head, All-tail}
use Rattle.conf_types.specs.declared.config.StreamEngine.{StreamEngine}
use Rattle.conf_types.specs.Sound.{IsStreamConfig, IsStreamEngine, IsWithin}
use Rattle.conf_types.specs.Defaults.{default_stream_engine, stream_engine_at}
use Rattle.stream5_reassembly.specs.Segments.{AreLimits}
use Rattle.flow_lanes.specs.Engines.{Making, engine_for, limits_to}

record AreEngineLimits (engine : StreamEngine) : Type 0 where
  bytes : IsWithin 1024 1073741824 engine.bytes_limit
  segs : 2 ≤ engine.segs_limit

first_engine-limits : AreEngineLimits default_stream_engine
unfolding default_stream_engine
first_engine-limits = record { bytes = (omega arith, omega arith); segs = omega arith }

engine-limits : (engines : List StreamEngine) (place : ℕ) → All IsStreamEngine engines → AreEngineLimits (stream_engine_at engines place)
engine-limits [] place h = first_engine-limits
engine-limits (engine ∷ engines) zero h = let here : IsStreamEngine engine = All-head IsStreamEngine engine engines h in record { bytes = here.bytes_limit; segs = here.segs_limit.0 }
engine-limits (engine ∷ engines) (suc place) h = engine-limits engines place (All-tail IsStreamEngine engine engines h)

pub limits-are : (making : Making) (place : ℕ) → 1 ≤ making.flush → ∥ IsStreamConfig making.stream ∥₁ → AreLimits (limits_to making place)
limits-are making place least config =
    let limits : IsStreamConfig making.stream → AreEngineLimits (engine_for making place) = λ sound. engine-limits making.stream.engines place sound.engines in
    record {
      bytes_least = ∥∥₁_elim config le_prop (λ sound. (limits sound).bytes.0);
      bytes_most = ∥∥₁_elim config le_prop (λ sound. let most = (limits sound).bytes.1 in omega arith);
      segs_least = ∥∥₁_elim config le_prop (λ sound. (limits sound).segs);
      flush_least = least;
    }
