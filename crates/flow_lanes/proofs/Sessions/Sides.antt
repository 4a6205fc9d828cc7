-- Steps of one side of a session.
use Rattle.std.proofs.Common.{◌≡◌, ℕ, ◌<◌, Bool, true, false, ◌&&◌, cond, List, [], ◌∷◌, length, refl, sym, ap, subst, ◌∙◌, arith}
use Rattle.overlap_core.specs.declared.segment.Run.{Run}
use Rattle.overlap_core.specs.Overlap.{covered_end}
use Rattle.stream5_reassembly.specs.Extents.{extent_after}
use Rattle.stream5_reassembly.specs.Segments.{AppendsFlushed, DirectionState, Flushes, Stays, ack_flushes, ack_place, flushed_to, idle, segment_fate, top}
use Rattle.flow_lanes.specs.Sides.{SessionSide, acked_payloads, direction_after_data, held_payloads, is_held, queues, side_after_data, started_by}
use Rattle.flow_lanes.specs.Streams.{flushed_payloads, payloads_of, runs_of}
use Rattle.flow_lanes.specs.Working.{HasNoneLeft}
use Rattle.flow_lanes.proofs.Sessions.FlushedPayloads.{flushed_payloads-runs}

-- no bytes are no data
pub queues-none : (side : SessionSide) (seq : ℕ) (bytes : List ℕ) → length bytes ≡ 0 → queues side seq bytes ≡ false
unfolding queues
queues-none side seq [] is = refl
queues-none side seq (byte ∷ bytes) is = absurd (omega arith)

pub side_after_data-none : (side : SessionSide) (seq : ℕ) (bytes : List ℕ) → length bytes ≡ 0 → side_after_data side seq bytes ≡ side
unfolding side_after_data
side_after_data-none side seq [] is = refl
side_after_data-none side seq (byte ∷ bytes) is = absurd (omega arith)

pub queues-some : (side : SessionSide) (seq : ℕ) (bytes : List ℕ) → 0 < length bytes → queues side seq bytes ≡ (side.on && is_held (segment_fate (started_by side.direction seq) seq bytes))
unfolding queues
queues-some side seq [] some = absurd (omega arith)
queues-some side seq (byte ∷ bytes) some = refl

pub side_after_data-some : (side : SessionSide) (seq : ℕ) (bytes : List ℕ) → 0 < length bytes
    → side_after_data side seq bytes ≡ record side { direction = direction_after_data side seq bytes; extent = extent_after side.extent seq (length bytes) }
unfolding side_after_data
side_after_data-some side seq [] some = absurd (omega arith)
side_after_data-some side seq (byte ∷ bytes) some = refl

-- what is appended to nothing, cut, are the payloads of the flush
pub cut-flushed : (direction : DirectionState) (to : ℕ) (runs : List Run) → AppendsFlushed direction to [] runs → payloads_of runs ≡ flushed_payloads direction to
cut-flushed direction to runs appends =
    ap payloads_of appends.1 ∙ sym (flushed_payloads-runs direction to appends.0 appends.2)

-- an acknowledgement: what it flushes, and the direction after it
pub acked-cut : (old new : DirectionState) (ack : ℕ) (runs : List Run) (flushed : Bool) → flushed ≡ ack_flushes old ack
    → (flushed ≡ true → Flushes old new (ack_place old ack) [] runs) → (flushed ≡ false → Stays old new [] runs)
    → (payloads_of runs ≡ cond (ack_flushes old ack) (flushed_payloads old (ack_place old ack)) [])
    × (new ≡ cond (ack_flushes old ack) (flushed_to old (ack_place old ack)) old)
acked-cut old new ack runs flushed is flushes stays =
    subst (λ (b : Bool). (payloads_of runs ≡ cond b (flushed_payloads old (ack_place old ack)) []) ×
    (new ≡ cond b (flushed_to old (ack_place old ack)) old)) is (by_case flushed flushes stays)
  where
    by_case : (b : Bool) → (b ≡ true → Flushes old new (ack_place old ack) [] runs) → (b ≡ false → Stays old new [] runs)
        → (payloads_of runs ≡ cond b (flushed_payloads old (ack_place old ack)) []) × (new ≡ cond b (flushed_to old (ack_place old ack)) old)
    by_case true flushes stays = (cut-flushed old (ack_place old ack) runs (flushes refl).runs, (flushes refl).state)
    by_case false flushes stays = (ap payloads_of (stays refl).runs, (stays refl).state)

-- where an acknowledgement doesn't flush there is nothing to cut
pub acked-none : (side : SessionSide) (ack : ℕ) (flushed : Bool) → flushed ≡ ack_flushes side.direction ack → flushed ≡ false → acked_payloads side ack ≡ []
unfolding acked_payloads
acked-none side ack flushed is none = ap (λ (b : Bool). cond b (flushed_payloads side.direction (ack_place side.direction ack)) []) (sym is ∙ none)

-- a direction that isn't started holds nothing
pub held-idle : (side : SessionSide) → side.direction ≡ idle side.direction.limits side.direction.preference → held_payloads side ≡ []
unfolding held_payloads flushed_payloads runs_of covered_end
held-idle side is = ap (λ (d : DirectionState). flushed_payloads d (top d)) is

pub idle-same : (side : SessionSide) → side.direction ≡ idle side.direction.limits side.direction.preference
    → side ≡ record side { direction = idle side.direction.limits side.direction.preference }
idle-same side is = ap (λ (d : DirectionState). record side { direction = d }) is

-- a side whose direction isn't started has nothing left
pub none-left : (side : SessionSide) → side.direction ≡ idle side.direction.limits side.direction.preference → HasNoneLeft side
none-left side is = by_case side.on
  where
    by_case : (on : Bool) → (cond on [] (held_payloads side) ≡ []) × (cond on side (record side { direction = idle side.direction.limits side.direction.preference }) ≡ side)
    by_case true = (refl, refl)
    by_case false = (held-idle side is, sym (idle-same side is))
