-- Two splits give the part: the first drops `part * item_size` bytes, the second takes `item_size` of the rest, or all
-- of it where it is shorter.
use Rattle.std.proofs.Common.{ℕ, take, ap, ◌∙◌}
use Rattle.flow_lanes.specs.Streams.{item_size}
use Rattle.flow_lanes.proofs.Sessions.PartsOf.{take-shorter}
use Rattle.flow_lanes.proofs.cutting.part_at.Goals as goal

pub returns : goal.returns
returns c =
    let rest = c.split_at.result.1.now in
    c.in_ok-text.ensures ∙ c.split_at-2.ensures.front ∙ ap (λ (n : ℕ). take n rest) c.min.ensures ∙ take-shorter item_size rest ∙ ap (take item_size) c.split_at.ensures.back
