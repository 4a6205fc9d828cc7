-- The loop of `cut_parts` has appended the parts of the numbers so far, each of at most `item_size` bytes.
use Rattle.std.proofs.Common.{◌≡◌, ℕ, ◌*◌, ◌++◌, drop, map, take}
use Rattle.std.specs.List.{range_with_len}
use Rattle.flow_lanes.specs.Streams.{item_size}
use Rattle.flow_lanes.proofs.cutting.cut_parts.Given as goal

-- the parts so far were appended
abbrev pub invariant-loop-part : goal.invariant-loop-part
invariant-loop-part l = l.out.items ≡ l.fn.out.items ++ map (λ (part : ℕ). take item_size (drop (part * item_size) l.bytes)) (range_with_len 0 l.part)
