-- The longest of the options so far.
use Rattle.std.proofs.Common.{◌≡◌, map, max, take, fold}
use Rattle.event_filters.specs.Queue.{content_size}
use Rattle.event_filters.proofs.queue.longest_content.Given as goal

abbrev pub invariant-loop-option : goal.invariant-loop-option
invariant-loop-option l = l.longest ≡ fold max 0 (map content_size (take l.option-index l.option-items))
