-- The places of the global filters of the rules so far.
use Rattle.std.proofs.Common.{◌≡◌, map, take}
use Rattle.event_filters.specs.Events.{global_place}
use Rattle.event_filters.proofs.lines.global_places.Given as goal

abbrev pub invariant-loop-rule : goal.invariant-loop-rule
invariant-loop-rule l = l.places.items ≡ map (global_place l.filters) (take l.rule-index l.rules)
