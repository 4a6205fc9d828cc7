-- The places of the own filters of the rules so far.
use Rattle.std.proofs.Common.{◌≡◌, map, take}
use Rattle.event_filters.specs.Events.{own_place}
use Rattle.event_filters.proofs.lines.own_places.Given as goal

abbrev pub invariant-loop-rule : goal.invariant-loop-rule
invariant-loop-rule l = l.places.items ≡ map (own_place l.filters) (take l.rule-index l.rules)
