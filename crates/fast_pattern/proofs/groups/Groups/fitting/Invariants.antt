-- What was kept are those of the places so far whose rules' headers fit.
use Rattle.std.proofs.Common.{◌≡◌, take}
use Rattle.std.specs.List.{filter}
use Rattle.fast_pattern.specs.Grouping.{fits_at}
use Rattle.fast_pattern.proofs.groups.Groups.fitting.Given as goal

abbrev pub invariant-loop-place : goal.invariant-loop-place
invariant-loop-place l = l.fitting.items ≡ filter (fits_at l.rules l.body) (take l.place-index l.places)
