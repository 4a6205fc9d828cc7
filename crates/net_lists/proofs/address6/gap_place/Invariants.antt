-- The first `::` of the text is that of the bytes from `place` on, as many places further.
use Rattle.std.proofs.Common.{◌≡◌, ◌+◌, drop, option_map}
use Rattle.net_lists.specs.Addresses.{gap_place}
use Rattle.net_lists.proofs.address6.gap_place.Given as goal

abbrev pub invariant-loop-place : goal.invariant-loop-place
invariant-loop-place l = gap_place l.text ≡ option_map (λ n. l.place + n) (gap_place (drop l.place l.text))
