-- The groups so far, and then the pieces that are left, are the groups of the whole.
use Rattle.std.proofs.Common.{◌≡◌, ◌==◌, length}
use Rattle.std.specs.List.{slice_split}
use Rattle.net_lists.specs.Groups.{IsSmall, joined, pieces_left}
use Rattle.net_lists.proofs.address6.joined_groups.Given as goal

abbrev pub invariant-loop-rest : goal.invariant-loop-rest
invariant-loop-rest l = record {
  small : IsSmall l.groups;
  so_far : joined (record { count = 0; value = 0 }) (slice_split (λ b. b == 58) l.text) ≡ joined l.groups (pieces_left l.rest);
}

abbrev pub decreases-loop-rest : goal.decreases-loop-rest
decreases-loop-rest l = length (pieces_left l.rest)
