-- If any id is another, one of those that are left is.
use Rattle.std.proofs.Common.{◌≡◌}
use Rattle.clap.specs.Matches.{ids_left}
use Rattle.clap.specs.Words.{found_of, rows_of}
use Rattle.command_words.specs.Clap.{others_among, others_in}
use Rattle.command_words.proofs.given.has_others.Given as goal

abbrev pub invariant-loop-id : goal.invariant-loop-id
invariant-loop-id l = record {
  can : (goal.iterator-loop-id).can_next l.id-iterator;
  finite : (goal.iterator-loop-id).is_finite l.id-iterator;
  same : others_in (rows_of (found_of l.matches)) ≡ others_among (rows_of (found_of l.matches)) (ids_left l.id-iterator);
}
