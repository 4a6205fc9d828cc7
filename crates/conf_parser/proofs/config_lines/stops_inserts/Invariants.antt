-- The word is among those that are left, if it is among all.
use Rattle.std.proofs.Common.{◌≡◌}
use Rattle.std.specs.List.{list_any}
use Rattle.net_lists.specs.Cutting.{settings}
use Rattle.conf_parser.specs.Config.{stops_inserts}
use Rattle.conf_parser.proofs.config_lines.stops_inserts.Given as goal

abbrev pub invariant-loop-word : goal.invariant-loop-word
invariant-loop-word l = record {
  can_next : goal.iterator-loop-word.can_next l.word-iterator;
  finite : goal.iterator-loop-word.is_finite l.word-iterator;
  so_far : list_any stops_inserts (settings l.fn.value) ≡ list_any stops_inserts l.word-iterator;
}
