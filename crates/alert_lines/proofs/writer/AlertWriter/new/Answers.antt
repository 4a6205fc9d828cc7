-- The new filters are those of no item, and what was counted is 0, as the tally of no item is.
use Rattle.std.proofs.Common.{refl}
use Rattle.alert_lines.specs.Showing.{tally_of}
use Rattle.alert_lines.proofs.writer.AlertWriter.new.Goals as goal

pub returns-clause-hold : goal.returns-clause-hold
unfolding tally_of
returns-clause-hold c = record {
  given = c.in_ok-new.ensures c.requires.config (λ k d lt. (c.requires.rules k d lt).triable);
  tally = refl;
}
