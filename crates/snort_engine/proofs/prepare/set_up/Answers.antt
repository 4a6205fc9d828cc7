-- What `read_setup` gives is the setup of the words that `setup_words` takes over, and the warnings that are told are
-- those that `told_of` leaves.
use Rattle.snort_engine.proofs.prepare.set_up.Goals as goal

pub returns-clause-set_up : goal.returns-clause-set_up
returns-clause-set_up g c = λ files agree. record {
  given_warnings = c.read_setup-outcome.new.warnings;
  sets_up = rw c.setup_words.ensures at (c.read_setup-outcome.ensures.agreed files agree);
  told_are = c.told_of.ensures;
}
