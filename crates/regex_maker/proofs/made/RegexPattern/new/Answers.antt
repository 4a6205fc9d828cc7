-- Sieve and shelf are made of the same program that the pattern then has in its box, so what their contracts say of it holds
-- of the pattern's.
use Rattle.regex_maker.proofs.made.RegexPattern.new.Goals as goal

pub invariant_of-result : goal.invariant_of-result
invariant_of-result c = record {
  sifted = rw (c.in_ok-new-2.ensures.ok, c.in_ok-new.ensures.ok) c.in_ok-sieve.ensures;
  shelved = rw c.in_ok-new.ensures.ok c.in_ok-shelf.ensures;
}
