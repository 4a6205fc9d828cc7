-- What comes before the rest has no closing quote.
use Rattle.std.proofs.Common.{◌≡◌, false, drop}
use Rattle.rule_parser.specs.Quotes.{closing_len}
use Rattle.rule_parser.proofs.Quoting.{shifted}
use Rattle.rule_parser.proofs.quoted.closing_len.Given as goal

abbrev pub invariant-loop-byte : goal.invariant-loop-byte
invariant-loop-byte l = record {
  place : l.len ≡ l.byte-index;
  so_far : closing_len false l.text ≡ shifted l.len (closing_len l.escaped (drop l.len l.text));
}
