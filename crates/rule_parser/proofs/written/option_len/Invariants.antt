-- What comes before the rest ends no option.
use Rattle.std.proofs.Common.{◌≡◌, drop}
use Rattle.rule_parser.specs.Written.{outside, option_len}
use Rattle.rule_parser.proofs.Quoting.{shifted}
use Rattle.rule_parser.proofs.written.option_len.Given as goal

abbrev pub invariant-loop-byte : goal.invariant-loop-byte
invariant-loop-byte l = record {
  place : l.len ≡ l.byte-index;
  so_far : option_len outside l.text ≡ shifted l.len (option_len l.at (drop l.len l.text));
}
