-- What the options read so far have made, and then the options that are left, is what all of them make.
use Rattle.std.proofs.Common.{◌≡◌, ◌+◌, length}
use Rattle.rule_parser.specs.Bits.{Begins}
use Rattle.rule_parser.specs.Drafts.{empty_draft}
use Rattle.rule_parser.specs.RuleLine.{rule_options}
use Rattle.rule_parser.specs.Written.{outside, option_texts}
use Rattle.rule_parser.proofs.line.read_options.Given as goal

abbrev pub invariant-loop-text : goal.invariant-loop-text
invariant-loop-text l = record {
  so_far : rule_options l.classes l.fn.bits empty_draft (length l.inside + 1) (option_texts outside l.inside) ≡ rule_options l.classes l.bits l.draft (length l.rest + 1) (option_texts outside l.rest);
  begins : Begins l.fn.bits l.bits;
}

abbrev pub decreases-loop-text : goal.decreases-loop-text
decreases-loop-text l = length l.rest
