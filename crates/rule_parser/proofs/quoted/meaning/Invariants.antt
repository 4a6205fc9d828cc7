-- What was given, and then what the rest stands for, is what the text stands for.
use Rattle.std.proofs.Common.{◌≡◌, drop}
use Rattle.rule_parser.specs.declared.quoted.QuotedPlace.TheVariants.{Plain}
use Rattle.rule_parser.specs.Quotes.{meaning}
use Rattle.rule_parser.proofs.Quoting.{in_front}
use Rattle.rule_parser.proofs.quoted.meaning.Given as goal

abbrev pub invariant-loop-byte : goal.invariant-loop-byte
invariant-loop-byte l = meaning l.style Plain l.text ≡ in_front l.out.items (meaning l.style l.place (drop l.byte-index l.text))
