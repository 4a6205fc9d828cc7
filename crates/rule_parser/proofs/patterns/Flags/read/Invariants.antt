-- The flags so far and the letters that are left give what all letters give.
use Rattle.std.proofs.Common.{◌≡◌, drop}
use Rattle.rule_parser.specs.Patterns.{no_flags, flags_of}
use Rattle.rule_parser.proofs.patterns.Flags.read.Given as goal

abbrev pub invariant-loop-letter : goal.invariant-loop-letter
invariant-loop-letter l = flags_of no_flags l.letters ≡ flags_of l.flags (drop l.letter-index l.letters)
