-- The letters so far and the rest give what the text gives.
use Rattle.std.proofs.Common.{◌≡◌, drop}
use Rattle.rule_parser.specs.Flags.{no_letters, flag_letters}
use Rattle.rule_parser.proofs.flags.flag_letters.Given as goal

abbrev pub invariant-loop-byte : goal.invariant-loop-byte
invariant-loop-byte l = flag_letters l.signs no_letters l.text ≡ flag_letters l.signs l.letters (drop l.byte-index l.text)
