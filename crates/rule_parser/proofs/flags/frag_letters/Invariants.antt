-- The letters so far and the rest give what the text gives.
use Rattle.std.proofs.Common.{◌≡◌, ◌+◌, length, drop}
use Rattle.rule_parser.specs.Flags.{no_letters, frag_letters}
use Rattle.rule_parser.proofs.flags.frag_letters.Given as goal

abbrev pub invariant-loop-byte : goal.invariant-loop-byte
invariant-loop-byte l = record {
  counted : l.left + l.byte-index ≡ length l.text;
  so_far : frag_letters (record no_letters { mode = l.fn.mode }) l.text ≡ frag_letters l.letters (drop l.byte-index l.text);
}
