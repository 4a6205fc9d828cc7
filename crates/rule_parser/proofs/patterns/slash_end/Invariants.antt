-- No `/` comes after the bytes that are left.
use Rattle.std.proofs.Common.{◌≡◌, ◌≤◌, ◌+◌, length, take}
use Rattle.std.specs.List.{suffix_len}
use Rattle.rule_parser.specs.Patterns.{is_no_slash}
use Rattle.rule_parser.proofs.patterns.slash_end.Given as goal

abbrev pub invariant-loop-len : goal.invariant-loop-len
invariant-loop-len l = record {
  within : l.len ≤ length l.text;
  so_far : l.len + suffix_len is_no_slash l.text ≡ length l.text + suffix_len is_no_slash (take l.len l.text);
}

abbrev pub decreases-loop-len : goal.decreases-loop-len
decreases-loop-len l = l.len
