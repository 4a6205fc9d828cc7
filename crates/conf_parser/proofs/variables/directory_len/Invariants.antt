-- No byte from `len` on is a slash, so what follows the last slash
-- is these bytes and what follows it before them; `len` falls.
use Rattle.std.proofs.Common.{◌≡◌, ◌≤◌, ◌+◌, ◌==◌, not, length, take}
use Rattle.std.specs.List.{suffix_len}
use Rattle.conf_parser.proofs.variables.directory_len.Given as goal

abbrev pub invariant-loop-len : goal.invariant-loop-len
invariant-loop-len l = record {
  within : l.len ≤ length l.file;
  so_far : l.len + suffix_len (λ byte. not (byte == 47)) l.file ≡ length l.file + suffix_len (λ byte. not (byte == 47)) (take l.len l.file);
}

abbrev pub decreases-loop-len : goal.decreases-loop-len
decreases-loop-len l = l.len
