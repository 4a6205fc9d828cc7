-- All bytes from `len` on are blanks, so the blanks at the text's
-- end are these and those at the end of what is before; `len` falls.
use Rattle.std.proofs.Common.{◌≡◌, ◌≤◌, ◌+◌, length, take}
use Rattle.std.specs.List.{suffix_len}
use Rattle.edge_io.specs.Bytes.{is_blank}
use Rattle.net_lists.proofs.blank.closed_len.Given as goal

abbrev pub invariant-loop-len : goal.invariant-loop-len
invariant-loop-len l = record {
  within : l.len ≤ length l.text;
  so_far : l.len + suffix_len is_blank l.text ≡ length l.text + suffix_len is_blank (take l.len l.text);
}

abbrev pub decreases-loop-len : goal.decreases-loop-len
decreases-loop-len l = l.len
