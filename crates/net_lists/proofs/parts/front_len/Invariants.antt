-- No byte so far cuts: the length before the first that does is `len`
-- and what the rest has before its own, at the brackets' depth reached.
use Rattle.std.proofs.Common.{◌≡◌, ◌≤◌, ◌+◌, drop}
use Rattle.net_lists.specs.Cutting.{front_len}
use Rattle.net_lists.specs.Parted.{cuts}
use Rattle.net_lists.proofs.parts.front_len.Given as goal

abbrev pub invariant-loop-byte : goal.invariant-loop-byte
invariant-loop-byte l = record {
  place : l.len ≡ l.byte-index;
  shallow : l.depth ≤ l.byte-index;
  so_far : front_len (cuts l.cut) 0 l.text ≡ l.len + front_len (cuts l.cut) l.depth (drop l.len l.text);
}
