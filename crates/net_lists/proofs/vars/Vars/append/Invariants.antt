-- What was appended so far, and then the expansion of the rest, is the whole expansion.
use Rattle.std.proofs.Common.{◌≡◌, ◌-◌, ◌≤◌, ◌++◌, length, drop, vec_len}
use Rattle.net_lists.specs.Expansion.{pieces, put_together, with_front}
use Rattle.net_lists.proofs.vars.Vars.append.Given as goal

abbrev pub invariant-loop-place : goal.invariant-loop-place
invariant-loop-place l = record {
  within : l.place ≤ length l.text;
  kept : l.out.items ≡ l.fn.out.items ++ drop (vec_len l.fn.out) l.out.items;
  so_far : put_together 65536 (pieces l.self l.text 0 0 l.text) ≡ with_front (drop (vec_len l.fn.out) l.out.items) (put_together l.room (pieces l.self l.text l.place 0 (drop l.place l.text)));
}

abbrev pub decreases-loop-place : goal.decreases-loop-place
decreases-loop-place l = length l.text - l.place
