-- What is in the row still comes before what is in nodes, and each turn uses up one node.
use Rattle.std.proofs.Common.{◌≡◌, ◌+◌, ◌++◌, length, vec_capacity}
use Rattle.piece_list.proofs.few.move_all.Given as goal

abbrev pub invariant-loop-element : goal.invariant-loop-element
invariant-loop-element g l = record {
  all : l.row.items ++ l.linked.list ≡ l.fn.row.items;
  front : l.linked.place ≡ 0;
  nodes : l.linked.spare + length l.fn.row.items ≡ l.fn.linked.spare + length l.row.items;
  room : vec_capacity l.row ≡ vec_capacity l.fn.row;
}

abbrev pub decreases-loop-element : goal.decreases-loop-element
decreases-loop-element g l = length l.row.items
