-- There are as many nodes more as there were turns, and the vector's room is no less than it was.
use Rattle.std.proofs.Common.{◌≡◌, ◌+◌, ◌≤◌, vec_capacity, vec_len}
use Rattle.piece_list.proofs.spare.add_rooms.Given as goal

abbrev pub invariant-loop-room : goal.invariant-loop-room
invariant-loop-room g l = (vec_len l.spare ≡ vec_len l.fn.spare + l._room) × (vec_capacity l.fn.spare ≤ vec_capacity l.spare)
