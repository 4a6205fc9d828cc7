-- Each turn frees one of the spare nodes, so fewer are left.
use Rattle.std.proofs.Common.{vec_len}
use Rattle.piece_list.proofs.spare.free_rooms.Given as goal

abbrev pub decreases-loop-room : goal.decreases-loop-room
decreases-loop-room g l = vec_len l.spare
