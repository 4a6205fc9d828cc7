-- What `filled` says of the pieces' bytes holds of the chosen ones, for these are the same (`byte_in-chosen`).
use Rattle.std.proofs.Common.{length}
use Rattle.overlap_core.specs.Joined.{byte_in}
use Rattle.overlap_core.specs.Overlap.{chosen_byte}
use Rattle.overlap_core.proofs.Joined.Chosen.{byte_in-chosen, bytes-along, whole-along}
use Rattle.overlap_core.proofs.queue.Queue.fill.Goals as goal

pub returns-clause-whole : goal.returns-clause-whole
returns-clause-whole c =
    let q = c.self.inside in
    rw (← c.self.view_is)
    (whole-along (byte_in q.pieces.list) (chosen_byte q.preference q.arrivals.segments)
    q.floor (length c.args.out.now) c.filled.result
    (byte_in-chosen q.preference q.arrivals.segments q.floor q.pieces.list c.self.invariant.holds)
    (c.filled.ensures.whole q.top c.self.invariant.row))

pub returns-clause-bytes : goal.returns-clause-bytes
returns-clause-bytes c =
    let q = c.self.inside in
    rw (← c.self.view_is)
    (bytes-along (byte_in q.pieces.list) (chosen_byte q.preference q.arrivals.segments)
    q.floor c.filled.new.out c.filled.result
    (byte_in-chosen q.preference q.arrivals.segments q.floor q.pieces.list c.self.invariant.holds)
    (c.filled.ensures.bytes q.top c.self.invariant.row))
