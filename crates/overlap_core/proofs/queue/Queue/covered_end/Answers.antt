-- The end that is kept beside the pieces is `covered_end` by the invariant, and so the greatest of the floor and all ends
-- (`covered_end-is`).
use Rattle.overlap_core.proofs.Segments.Ends.{covered_end-is}
use Rattle.overlap_core.proofs.queue.Queue.covered_end.Goals as goal

pub returns-clause-greatest : goal.returns-clause-greatest
returns-clause-greatest c = rw (← c.self.view_is) (covered_end-is c.self.inside.floor c.self.inside.arrivals.segments c.self.inside.top c.self.invariant.top)
