-- The bytes of the pieces are the chosen ones (`byte_in-chosen`), so what `append_places` says of the pieces holds of what
-- the host keeps.
use Rattle.std.proofs.Common.{true}
use Rattle.overlap_core.specs.Joined.{byte_in}
use Rattle.overlap_core.specs.Overlap.{chosen_byte}
use Rattle.overlap_core.proofs.Joined.Chosen.{appends_bytes-along, byte_in-chosen, whole-along}
use Rattle.overlap_core.proofs.queue.Queue.append_to.Goals as goal

pub returns-then-append_places-clause-whole : goal.returns-then-append_places-clause-whole
returns-then-append_places-clause-whole c =
    let q = c.self.inside in
    rw (← c.self.view_is)
    (whole-along (byte_in q.pieces.list) (chosen_byte q.preference q.arrivals.segments)
    q.floor c.args.len _
    (byte_in-chosen q.preference q.arrivals.segments q.floor q.pieces.list c.self.invariant.holds)
    (c.if-append_places.ensures.whole q.top c.self.invariant.row))

pub returns-then-append_places-clause-bytes : goal.returns-then-append_places-clause-bytes
returns-then-append_places-clause-bytes c =
    let q = c.self.inside in
    rw (← c.self.view_is)
    (appends_bytes-along (byte_in q.pieces.list) (chosen_byte q.preference q.arrivals.segments)
    q.floor c.args.len c.args.out.now.items c.append_places.new.out.items true
    (byte_in-chosen q.preference q.arrivals.segments q.floor q.pieces.list c.self.invariant.holds)
    (c.if-append_places.ensures.bytes q.top c.self.invariant.row))

pub returns-clause-whole : goal.returns-clause-whole
returns-clause-whole c =
    let q = c.self.inside in
    rw (← c.self.view_is)
    (whole-along (byte_in q.pieces.list) (chosen_byte q.preference q.arrivals.segments)
    q.floor c.args.len _
    (byte_in-chosen q.preference q.arrivals.segments q.floor q.pieces.list c.self.invariant.holds)
    (c.if-append_places.ensures.whole q.top c.self.invariant.row))
