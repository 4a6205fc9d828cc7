-- From the floor on the pieces' byte at a place is the chosen one (`byte_in-chosen`), which is there exactly where a segment
-- covers the place.
use Rattle.std.proofs.Common.{◌∙◌}
use Rattle.overlap_core.specs.Overlap.{chosen_byte}
use Rattle.overlap_core.proofs.Joined.Chosen.{byte_from, byte_in-chosen}
use Rattle.overlap_core.proofs.Segments.Covered.{byte-is_some}
use Rattle.overlap_core.proofs.queue.Queue.byte.Goals as goal

pub returns-clause-value : goal.returns-clause-value
returns-clause-value c =
    let q = c.self.inside in
    rw (← c.self.view_is)
    (byte_from q.floor c.args.place (chosen_byte q.preference q.arrivals.segments c.args.place) c.byte_of.result c.if-place-self.false
    (c.byte_of.ensures ∙ byte_in-chosen q.preference q.arrivals.segments q.floor q.pieces.list c.self.invariant.holds c.args.place c.if-place-self.false))

pub returns-clause-some : goal.returns-clause-some
returns-clause-some c =
    let q = c.self.inside in
    rw (← c.self.view_is)
    (byte-is_some q.preference q.arrivals.segments q.floor c.args.place c.byte_of.result
    (c.byte_of.ensures ∙
    byte_in-chosen q.preference q.arrivals.segments q.floor q.pieces.list c.self.invariant.holds c.args.place
    c.if-place-self.false)
    c.if-place-self.false)
