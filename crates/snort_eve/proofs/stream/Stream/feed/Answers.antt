-- The records taken from what waited and the piece split these bytes, what is after them waits, and the lines are those of
-- the events that they complete: `feed-step`.
use Rattle.std.proofs.Common.{◌∙◌, sym}
use Rattle.snort_eve.proofs.Recording.{feed-step}
use Rattle.snort_eve.proofs.stream.Stream.feed.Goals as goal

pub returns-clause-fed : goal.returns-clause-fed
returns-clause-fed g c =
    feed-step (g.T.Teller.line c.args.teller.now) c.args.self.now.rest.items c.args.piece.now c.in_ok-self-2.field-0.items c.deref.result.now c.deref-3.result.now
    c.args.self.now.held c.in_ok-self.field-0 _ _ _ _ c.deref-2.result.now c.in_ok-taken.taken.size
    (c.deref.ensures.value ∙ c.in_ok-extend_from_slice.ensures.items) c.new-entries.ensures.items c.in_ok-taken.ensures.taken c.deref-2.ensures.value
    (c.deref-3.ensures.value ∙ sym c.deref.ensures.value) c.in_ok-self-2.ensures.items c.in_ok-self.ensures.waits c.in_ok-self.ensures.written
