-- No piece ends past the covered end, so a segment that begins there is laid over the row by being put at its end
-- (`laid_after`), and its own end is the greatest.
use Rattle.std.proofs.Common.{◌≡◌, ◌<◌, ◌≤◌, length, max, rules, ap, sym, subst, ◌∙◌, arith}
use Rattle.overlap_core.specs.declared.segment.Bounds.{Bounds}
use Rattle.overlap_core.specs.Overlap.{covered_end, end_of}
use Rattle.overlap_core.specs.Pieces.{HoldChosen, IsRow}
use Rattle.overlap_core.specs.QueueState.{QueueState}
use Rattle.overlap_core.specs.Segments.{Segment}
use Rattle.overlap_core.proofs.Rows.AtEnd.{laid_after}
use Rattle.overlap_core.proofs.Segments.Ends.{covered_end-snoc}
use Rattle.overlap_core.proofs.Rows.Overlaying.{laid_over-holds, laid_over-row}
use Rattle.overlap_core.proofs.queue.Queue.insert_after.Goals as goal

pub invariant_of-self-2 : goal.invariant_of-self-2
invariant_of-self-2 c =
    let q = c.self.inside in
    let new = c.new-new.result in
    let start : new.start ≡ c.args.start = ap (λ (s : Segment). s.start) c.new-new.ensures in
    let some : 0 < length new.bytes = subst (λ (s : Segment). 0 < length s.bytes) (sym c.new-new.ensures) c.requires.some in
    let covered : covered_end q.floor q.arrivals.segments ≤ c.args.start = subst (λ (s : QueueState). covered_end s.floor s.segments ≤ c.args.start) (sym c.self.view_is) c.requires.after in
    let after : q.top ≤ new.start = omega (arith, covered, c.self.invariant.top, start) in
    let made = laid_after q.preference new q.floor q.top q.pieces.list c.add_after.new.pieces.list c.self.invariant.row after some c.in_ok-add_after.ensures.ok in
    let end_is : c.bounds.result.end ≡ end_of new = ap (λ (b : Bounds). b.end) c.bounds.ensures in
    let top : c.bounds.result.end ≡ max q.top (end_of new) = omega (arith, end_is, after) in
    record {
      row = subst (IsRow q.floor c.add_after.new.pieces.list) (sym top) (laid_over-row q.preference new q.floor q.top q.pieces.list c.add_after.new.pieces.list made c.self.invariant.row);
      holds = subst (λ segments. HoldChosen q.preference segments q.floor c.add_after.new.pieces.list) (sym c.with-self-inside.ensures)
          (laid_over-holds q.preference new q.arrivals.segments q.floor q.top q.pieces.list c.add_after.new.pieces.list made c.self.invariant.row c.self.invariant.holds);
      top = top ∙ ap (λ n. max n (end_of new)) c.self.invariant.top ∙ sym (ap (covered_end q.floor) c.with-self-inside.ensures ∙ covered_end-snoc q.floor q.arrivals.segments new);
      room = search rules;
    }
