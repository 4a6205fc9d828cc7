-- The room was reserved for just these bounds, so the pieces are cut and the buffers are there (`room_asked`), and what
-- `lay_over` makes is a row that holds what is chosen.
use Rattle.std.proofs.Common.{◌≡◌, Some, max, rules, ap, sym, subst, ◌∙◌}
use Rattle.overlap_core.specs.declared.segment.Bounds.{Bounds}
use Rattle.overlap_core.specs.Overlap.{bounds_of, covered_end, end_of}
use Rattle.overlap_core.specs.Pieces.{HoldChosen, IsRow}
use Rattle.overlap_core.specs.Segments.{Segment}
use Rattle.overlap_core.proofs.Rows.AtEnd.{asked, room_asked}
use Rattle.overlap_core.proofs.Segments.Ends.{covered_end-snoc}
use Rattle.overlap_core.proofs.queue.Queue.insert_reserved.Goals as goal

pub lay_over-requires : goal.lay_over-requires
lay_over-requires c =
    let q = c.self.inside in
    let value = c.take.ensures.value in
    let is = c.in-Some.is in
    let room_is : q.room ≡ Some c.in-Some.room = cc in
    let bounds = asked q c.args.self.now c.in-Some.room c.new-new.result c.self.view_is room_is (c.requires ∙ ap (λ (s : Segment). Some (bounds_of s)) (sym c.new-new.ensures)) in
    let ready = room_asked q.floor q.top q.pieces q.room c.in-Some.room c.new-new.result room_is bounds c.self.invariant.room in
    record { some = ready.0; room = (q.top, c.self.invariant.row, ready.1) }

pub invariant_of-self : goal.invariant_of-self
invariant_of-self c =
    let q = c.self.inside in
    let new = c.new-new.result in
    let value = c.take.ensures.value in
    let is = c.in-Some.is in
    let room_is : q.room ≡ Some c.in-Some.room = cc in
    let bounds =
    asked q c.args.self.now c.in-Some.room new c.self.view_is room_is
    (c.requires ∙ ap (λ (s : Segment). Some (bounds_of s)) (sym c.new-new.ensures)) in
    let top : c.max-self-inside.result ≡ max q.top (end_of new) =
    c.max-self-inside.ensures ∙ ap (λ (b : Bounds). max q.top b.end) bounds in
    record {
      row = subst (IsRow q.floor c.lay_over.new.pieces.list) (sym top) (c.lay_over.ensures.row q.top c.self.invariant.row);
      holds =
          subst (λ segments. HoldChosen q.preference segments q.floor c.lay_over.new.pieces.list)
          (sym c.with-self-inside.ensures)
          (c.lay_over.ensures.holds q.top q.arrivals.segments c.self.invariant.row c.self.invariant.holds);
      top =
          top
          ∙ ap (λ n. max n (end_of new)) c.self.invariant.top
          ∙ sym (ap (covered_end q.floor) c.with-self-inside.ensures ∙ covered_end-snoc q.floor q.arrivals.segments new);
      room = rw c.take.ensures.after (search rules);
    }
