-- A turn makes the buffer for the gap before one more piece (`buffers_more`), and leaves fewer pieces; the last buffer is
-- for the gap up to the segment's end (`buffers_end`).
use Rattle.std.proofs.Common.{length, map, ap, ◌∙◌}
use Rattle.overlap_core.proofs.Rows.Places.{smaller_next}
use Rattle.overlap_core.proofs.Rows.Laying.{buffers_end, buffers_more}
use Rattle.overlap_core.specs.Rows.{gap_sizes}
use Rattle.overlap_core.proofs.row.buffers_for.Goals as goal

pub loop-next-smaller : goal.loop-next-smaller
loop-next-smaller c = smaller_next c.loop-next.pieces c.next.new.self c.next.result c.in-Some.ensures.here c.next.ensures.moved c.next.ensures.place

pub loop-next-preserved : goal.loop-next-preserved
loop-next-preserved c = record {
  list = ap (λ p. p.list) c.next.ensures.place ∙ c.loop-next.invariant.list;
  sizes = λ front rest top between row.
      let walk = c.loop-next.invariant.sizes front rest top between row in
      buffers_more c.loop-next.low c.args.high top c.loop-next.pieces c.next.new.self c.next.result c.in-Some.next
      (map length c.loop-next.buffers.items) (map length c.add_buffer.new.buffers.items)
      (gap_sizes c.args.low c.args.high rest) walk
      (c.in-Some.ensures.next walk.front walk.rest walk.between)
      c.next.ensures.moved c.next.ensures.place c.in_ok-add_buffer.ensures;
}

pub returns-clause-sizes : goal.returns-clause-sizes
returns-clause-sizes c = λ front rest top between row.
    let walk = c.loop-next.invariant.sizes front rest top between row in
    buffers_end c.loop-next.low c.args.high top c.loop-next.pieces (map length c.loop-next.buffers.items) (map length c.add_buffer-2.new.buffers.items) (gap_sizes c.args.low c.args.high rest) walk
    (rw c.in_default.is at (c.next_below.ensures.next walk.front walk.rest walk.between)) c.in_ok-add_buffer-2.ensures
