-- What is laid so far, with what laying the rest will give, is the whole (`laying_more`); at the first piece past the
-- segment's end only the last gap is left (`laying_end`).
use Rattle.std.proofs.Common.{◌≡◌, ◌++◌, ℕ, [], Some, ap, ◌∙◌, sym, subst, append-nil}
use Rattle.overlap_core.specs.declared.segment.Bounds.{Bounds}
use Rattle.overlap_core.specs.Overlap.{end_of}
use Rattle.overlap_core.specs.Rows.{gap_piece, gap_size, laid, NextBelow, Between}
use Rattle.overlap_core.proofs.Rows.Laying.{gap_sizes-end, laying-begins, laying_end, laying_more, laying_smaller, sizes_left}
use Rattle.overlap_core.proofs.row.lay.Goals as goal

pub loop-next-init : goal.loop-next-init
loop-next-init c = λ front rest between. laying-begins c.args.pieces.now c.args.buffers.items c.args.preference c.args.new.now c.args.low front rest c.requires.ready c.requires.from between

pub fill_gap-requires-clause-from : goal.fill_gap-requires-clause-from
fill_gap-requires-clause-from c = (c.loop-next.invariant c.requires.ready.front c.requires.ready.rest c.requires.ready.between).from

pub fill_gap-requires-clause-ready : goal.fill_gap-requires-clause-ready
fill_gap-requires-clause-ready c =
    let now = c.loop-next.invariant c.requires.ready.front c.requires.ready.rest c.requires.ready.between in
    let high : c.bounds-high.result.end ≡ end_of c.args.new.now = ap (λ (b : Bounds). b.end) c.bounds-high.ensures in
    let next = rw high at (c.in-Some.ensures.next now.ready.front now.ready.rest now.ready.between) in
    let left = sizes_left c.loop-next.low (end_of c.args.new.now) c.in-Some.next now.ready.rest next in
    (left.0, now.ready.sizes ∙ left.1)

pub loop-next-smaller : goal.loop-next-smaller
loop-next-smaller c =
    let now = c.loop-next.invariant c.requires.ready.front c.requires.ready.rest c.requires.ready.between in
    laying_smaller c.loop-next.pieces c.fill_gap.new.pieces c.overlay.new.pieces c.args.new.now c.loop-next.low
    c.bounds-high.result.end c.in-Some.next now.ready.front now.ready.rest c.args.preference now.ready.between
    (c.in-Some.ensures.next now.ready.front now.ready.rest now.ready.between) c.fill_gap.ensures.list c.overlay.ensures.list

pub loop-next-preserved : goal.loop-next-preserved
loop-next-preserved c = λ front rest between.
    let now = c.loop-next.invariant front rest between in
    let high : c.bounds-high.result.end ≡ end_of c.args.new.now = ap (λ (b : Bounds). b.end) c.bounds-high.ensures in
    let next : NextBelow now.ready.rest (end_of c.args.new.now) (Some c.in-Some.next) = rw high at (c.in-Some.ensures.next now.ready.front now.ready.rest now.ready.between) in
    laying_more c.loop-next.pieces c.fill_gap.new.pieces c.overlay.new.pieces c.loop-next.buffers.items c.fill_gap.new.buffers.items c.args.preference c.args.new.now c.loop-next.low c.in-Some.next
    (front ++ laid c.args.preference c.args.new.now c.args.low rest) now next c.fill_gap.ensures.list c.fill_gap.ensures.sizes c.fill_gap.ensures.left c.overlay.ensures.list c.overlay.ensures.spare

pub fill_gap-requires-2-clause-from : goal.fill_gap-requires-2-clause-from
fill_gap-requires-2-clause-from c = (c.loop-next.invariant c.requires.ready.front c.requires.ready.rest c.requires.ready.between).from

pub fill_gap-requires-2-clause-ready : goal.fill_gap-requires-2-clause-ready
fill_gap-requires-2-clause-ready c =
    let now = c.loop-next.invariant c.requires.ready.front c.requires.ready.rest c.requires.ready.between in
    let high : c.bounds-high.result.end ≡ end_of c.args.new.now = ap (λ (b : Bounds). b.end) c.bounds-high.ensures in
    let next = rw high at (rw c.in_default.is at (c.next_below.ensures.next now.ready.front now.ready.rest now.ready.between)) in (
      [],
      now.ready.sizes
          ∙ gap_sizes-end c.loop-next.low (end_of c.args.new.now) now.ready.top now.ready.rest next now.ready.row
          ∙ ap (gap_size c.loop-next.low) (sym high)
          ∙ sym (append-nil (gap_size c.loop-next.low c.bounds-high.result.end)),
    )

pub returns : goal.returns
returns c = λ front rest between.
    let now = c.loop-next.invariant front rest between in
    let high : c.bounds-high.result.end ≡ end_of c.args.new.now = ap (λ (b : Bounds). b.end) c.bounds-high.ensures in
    let next = rw high at (rw c.in_default.is at (c.next_below.ensures.next now.ready.front now.ready.rest now.ready.between)) in
    laying_end c.loop-next.pieces c.fill_gap-2.new.pieces c.loop-next.buffers.items c.args.preference c.args.new.now
    c.loop-next.low (front ++ laid c.args.preference c.args.new.now c.args.low rest) now next
    (λ f r at. subst (λ (n : ℕ). Between c.fill_gap-2.new.pieces (f ++ gap_piece c.args.new.now c.loop-next.low n) r) high
    (c.fill_gap-2.ensures.list f r at))
