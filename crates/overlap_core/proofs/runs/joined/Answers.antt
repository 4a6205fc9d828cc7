-- A piece that begins below the limit adds its bytes to the runs (`joining_more`); at the first one that doesn't, or after
-- the last, the runs are whole (`joining_past`, `joining_out`).
use Rattle.std.proofs.Common.{◌<◌, ◌≤◌, ap, subst, ◌∙◌}
use Rattle.overlap_core.specs.Joined.{with_run}
use Rattle.overlap_core.proofs.Joined.Joining.{IsJoining, joining_more, joining_out, joining_past}
use Rattle.overlap_core.proofs.runs.joined.Goals as goal

pub returns-then-below-start : goal.returns-then-below-start
returns-then-below-start c = λ floor top row order.
    joining_past c.args.pieces.now.list c.loop-piece.rest c.next.new.self c.in-Some.piece.now c.loop-piece.runs.items floor
    c.args.below top (c.loop-piece.invariant.runs floor top row order)
    c.in-Some.ensures.steps
    (subst (λ n. c.args.below ≤ n) c.start.ensures c.if-below-start.true)

pub loop-piece-preserved : goal.loop-piece-preserved
loop-piece-preserved c = record {
  can = tt;
  finite = tt;
  runs = λ floor top row order.
      let now =
      subst (λ ps. IsJoining c.args.pieces.now.list ps c.loop-piece.runs.items floor c.args.below top)
      c.in-Some.ensures.steps
      (c.loop-piece.invariant.runs floor top row order) in
      joining_more c.args.pieces.now.list c.next.new.self c.in-Some.piece.now c.loop-piece.runs.items c.add_run.new.runs.items
      floor c.args.below top now (subst (λ n. n < c.args.below) c.start.ensures c.if-below-start.false)
      (c.in_ok-add_run.ensures ∙
      ap (λ n. with_run c.loop-piece.runs.items n c.bytes_below-bytes.result.now) c.start-in-Some.ensures ∙
      ap (with_run c.loop-piece.runs.items c.in-Some.piece.now.start) c.bytes_below-bytes.ensures);
}

pub returns : goal.returns
returns c = λ floor top row order.
    joining_out c.args.pieces.now.list c.loop-piece.rest c.loop-piece.runs.items floor c.args.below top (c.loop-piece.invariant.runs floor top row order) c.in_default.ensures.steps.0
