-- The records that end at `place` were added; each has bytes, so the place
-- rises, and where no record begins the bytes are bad from there on.
use Rattle.std.proofs.Common.{◌∙◌, ap, take, length, arith}
use Rattle.unified2_out.proofs.Walks.{front-size, walk-start, walk-step, walk-bad, walk-kept}
use Rattle.unified2_out.proofs.read.push_records.Goals as goal

pub loop-place-init : goal.loop-place-init
loop-place-init c = walk-start c.args.bytes.now c.args.out.now.items

pub loop-place-smaller : goal.loop-place-smaller
loop-place-smaller c =
    let size = front-size _ _ _ c.in-Some.size (rw c.in-Some.is at c.in_ok-size.ensures.found) in
    let inside = c.loop-place-test.true in
    omega (arith, size, inside)

pub loop-place-preserved : goal.loop-place-preserved
loop-place-preserved c =
    walk-step c.args.bytes.now c.args.out.now.items c.loop-place.out.items c.push_front.new.out.items c.loop-place.place
    c.in-Some.size c.loop-place.invariant (rw c.in-Some.is at c.in_ok-size.ensures.found)

pub returns-in-None-clause-refused : goal.returns-in-None-clause-refused
returns-in-None-clause-refused c =
    walk-bad c.args.bytes.now c.args.out.now.items c.loop-place.out.items c.loop-place.place c.loop-place.invariant c.loop-place-test.true (rw c.in-None.is at c.in_ok-size.ensures.found)

pub returns-in-None-clause-kept : goal.returns-in-None-clause-kept
returns-in-None-clause-kept c =
    ap (take (length c.args.out.now.items)) (rw c.in-None.is at c.in_ok-size.ensures.none)
    ∙ walk-kept c.args.bytes.now c.args.out.now.items c.loop-place.out.items c.loop-place.place c.loop-place.invariant
