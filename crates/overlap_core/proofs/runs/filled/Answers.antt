-- A piece that begins where the bytes so far end is copied to the places after them (`filling_more`); one that begins
-- elsewhere shows that a place has no byte (`none_here`).
use Rattle.std.proofs.Common.{◌≡◌, ◌+◌, ◌-◌, length, min, take, get_or, rules, ap, subst, sym, ◌∙◌, arith}
use borrow.Rule.Slice.PartMut.{put_mid}
use Rattle.std.proofs.lemmas.List.{get_or-take, length-take-le, places}
use Rattle.overlap_core.proofs.Joined.Filling.{filling_more, IsFilling, none_here, put_new, put_old, some_missing}
use Rattle.overlap_core.proofs.runs.filled.Goals as goal

pub returns-then-start-floor-clause-whole : goal.returns-then-start-floor-clause-whole
returns-then-start-floor-clause-whole c = λ top row.
    let now =
    subst (λ ps. IsFilling c.args.pieces.now.list ps c.args.floor c.loop-done.done (length c.loop-done.out) c.loop-done.out top)
    c.in-Some.ensures.steps (c.loop-done.invariant.filling top row) in
    let len : length c.loop-done.out ≡ length c.args.out.now = c.loop-done.auto.out in
    some_missing c.args.pieces.now.list c.args.floor (length c.args.out.now) c.loop-done.done
    (omega (arith, len, c.loop-done-test.true))
    (none_here c.args.pieces.now.list c.next.new.self c.in-Some.piece.now c.args.floor c.loop-done.done (length c.loop-done.out)
    c.loop-done.out top now c.loop-done-test.true
    (λ at. absurd (c.if-start-floor.true (c.start.ensures ∙ at))))

pub loop-done-preserved : goal.loop-done-preserved
loop-done-preserved c =
    let done = c.loop-done.done in
    let count = c.min-count.result in
    let out = c.loop-done.out in
    let new = c.copy_from_slice.new.self in
    let bytes : c.bytes-bytes.result.now ≡ c.in-Some.piece.now.bytes = c.bytes-bytes.ensures in
    let counted : count ≡ min (length c.in-Some.piece.now.bytes) (length out - done) =
    c.min-count.ensures ∙ ap (λ bs. min (length bs) (length out - done)) bytes in
    let same : new ≡ take count c.in-Some.piece.now.bytes = c.copy_from_slice.ensures.after ∙ ap (take count) bytes in
    let size : length new ≡ count = ap length same ∙ length-take-le count c.in-Some.piece.now.bytes (omega (arith, counted)) in
    let long : length (put_mid done (done + count - done) out new) ≡ length out = search (rules, places) in
    record {
      can = tt;
      finite = tt;
      within = omega (arith, long, counted, c.loop-done.invariant.within);
      filling = λ top row.
          let now =
          subst (λ ps. IsFilling c.args.pieces.now.list ps c.args.floor done (length out) out top)
          c.in-Some.ensures.steps (c.loop-done.invariant.filling top row) in
          filling_more c.args.pieces.now.list c.next.new.self c.in-Some.piece.now c.args.floor done (length out) count
          (length (put_mid done (done + count - done) out new)) out
          (put_mid done (done + count - done) out new) top now
          c.loop-done-test.true
          (sym c.start.ensures ∙ c.if-start-floor.false) counted long
          (λ k below. put_old done (done + count - done) out new k below c.loop-done.invariant.within)
          (λ k below. put_new done (done + count - done) out new k c.loop-done.invariant.within (omega (arith, size, below)) ∙
          ap (λ bs. get_or bs k 0) same ∙ get_or-take count c.in-Some.piece.now.bytes k 0 below);
    }
