-- A piece that begins where the bytes so far end has the next ones (`filling_appended`); one that begins elsewhere shows
-- that this place has none (`none_here`).
use Rattle.std.proofs.Common.{◌≡◌, ◌-◌, ◌++◌, length, min, take, ap, sym, subst, ◌∙◌, append_assoc, length-append, arith}
use Rattle.std.proofs.lemmas.List.{length-take-le}
use Rattle.overlap_core.proofs.Joined.Filling.{filling_appended, IsFilling, none_here, some_missing}
use Rattle.overlap_core.proofs.runs.append_places.Goals as goal

pub returns-then-start-place-clause-whole : goal.returns-then-start-place-clause-whole
returns-then-start-place-clause-whole c = λ top row.
    let past = c.loop-done.invariant.bytes in
    let now = subst (λ ps. IsFilling c.args.pieces.now.list ps c.args.floor c.loop-done.done c.args.len past top) c.in-Some.ensures.steps (c.loop-done.invariant.filling top row) in
    some_missing c.args.pieces.now.list c.args.floor c.args.len c.loop-done.done c.loop-done-test.true
    (none_here c.args.pieces.now.list c.next.new.self c.in-Some.piece.now c.args.floor c.loop-done.done c.args.len past top now c.loop-done-test.true
    (λ at. absurd (c.if-start-place.true (c.start.ensures ∙ at))))

pub loop-done-preserved : goal.loop-done-preserved
loop-done-preserved c =
    let done = c.loop-done.done in
    let past = c.loop-done.invariant.bytes in
    let count = c.min-count.result in
    let new = take count c.in-Some.piece.now.bytes in
    let bytes : c.bytes-bytes.result.now ≡ c.in-Some.piece.now.bytes = c.bytes-bytes.ensures in
    let counted : count ≡ min (length c.in-Some.piece.now.bytes) (c.args.len - done) =
    c.min-count.ensures ∙ ap (λ bs. min (length bs) (c.args.len - done)) bytes in
    let size : length new ≡ count = length-take-le count c.in-Some.piece.now.bytes (omega (arith, counted)) in
    let added : c.append.new.out.items ≡ c.loop-done.out.items ++ new =
    c.append.ensures.items ∙ ap (λ bs. c.loop-done.out.items ++ take count bs) bytes in
    let longer : length (take count c.bytes-bytes.result.now) ≡ count = ap (λ bs. length (take count bs)) bytes ∙ size in
    record {
      can = tt;
      finite = tt;
      bytes = past ++ new;
      items = added ∙ ap (λ front. front ++ new) c.loop-done.invariant.items ∙ append_assoc c.args.out.now.items past new;
      passed = omega (arith, c.loop-done.invariant.passed, length-append past new, size);
      within = omega (arith, c.loop-done.invariant.within, counted);
      longer = omega (arith, c.loop-done.invariant.longer, c.append.ensures.len, longer);
      room = omega (arith, c.loop-done.invariant.room, c.append.ensures.room);
      filling = λ top row.
          let now =
          subst (λ ps. IsFilling c.args.pieces.now.list ps c.args.floor done c.args.len past top)
          c.in-Some.ensures.steps (c.loop-done.invariant.filling top row) in
          filling_appended c.args.pieces.now.list c.next.new.self c.in-Some.piece.now c.args.floor done c.args.len count past top
          now c.loop-done.invariant.passed c.loop-done-test.true (sym c.start.ensures ∙ c.if-start-place.false) counted;
    }
