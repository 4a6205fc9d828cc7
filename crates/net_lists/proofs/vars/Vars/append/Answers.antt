-- The expansion is what was appended so far, and the pieces from `place` on in the
-- room left: one that is too long, a variable that lacks or the text's end decides it.
use Rattle.std.proofs.Common.{◌≡◌, ◌∙◌, ◌++◌, ◌-◌, length, drop, vec_len, sym, ap, arith}
use Rattle.net_lists.specs.Expansion.{expansion, with_front, put_together, pieces}
use Rattle.net_lists.proofs.Variables.Appended.{fits_after, long_at, missing_at, ends_at, front_after, kept_after}
use Rattle.net_lists.proofs.vars.Vars.append.Goals as goal

pub returns-then-bytes-room-clause-expanded : goal.returns-then-bytes-room-clause-expanded
unfolding expansion
returns-then-bytes-room-clause-expanded c =
    let piece = c.in-Ok.ensures.piece in
    long_at c.args.self.now c.args.text.now _ _ c.loop-place.place c.loop-place.room c.loop-place.invariant.so_far c.in-Ok.bytes.now c.in-Ok.next piece.2 c.if-bytes-room.true

pub returns-in-Err-clause-expanded : goal.returns-in-Err-clause-expanded
unfolding expansion
returns-in-Err-clause-expanded c =
    let piece = c.in-Err.ensures.piece in
    missing_at c.args.self.now c.args.text.now _ _ c.loop-place.place c.loop-place.room c.loop-place.invariant.so_far c.in-Err.span piece.0 piece.1

pub returns-clause-expanded : goal.returns-clause-expanded
unfolding expansion
returns-clause-expanded c =
    ends_at c.args.self.now c.args.text.now _ _ c.loop-place.place c.loop-place.room c.loop-place.invariant.so_far c.loop-place-test.false

pub loop-place-preserved : goal.loop-place-preserved
loop-place-preserved c =
    let piece = c.in-Ok.ensures.piece in
    let old = c.args.out.now.items in
    let now = c.loop-place.out.items in
    let after = c.extend_from_slice.new.self.items in
    let n = vec_len c.args.out.now in
    let e : length old ≡ n = omega (arith, c.args.out.now.ok.0) in
    let more : after ≡ now ++ c.in-Ok.bytes.now = c.in_ok-extend_from_slice-in-Ok.ensures.items in
    record {
      within = piece.1;
      kept = kept_after old now after c.in-Ok.bytes.now n e c.loop-place.invariant.kept more;
      so_far =
          fits_after c.args.self.now c.args.text.now _ _ c.loop-place.place c.loop-place.room c.loop-place.invariant.so_far
          c.in-Ok.bytes.now c.in-Ok.next piece.2 c.if-bytes-room.false
          ∙ ap (λ front. with_front front
          (put_together (c.loop-place.room - length c.in-Ok.bytes.now)
          (pieces c.args.self.now c.args.text.now c.in-Ok.next 0 (drop c.in-Ok.next c.args.text.now))))
          (sym (front_after old now after c.in-Ok.bytes.now n e c.loop-place.invariant.kept more));
    }
