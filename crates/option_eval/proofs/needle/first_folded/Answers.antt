-- Bytes that occur with case folded begin with the first letter in either
-- case, so between two places with such a letter they occur nowhere.
use Rattle.std.proofs.Common.{◌≡◌, true, arith, ◌+◌, subst}
use Rattle.std.proofs.lemmas.Bool.{false≢true}
use Rattle.option_eval.specs.Sets.{Occurs}
use Rattle.option_eval.proofs.Sets.Occurrences.{nowhere_folded, nowhere_joined}
use Rattle.option_eval.proofs.needle.first_folded.Goals as goal

pub returns-then-is_found_folded : goal.returns-then-is_found_folded
returns-then-is_found_folded c =
    let P = Occurs true c.args.payload.now c.args.bytes.now in
    let first = c.in-Some.ensures.0 in
    let low = first.low in
    let high = first.high in
    let between = nowhere_folded c.args.payload.now c.args.bytes.now _ _ c.to_ascii_lowercase-first.ensures.value c.to_ascii_uppercase-upper.ensures.value c.requires.some _ _ first.before in (
      record {
        low = omega arith;
        high = high;
        before = nowhere_joined P c.args.low c.loop-next.at c.in-Some.next c.loop-next.invariant.before between;
      },
      c.is_found_folded.ensures.0 c.if-is_found_folded.true,
    )

pub loop-next-preserved : goal.loop-next-preserved
loop-next-preserved c =
    let P = Occurs true c.args.payload.now c.args.bytes.now in
    let first = c.in-Some.ensures.0 in
    let low = first.low in
    let high = first.high in
    let between = nowhere_folded c.args.payload.now c.args.bytes.now _ _ c.to_ascii_lowercase-first.ensures.value c.to_ascii_uppercase-upper.ensures.value c.requires.some _ _ first.before in
    let upto = nowhere_joined P c.args.low c.loop-next.at c.in-Some.next c.loop-next.invariant.before between in
    record {
      low = omega arith;
      high = omega arith;
      before = nowhere_joined P c.args.low c.in-Some.next (c.in-Some.next + 1) upto
          (λ i from below here. let same : i ≡ c.in-Some.next = omega arith in false≢true (c.if-is_found_folded.ensures.1 (subst P same here)));
    }

pub returns : goal.returns
returns c =
    let P = Occurs true c.args.payload.now c.args.bytes.now in
    let after = nowhere_folded c.args.payload.now c.args.bytes.now _ _ c.to_ascii_lowercase-first.ensures.value c.to_ascii_uppercase-upper.ensures.value c.requires.some _ _ c.in_default.ensures in
    nowhere_joined P c.args.low c.loop-next.at c.args.end c.loop-next.invariant.before after
