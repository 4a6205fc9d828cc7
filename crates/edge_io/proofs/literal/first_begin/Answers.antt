-- The text begins at no place before `start`, so the first where
-- it does is the answer, and past the last place there is none.
use Rattle.std.proofs.Common.{◌≡◌, ℕ, ap, sym, ◌∙◌, false, true, drop, below_more, arith}
use Rattle.std.proofs.lemmas.List.{take_rest}
use Rattle.edge_io.specs.Matching.{begins}
use Rattle.edge_io.proofs.Places.{position_tails, position_tails_none}
use Rattle.edge_io.proofs.literal.first_begin.Goals as goal

pub returns-then-begins_with-clause-first : goal.returns-then-begins_with-clause-first
returns-then-begins_with-clause-first c =
    let bytes = c.args.bytes.now in
    let test = begins c.args.nocase c.args.text.now in
    let here : test (drop c.loop-start.start bytes) ≡ true = ap test (sym (take_rest bytes c.loop-start.start)) ∙ sym c.if-begins_with.ensures.test in
    sym (position_tails test bytes c.loop-start.start c.loop-start-test.true c.loop-start.invariant here)

pub returns-else-begins_with-clause-first : goal.returns-else-begins_with-clause-first
returns-else-begins_with-clause-first c =
    let bytes = c.args.bytes.now in
    let test = begins c.args.nocase c.args.text.now in
    let here : test (drop c.loop-start.start bytes) ≡ false = ap test (sym (take_rest bytes c.loop-start.start)) ∙ sym c.if-begins_with.ensures.test in
    let before = below_more (λ (k : ℕ). test (drop k bytes) ≡ false) c.loop-start.start c.loop-start.invariant here in
    sym (position_tails_none test bytes (λ k within. before k (omega arith)))
