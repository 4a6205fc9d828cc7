-- The way back along the fails ends at a state that is longer by the letter, to which the move is (`back-child`), or at one
-- with a row, which has the move (`back-row`).
use Rattle.std.proofs.Common.{ℕ, ◌+◌, ◌*◌, List, slice_index, ap, subst, ◌∙◌, arith}
use Rattle.pattern_search.specs.Moves.{Reaches}
use Rattle.pattern_search.proofs.States.Stepping.{back-child, back-row}
use Rattle.pattern_search.proofs.automaton.Automaton.step_back.Goals as goal

pub returns-then-reached-ne0 : goal.returns-then-reached-ne0
returns-then-reached-ne0 c =
    let automaton = c.args.self.now in
    let reached = c.reach-reached.result in
    let P : List ℕ → Type 0 = λ fs. Reaches automaton.trie fs automaton.dense c.args.state c.args.letter reached in
    back-child automaton c.args.state c.args.letter reached c.read.result (subst P c.deref.ensures.value c.reach-reached.ensures)
    c.if-reached-ne0.true
    (c.read.ensures ∙ ap (λ (xs : List ℕ). slice_index xs reached.child) c.deref-then-reached-ne0.ensures.value)

pub returns : goal.returns
returns c =
    let automaton = c.args.self.now in
    let reached = c.reach-reached.result in
    let P : List ℕ → Type 0 = λ fs. Reaches automaton.trie fs automaton.dense c.args.state c.args.letter reached in
    back-row automaton c.args.state c.args.letter reached c.read-2.result (subst P c.deref.ensures.value c.reach-reached.ensures)
    (omega arith)
    (c.read-2.ensures ∙ ap (slice_index c.deref-2.result.now) c.place.ensures ∙
    ap (λ (xs : List ℕ). slice_index xs (reached.state * automaton.trie.width + c.args.letter)) c.deref-2.ensures.value)
