-- From `firsts` on by `same` each child of the state is met, so where the chain ends without the letter no child has it
-- (`seek-end`).
use Rattle.std.proofs.Common.{◌≡◌, ◌-◌, min, List, sym, ap, ◌∙◌, arith}
use Rattle.pattern_search.specs.declared.trie.TrieState.{TrieState}
use Rattle.pattern_search.specs.Words.{step_at}
use Rattle.pattern_search.proofs.States.Children.{seek-more, seek-found, seek-end}
use Rattle.pattern_search.proofs.trie.Trie.found.Goals as goal

pub returns-then-step-letter : goal.returns-then-step-letter
returns-then-step-letter c =
    let trie = c.args.self.now in
    let at = c.loop-at.at in
    let known : c.step_at-step.result ≡ step_at trie.steps.items (at - 1) = c.step_at-step.ensures ∙ ap (λ (ss : List TrieState). step_at ss (at - 1)) c.deref-in-loop-at.ensures.value in
    seek-found trie c.args.state c.args.letter at (omega arith) c.loop-at.invariant (ap (λ (s : TrieState). s.by) (sym known) ∙ c.if-step-letter.true)

pub loop-at-preserved : goal.loop-at-preserved
loop-at-preserved c =
    let trie = c.args.self.now in
    let at = c.loop-at.at in
    let known : c.step_at-step.result ≡ step_at trie.steps.items (at - 1) =
    c.step_at-step.ensures ∙ ap (λ (ss : List TrieState). step_at ss (at - 1)) c.deref-in-loop-at.ensures.value in
    seek-more trie c.args.state c.args.letter at c.min-at.result (omega arith) c.loop-at.invariant
    (λ e. c.if-step-letter.false (ap (λ (s : TrieState). s.by) known ∙ e))
    (c.min-at.ensures ∙ ap (λ (s : TrieState). min s.same (at - 1)) known)

pub returns : goal.returns
returns c = seek-end c.args.self.now c.args.state c.args.letter c.loop-at.at c.loop-at.invariant (omega arith)
