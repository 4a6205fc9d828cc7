-- A child that is met is written by its letter, and no other has that letter (`filling-more`); where the chain ends all are
-- written (`filling-end`).
use Rattle.std.proofs.Common.{◌≡◌, ◌-◌, min, set, List, ap, ◌∙◌, arith}
use Rattle.pattern_search.specs.declared.trie.TrieState.{TrieState}
use Rattle.pattern_search.specs.Words.{step_at}
use Rattle.pattern_search.proofs.States.Children.{filling-more, filling-end}
use Rattle.pattern_search.proofs.trie.Trie.put_children.Goals as goal

pub loop-at-preserved : goal.loop-at-preserved
loop-at-preserved c =
    let trie = c.args.self.now in
    let at = c.loop-at.at in
    let known : c.step_at-step.result ≡ step_at trie.steps.items (at - 1) = c.step_at-step.ensures ∙ ap (λ (ss : List TrieState). step_at ss (at - 1)) c.deref-in-loop-at.ensures.value in
    filling-more trie c.args.state at c.min-at.result c.loop-at.children c.write.new.numbers (omega arith) c.loop-at.invariant
    (c.min-at.ensures ∙ ap (λ (s : TrieState). min s.same (at - 1)) known)
    (c.write.ensures ∙ ap (λ (s : TrieState). set c.loop-at.children s.by at) known)

pub returns : goal.returns
returns c = filling-end c.args.self.now c.args.state c.loop-at.at c.loop-at.children c.loop-at.invariant (omega arith)
