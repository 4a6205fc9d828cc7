-- A word of one letter fails to the empty one; a longer one fails to where its last letter leads from the fail of the word
-- without it (`fails-move-by`).
use Rattle.std.proofs.Common.{◌≡◌, ◌-◌, List, ap, ◌∙◌}
use Rattle.pattern_search.specs.declared.trie.TrieState.{TrieState}
use Rattle.pattern_search.specs.Words.{step_at}
use Rattle.pattern_search.proofs.States.Moving.{fails-first-by, fails-move-by}
use Rattle.pattern_search.proofs.moves.fail_of.Goals as goal

pub returns-then-step-eq0 : goal.returns-then-step-eq0
returns-then-step-eq0 c =
    let trie = c.args.trie.now in
    let state = c.args.state in
    let known : c.step_at-step.result ≡ step_at trie.steps.items (state - 1) = c.step_at-step.ensures ∙ ap (λ (ss : List TrieState). step_at ss (state - 1)) c.deref.ensures.value in
    fails-first-by trie c.args.fails.now state c.step_at-step.result known c.if-state-eq0.false c.if-step-eq0.true

pub returns : goal.returns
returns c =
    let trie = c.args.trie.now in
    let state = c.args.state in
    let known : c.step_at-step.result ≡ step_at trie.steps.items (state - 1) = c.step_at-step.ensures ∙ ap (λ (ss : List TrieState). step_at ss (state - 1)) c.deref.ensures.value in
    fails-move-by trie c.args.fails.now state c.read.result c.move_from.result c.step_at-step.result known c.if-state-eq0.false c.if-step-eq0.false c.read.ensures c.move_from.ensures
