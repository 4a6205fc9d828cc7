-- The chain that `follow` marks is that of the state with the place: its head is that state's in `heads` (`marks-chain`).
use Rattle.std.proofs.Common.{◌≡◌, ℕ, ◌<◌, List, slice_index, ap, subst, ◌∙◌}
use Rattle.pattern_search.specs.Rows.{state_of}
use Rattle.pattern_search.specs.Finding.{Follows}
use Rattle.pattern_search.proofs.Finding.Hitting.{marks-chain}
use Rattle.pattern_search.proofs.automaton.Automaton.mark_ended.Goals as goal

pub returns : goal.returns
returns c =
    let a = c.args in
    let automaton = c.args.self.now in
    let head = c.read-head.result in
    let known : 0 < automaton.trie.width → head ≡ slice_index automaton.heads.items (state_of automaton.trie.width a.at) = λ wide.
    c.read-head.ensures
    ∙ ap (slice_index c.deref.result.now) (c.state_at.ensures wide)
    ∙ ap (λ (xs : List ℕ). slice_index xs (state_of automaton.trie.width a.at)) c.deref.ensures.value in
    let R : List ℕ → Type 0 = λ nexts. Follows nexts head a.seen.now a.hits.now.items c.follow.new.seen c.follow.new.hits.items in
    marks-chain automaton a.at a.seen.now c.follow.new.seen a.hits.now.items c.follow.new.hits.items head (subst R c.deref-2.ensures.value c.in_ok-follow.ensures) known
