-- A state's chain begins with its own last pattern, or else with the chain of the state that it fails to, an earlier one,
-- which is linked already (`linking-more`).
use Rattle.std.proofs.Common.{◌≡◌, ℕ, List, slice_index, ap, subst, ◌∙◌}
use Rattle.pattern_search.specs.Moves.{FailsTo}
use Rattle.pattern_search.specs.Outputs.{either}
use Rattle.pattern_search.proofs.States.Filling.{linking-more}
use Rattle.pattern_search.proofs.links.Links.of.Goals as goal

pub loop-state-preserved : goal.loop-state-preserved
loop-state-preserved c =
    let trie = c.args.trie.now in
    let firsts = c.args.firsts.now in
    let state = c.loop-state.state in
    let fails = c.loop-state.fails.items in
    let heads = c.loop-state.heads.items in
    let fail = c.fail_of-fail.result in
    let P : List ℕ → Type 0 = λ xs. FailsTo trie xs state fail in
    let head : c.either.result ≡ either (slice_index firsts state) (slice_index heads fail) =
    c.either.ensures
    ∙ ap (λ (h : ℕ). either h c.read-in-loop-state.result) c.read.ensures
    ∙ ap (either (slice_index firsts state))
    (c.read-in-loop-state.ensures ∙ ap (λ (xs : List ℕ). slice_index xs fail) c.deref-in-loop-state.ensures.value) in
    linking-more trie firsts fails heads state fail c.either.result c.push-in-loop-state.new.self.items c.push.new.self.items
    c.loop-state.invariant (subst P c.deref.ensures.value c.fail_of-fail.ensures) head
    c.in_ok-push.ensures.items c.in_ok-push-2.ensures.items
