-- A pattern that becomes the last of its state has the last one until then as its `same` (`owned-more`), and the lent slice
-- gives back just that (`lent-back`).
use Rattle.std.proofs.Common.{◌≡◌, ℕ, ◌+◌, List, ◌∷◌, [], ◌++◌, length, slice_index, sym, ap, subst, ◌∙◌}
use Rattle.pattern_search.specs.Owned.{AreOwned, owned_by}
use Rattle.pattern_search.proofs.States.Filling.{owned-more, lent-back}
use Rattle.pattern_search.proofs.owned.Owned.of.Goals as goal

pub loop-place-preserved : goal.loop-place-preserved
loop-place-preserved c =
    let ends = c.args.keys.now in
    let place = c.loop-place.place in
    let end = slice_index ends place in
    let firsts = c.loop-place.firsts.items in
    let back =
    lent-back firsts c.own.new.firsts c.loop-place.firsts.items end (place + 1) c.loop-place.firsts.len
    (c.own.ensures ∙ ap (λ (xs : List ℕ). owned_by xs end (place + 1)) c.deref_mut.ensures.value)
    (sym (ap length c.deref_mut.ensures.value) ∙ c.deref_mut.ensures.len) in
    let pushed : c.push.new.self.items ≡ c.loop-place.sames.items ++ slice_index firsts end ∷ [] =
    c.in_ok-push.ensures.items
    ∙ ap (λ (r : ℕ). c.loop-place.sames.items ++ r ∷ [])
    (c.read.ensures ∙ ap (λ (xs : List ℕ). slice_index xs end) c.deref.ensures.value) in
    let P : List ℕ → Type 0 = λ fs. AreOwned ends c.args.key_count fs c.push.new.self.items (place + 1) in
    let Q : List ℕ → Type 0 = λ ss. AreOwned ends c.args.key_count (owned_by firsts end (place + 1)) ss (place + 1) in
    subst P (sym back)
    (subst Q (sym pushed)
    (owned-more ends c.args.key_count firsts c.loop-place.sames.items place c.loop-place.invariant c.loop-place-test.true
    (c.requires.within place 0 c.loop-place-test.true)))
