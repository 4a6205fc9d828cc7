-- Without the tracker of the key as many fragments fewer are held as it had (`held_count-remove`), and the others' keys are
-- still apart (`AreTrackers-remove`).
use Rattle.std.proofs.Common.{ap, ◌∙◌, arith}
use Rattle.std.specs.Map.{lookup, remove_entry}
use Rattle.lru.specs.LruCache.{lru_cache}
use Rattle.frag3_core.proofs.KeyTests.{key_test}
use Rattle.frag3_core.specs.Trackers.{same_key}
use Rattle.frag3_core.specs.Parts.{frags_in}
use Rattle.frag3_core.proofs.Entries.{AreTrackers-remove, held_count-remove, is_cache}
use Rattle.frag3_core.proofs.trackers.TrackerCache.remove.Goals as goal

pub overflow_sub-self : goal.overflow_sub-self
overflow_sub-self c =
    let ts = c.self.inside.cache.entries in
    let found = c.frags_in.ensures ∙ ap frags_in (c.pop-dropped.ensures.value ∙ ap (λ test. lookup test ts) (key_test c.args.key.now)) in
    omega (arith, found, held_count-remove c.args.key.now ts, c.self.invariant.held)

pub invariant_of-self : goal.invariant_of-self
invariant_of-self c =
    let key = c.args.key.now in
    let ts = c.self.inside.cache.entries in
    let cap = c.self.inside.cache.cap in
    let found = c.frags_in.ensures ∙ ap frags_in (c.pop-dropped.ensures.value ∙ ap (λ test. lookup test ts) (key_test key)) in
    is_cache _ _ (remove_entry (same_key key) ts) cap (c.pop-dropped.ensures.entries ∙ ap (λ test. lru_cache (remove_entry test ts) cap) (key_test key))
    (omega (arith, found, held_count-remove key ts, c.self.invariant.held)) c.self.invariant.room
    (AreTrackers-remove key ts c.self.invariant.trackers)
