-- With one tracker put last there are the same ones: as many fragments are held (`held_count-demoted`), and no two keys are
-- one (`AreTrackers-demoted`).
use Rattle.std.proofs.Common.{sym, ap, ◌∙◌}
use Rattle.lru.specs.LruCache.{lru_cache, demoted}
use Rattle.frag3_core.specs.Trackers.{same_key}
use Rattle.frag3_core.proofs.Entries.{AreTrackers-demoted, held_count-demoted, is_cache}
use Rattle.frag3_core.proofs.KeyTests.{key_test}
use Rattle.frag3_core.proofs.trackers.TrackerCache.move_last.Goals as goal

pub invariant_of-self : goal.invariant_of-self
invariant_of-self c =
    let key = c.args.key.now in
    let ts = c.self.inside.cache.entries in
    let cap = c.self.inside.cache.cap in
    is_cache c.demote.new.self c.self.inside.held (demoted (same_key key) ts) cap (c.demote.ensures.entries ∙ ap (λ test. lru_cache (demoted test ts) cap) (key_test key))
    (c.self.invariant.held ∙ sym (held_count-demoted key ts)) c.self.invariant.room
    (AreTrackers-demoted key ts c.self.invariant.trackers)
