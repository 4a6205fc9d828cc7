-- There are no more trackers than fragments (`length-le`), so the cache has room for one more; after `put` and `demote` that
-- is the last, in place of any of its key (`put_last_is`).
use Rattle.std.proofs.Common.{◌<◌, [], ◌∷◌, ◌++◌, length, ap, ◌∙◌, arith}
use Rattle.std.specs.Map.{lookup, remove_entry}
use Rattle.lru.specs.LruCache.{LruCache}
use Rattle.frag3_core.specs.declared.key.DatagramKey.{DatagramKey}
use Rattle.frag3_core.specs.Parts.{frags_in}
use Rattle.frag3_core.specs.Trackers.{TrackerState, held_count, same_key}
use Rattle.frag3_core.proofs.Entries.{AreTrackers-push, AreTrackers-remove, held_count-push, held_count-remove, is_cache, length-le, lookup-removed}
use Rattle.frag3_core.proofs.KeyTests.{key_test, put_last_is}
use Rattle.frag3_core.proofs.trackers.TrackerCache.put_last.Goals as goal

pub overflow_sub-self : goal.overflow_sub-self
overflow_sub-self c =
    let ts = c.self.inside.cache.entries in
    let found = c.frags_in.ensures ∙ ap frags_in (c.in_ok-old.ensures.old ∙ ap (λ test. lookup test ts) (key_test c.args.key)) in
    omega (arith, found, held_count-remove c.args.key ts, c.self.invariant.held)

pub invariant_of-self-2 : goal.invariant_of-self-2
invariant_of-self-2 c =
    let key = c.args.key in
    let t = c.args.tracker in
    let ts = c.self.inside.cache.entries in
    let cap = c.self.inside.cache.cap in
    let found = c.frags_in.ensures ∙ ap frags_in (c.in_ok-old.ensures.old ∙ ap (λ test. lookup test ts) (key_test key)) in
    let room : length ts < cap = omega (arith, length-le ts c.self.invariant.trackers, c.self.invariant.held, c.self.invariant.room, c.requires.fits, ap held_count c.self.view_is) in
    let last = put_last_is c.self.inside.cache c.put.new.self c.demote.new.self key t c.in_ok-old.ensures.entries c.demote.ensures.entries room in
    is_cache _ _ (remove_entry (same_key key) ts ++ (key, t) ∷ []) cap last
    (omega (arith, found, held_count-remove key ts, held_count-push (remove_entry (same_key key) ts) key t, c.self.invariant.held, c.frags-frags.ensures)) c.self.invariant.room
    (AreTrackers-push (remove_entry (same_key key) ts) key t (AreTrackers-remove key ts c.self.invariant.trackers) (lookup-removed key ts c.self.invariant.trackers) c.requires.some)

pub returns-clause-ok : goal.returns-clause-ok
returns-clause-ok c =
    let key = c.args.key in
    let t = c.args.tracker in
    let ts = c.self.inside.cache.entries in
    let room : length ts < c.self.inside.cache.cap = omega (
      arith,
      length-le ts c.self.invariant.trackers,
      c.self.invariant.held,
      c.self.invariant.room,
      c.requires.fits,
      ap held_count c.self.view_is,
    ) in
    let last =
    put_last_is c.self.inside.cache c.put.new.self c.demote.new.self key t c.in_ok-old.ensures.entries c.demote.ensures.entries
    room in
    ap (λ (x : LruCache DatagramKey TrackerState). x.entries) last
    ∙ ap (λ l. remove_entry (same_key key) l ++ (key, t) ∷ []) c.self.view_is
