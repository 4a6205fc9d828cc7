-- The tracker that is found gets one fragment more, so all trackers hold one more (`held_count-set`) under the same keys;
-- without memory it is set to what it was (`set_value_same`).
use Rattle.std.proofs.Common.{◌≡◌, ◌+◌, Some, length, sym, ap, ◌∙◌, arith, length-append}
use Rattle.std.specs.Map.{lookup, set_value}
use Rattle.std.proofs.lemmas.Map.Steps.{set_value_same}
use Rattle.std.proofs.lemmas.Result.{err_from_is_err_and}
use Rattle.lru.specs.LruCache.{lru_cache}
use Rattle.frag3_core.specs.Trackers.{TrackerState, held_count, same_key, joined, datagram_of}
use Rattle.frag3_core.proofs.Entries.{AreTrackers-set, held_count-set, frags-le, is_cache}
use Rattle.frag3_core.proofs.KeyTests.{key_test}
use Rattle.frag3_core.proofs.trackers.TrackerCache.add.Goals as goal

pub add-requires-clause-count : goal.add-requires-clause-count
add-requires-clause-count c =
    let ts = c.self.inside.cache.entries in
    let found : lookup (same_key c.args.key.now) ts ≡ Some c.in-Some.tracker.now = ap (λ test. lookup test ts) (sym (key_test c.args.key.now)) ∙ sym c.in-Some.ensures.value in
    omega (arith, frags-le c.args.key.now ts c.in-Some.tracker.now found, c.requires.count, ap held_count c.self.view_is)

pub invariant_of-self-in_err-bytes : goal.invariant_of-self-in_err-bytes
invariant_of-self-in_err-bytes c =
    let key = c.args.key.now in
    let ts = c.self.inside.cache.entries in
    let cap = c.self.inside.cache.cap in
    let new = c.add.new.self in
    let found : lookup (same_key key) ts ≡ Some c.in-Some.tracker.now = ap (λ test. lookup test ts) (sym (key_test key)) ∙ sym c.in-Some.ensures.value in
    let same = ap (set_value (same_key key) ts) c.in_err-bytes.ensures.err ∙ set_value_same (same_key key) ts c.in-Some.tracker.now found in
    is_cache _ c.self.inside.held ts cap (ap (λ test. lru_cache (set_value test ts new) cap) (key_test key) ∙ ap (λ l. lru_cache l cap) same)
    c.self.invariant.held c.self.invariant.room c.self.invariant.trackers

pub returns-in_err-bytes-clause-err : goal.returns-in_err-bytes-clause-err
returns-in_err-bytes-clause-err c =
    let key = c.args.key.now in
    let ts = c.self.inside.cache.entries in
    let new = c.add.new.self in
    let found : lookup (same_key key) ts ≡ Some c.in-Some.tracker.now = ap (λ test. lookup test ts) (sym (key_test key)) ∙ sym c.in-Some.ensures.value in
    let same = ap (set_value (same_key key) ts) c.in_err-bytes.ensures.err ∙ set_value_same (same_key key) ts c.in-Some.tracker.now found in
    let p = err_from_is_err_and c.from_residual.result c.from_residual.ensures.1 in
    rw p.1 (ap (λ test. set_value test ts new) (key_test key) ∙ same ∙ c.self.view_is)

pub invariant_of-self-2 : goal.invariant_of-self-2
invariant_of-self-2 c =
    let key = c.args.key.now in
    let ts = c.self.inside.cache.entries in
    let cap = c.self.inside.cache.cap in
    let old = c.in-Some.tracker.now in
    let new = c.add.new.self in
    let found : lookup (same_key key) ts ≡ Some old = ap (λ test. lookup test ts) (sym (key_test key)) ∙ sym c.in-Some.ensures.value in
    let more : length new.segments ≡ length old.segments + 1 = ap (λ (t : TrackerState). length t.segments) c.in_ok-bytes.ensures.tracker ∙ length-append _ _ in
    is_cache _ _ (set_value (same_key key) ts new) cap (ap (λ test. lru_cache (set_value test ts new) cap) (key_test key))
    (omega (arith, c.self.invariant.held, held_count-set key ts old new found, more)) c.self.invariant.room
    (AreTrackers-set key ts new c.self.invariant.trackers (omega (arith, more)))

pub returns-clause-ok : goal.returns-clause-ok
returns-clause-ok c t is =
    let key = c.args.key.now in
    let ts = c.self.inside.cache.entries in
    let found : lookup (same_key key) ts ≡ Some c.in-Some.tracker.now =
    ap (λ test. lookup test ts) (sym (key_test key)) ∙ sym c.in-Some.ensures.value in
    let at : Some c.in-Some.tracker.now ≡ Some t = sym found ∙ ap (lookup (same_key key)) c.self.view_is ∙ is in
    let same : c.in-Some.tracker.now ≡ t = cc in
    let new = c.in_ok-bytes.ensures.tracker ∙ ap (joined c.args.ip.now c.args.part.now) same in (
      ap (λ test. set_value test ts c.add.new.self) (key_test key)
          ∙ ap (set_value (same_key key) ts) new
          ∙ ap (λ l. set_value (same_key key) l (joined c.args.ip.now c.args.part.now t)) c.self.view_is,
      c.in_ok-bytes.ensures.bytes ∙ ap datagram_of new,
    )
