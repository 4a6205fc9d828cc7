-- The test of a key, as the cache's calls state it, is the same key.
use Rattle.std.proofs.Common.{◌≡◌, ◌<◌, Bool, [], ◌∷◌, ◌++◌, length, ap, ◌∙◌, rules}
use Rattle.std.specs.Map.{remove_entry}
use Rattle.lru.specs.LruCache.{LruCache, lru_cache, demoted, put_entries}
use Rattle.frag3_core.proofs.Entries.{demoted-put}
use mathlib.Core.Path.{fun_ext}
use Rattle.frag3_core.specs.contracts.key.DatagramKeyPartialEq.TheImpl.{eq-value}
use Rattle.frag3_core.specs.declared.key.DatagramKey.{DatagramKey}
use Rattle.frag3_core.specs.Trackers.{TrackerState, same_key}

pub key_test : (k : DatagramKey) → eq-value.it k ≡ same_key k
key_test k = fun_ext (λ other. search rules)

pub keys_test : eq-value.it ≡ same_key
keys_test = fun_ext key_test

-- what a put and then a demotion leave: the new value last, in the stead of any of its key
pub put_last_is : (before put after : LruCache DatagramKey TrackerState) (key : DatagramKey) (t : TrackerState) →
    put ≡ lru_cache (put_entries eq-value.it before key t) before.cap → after ≡ lru_cache (demoted (eq-value.it key) put.entries) put.cap → length before.entries < before.cap →
    after ≡ lru_cache (remove_entry (same_key key) before.entries ++ (key, t) ∷ []) before.cap
put_last_is before put after key t was is room =
    is ∙ ap (λ (x : LruCache DatagramKey TrackerState). lru_cache (demoted (eq-value.it key) x.entries) x.cap) was
    ∙ ap (λ (e : DatagramKey → DatagramKey → Bool). lru_cache (demoted (e key) (put_entries e before key t)) before.cap) keys_test
    ∙ ap (λ l. lru_cache l before.cap) (demoted-put key before.entries t before.cap room)
