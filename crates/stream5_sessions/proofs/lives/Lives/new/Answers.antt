-- A new tree and a new cache are both empty, so the one has the numbers of the other's keys, none (`indexed-none`).
use Rattle.std.proofs.Common.{ap}
use Rattle.lru.specs.LruCache.{LruCache}
use Rattle.stream5_sessions.specs.declared.lives.NumberedKey.{NumberedKey}
use Rattle.stream5_sessions.proofs.Trees.Living.{indexed-none}
use Rattle.stream5_sessions.proofs.lives.Lives.new.Goals as goal

pub invariant_of-result : goal.invariant_of-result
invariant_of-result c = indexed-none c.new-2.result _ c.new-2.ensures (ap (λ (x : LruCache NumberedKey _). x.entries) c.in_ok-sparse.ensures)
