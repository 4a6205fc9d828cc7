-- A new cache is empty: it holds no fragment, as its counter says, and no two keys are one (`AreTrackers-nil`).
use Rattle.std.proofs.Common.{refl}
use Rattle.frag3_core.proofs.Entries.{is_cache, AreTrackers-nil}
use Rattle.frag3_core.proofs.trackers.TrackerCache.new.Goals as goal

pub invariant_of-result : goal.invariant_of-result
invariant_of-result c = is_cache c.in_ok-unbounded_with_hasher.field-0 0 _ _ c.in_ok-unbounded_with_hasher.ensures refl refl AreTrackers-nil
