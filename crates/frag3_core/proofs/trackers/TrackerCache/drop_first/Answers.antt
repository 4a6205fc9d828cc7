-- Without the first tracker as many fragments fewer are held as it had (`held_count-drop`), and the others' keys are still
-- apart (`AreTrackers-drop`).
use Rattle.std.proofs.Common.{ap, drop, arith}
use Rattle.frag3_core.specs.Parts.{frags_in}
use Rattle.frag3_core.proofs.Entries.{AreTrackers-drop, held_count-drop, is_cache}
use Rattle.frag3_core.proofs.trackers.TrackerCache.drop_first.Goals as goal

pub overflow_sub-self : goal.overflow_sub-self
overflow_sub-self c =
    omega (arith, c.frags_in.ensures, ap frags_in c.pop_first-dropped.ensures.value, held_count-drop c.self.inside.cache.entries, c.self.invariant.held)

pub invariant_of-self : goal.invariant_of-self
invariant_of-self c =
    let ts = c.self.inside.cache.entries in
    is_cache _ _ (drop 1 ts) c.self.inside.cache.cap c.pop_first-dropped.ensures.entries
    (omega (arith, c.frags_in.ensures, ap frags_in c.pop_first-dropped.ensures.value, held_count-drop ts, c.self.invariant.held)) c.self.invariant.room
    (AreTrackers-drop ts c.self.invariant.trackers)
