-- The cache finds what `lookup` by the key finds (`key_test`), and its counter is the number of all fragments, so the code's
-- comparison with `most` is the definition's.
use Rattle.std.proofs.Common.{◌≡◌, Some, sym, ap, ◌∙◌, arith}
use Rattle.std.specs.Map.{lookup}
use Rattle.std.proofs.lemmas.Bool.Decides.{nat_tests}
use Rattle.frag3_core.specs.Trackers.{held_count, same_key}
use Rattle.frag3_core.proofs.KeyTests.{key_test}
use Rattle.frag3_core.proofs.trackers.TrackerCache.keeps.Goals as goal
use Rattle.frag3_core.proofs.trackers.TrackerCache.keeps.Goals.{then-self-most, else-self-most}

pub returns-then-not-is_timed_out-clause-value : goal.returns-then-not-is_timed_out-clause-value
returns-then-not-is_timed_out-clause-value c =
    let found : lookup (same_key c.args.key.now) c.args.self.now ≡ Some c.in-Some.tracker.now =
    ap (lookup (same_key c.args.key.now)) (sym c.self.view_is) ∙ ap (λ test. lookup test c.self.inside.cache.entries) (sym (key_test c.args.key.now)) ∙ sym c.in-Some.ensures in
    let counted = c.self.invariant.held ∙ ap held_count c.self.view_is in
    rw found (elim c.if-self-most.branch [ then-self-most w ↦ grind (arith, nat_tests) | else-self-most w ↦ grind (arith, nat_tests) ])

pub returns-else-not-is_timed_out-clause-value : goal.returns-else-not-is_timed_out-clause-value
returns-else-not-is_timed_out-clause-value c =
    let found : lookup (same_key c.args.key.now) c.args.self.now ≡ Some c.in-Some.tracker.now =
    ap (lookup (same_key c.args.key.now)) (sym c.self.view_is) ∙ ap (λ test. lookup test c.self.inside.cache.entries) (sym (key_test c.args.key.now)) ∙ sym c.in-Some.ensures in
    rw found (grind (arith, nat_tests))
