-- The key's window is replaced or inserted and no other changes, since the map's test of keys is `same_key`.
use Rattle.std.proofs.Common.{◌≡◌, Bool, Some, cond, subst, rules}
use Rattle.std.specs.Map.{lookup}
use Rattle.event_filters.specs.declared.counting.CountKey.{CountKey}
use Rattle.event_filters.proofs.KeyTests.{keys_test}
use Rattle.event_filters.proofs.counting.counted_window.Goals as goal

pub returns-in-Some-clause-after : goal.returns-in-Some-clause-after
returns-in-Some-clause-after c =
    let new = c.get_mut.follows.lender c.next_window.result in
    let updates = (c.get_mut.follows.holds c.next_window.result).3 (search rules) in
    λ key.
    subst (λ (test : CountKey → CountKey → Bool). lookup (test key) new.entries ≡
    cond (test c.args.count.key key) (Some c.next_window.result) (lookup (test key) c.args.windows.now.entries)) keys_test
    (updates.0 key)

pub returns-clause-after : goal.returns-clause-after
returns-clause-after c =
    let updates = rw c.get_mut.follows.holds-at-none at c.in-Ok.ensures.updates in
    λ key.
    subst (λ (test : CountKey → CountKey → Bool). lookup (test key) c.insert.new.self.entries ≡
    cond (test c.args.count.key key) (Some c.next_window-window.result) (lookup (test key) c.args.windows.now.entries)) keys_test
    (updates.0 key)
