-- To make room changes no window, seen by the map's test of keys, which is `same_key`.
use Rattle.std.proofs.Common.{◌≡◌, Bool, subst}
use Rattle.std.specs.Map.{lookup}
use Rattle.event_filters.specs.declared.counting.CountKey.{CountKey}
use Rattle.event_filters.proofs.KeyTests.{keys_test}
use Rattle.event_filters.proofs.counting.reserve.Goals as goal

pub returns-clause-same : goal.returns-clause-same
returns-clause-same c = λ key.
    subst (λ (test : CountKey → CountKey → Bool). lookup (test key) c.reserve.new.self.entries ≡ lookup (test key) c.args.windows.now.entries) keys_test (c.reserve.ensures.entries.2 key)
