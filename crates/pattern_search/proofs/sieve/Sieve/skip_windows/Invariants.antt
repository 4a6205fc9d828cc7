-- By the windows so far no pattern begins from `from` on and before `to`; the bytes after `to` grow fewer.
use Rattle.std.proofs.Common.{◌-◌, ◌≤◌, length}
use Rattle.pattern_search.specs.Sieving.{Skips}
use Rattle.pattern_search.proofs.sieve.Sieve.skip_windows.Given as goal

abbrev pub invariant-loop-to : goal.invariant-loop-to
invariant-loop-to l = (l.from ≤ l.to) × (l.to ≤ length l.bytes) × Skips l.self l.bytes l.from l.to

abbrev pub decreases-loop-to : goal.decreases-loop-to
decreases-loop-to l = length l.bytes - l.to
