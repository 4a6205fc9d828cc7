-- Runs whose starts count from a base.
use Rattle.std.specs.Prelude.{ℕ, ◌-◌, ◌≤◌}
use Rattle.overlap_core.specs.declared.segment.Run.{Run}

-- the run begins at the base or after it
abbrev pub IsFrom : ℕ → Run → Type 0
IsFrom base run = base ≤ run.start

-- the run with its start counted from the base
abbrev pub counted_from : ℕ → Run → Run
counted_from base run = record run { start = run.start - base }
