-- The ranges of the numbers that an option reads.
use Rattle.std.specs.Prelude.{ℕ, ◌^◌, ◌≤◌, ℤ, pos, neg_ℤ, ◌≤ℤ◌, ◌<ℤ◌}
use Rattle.rule_types.specs.Sound.{bytes_of_base}
use Rattle.rule_types.specs.declared.option.Base.{Base}

-- a number that is told, or was extracted
abbrev pub IsSmall : ℤ → Type 0
IsSmall number = (neg_ℤ (pos (2 ^ 63)) ≤ℤ number) × (number <ℤ pos (2 ^ 64))

-- so few bytes that their number is below 2 ^ 41
abbrev pub IsShort : Base → ℕ → Type 0
IsShort base bytes = (1 ≤ bytes) × (bytes ≤ bytes_of_base base)

-- a small number from a place on
abbrev pub IsSpan : ℤ → Type 0
IsSpan number = (neg_ℤ (pos (2 ^ 65)) ≤ℤ number) × (number ≤ℤ pos (2 ^ 65))
