-- What a change makes of the set of the bits that are set.
--
-- Public source: Snort Users Manual 2.9, section 3.6.10, flowbits: `set`, `unset` and `toggle`.
-- To try it on: `toggle` of 3 makes the set of 1 and 3 the set of 1, and that one the set of 1 and 3.
use Rattle.std.specs.Prelude.{ℕ, Bool, true, false, not, if◌then◌else◌}
use Rattle.std.specs.Ordering.{nat_cmp}
use Rattle.std.specs.FinSet.{FinSet, contains, insert, remove}
use Rattle.rule_types.specs.declared.option.BitChange.{BitChange}
use Rattle.rule_types.specs.declared.option.BitChange.TheVariants.{Set, Unset, Toggle}

-- the set after a change of a bit
abbrev pub changed : BitChange → ℕ → FinSet nat_cmp → FinSet nat_cmp
changed Set bit bits = insert bits bit
changed Unset bit bits = remove bits bit
changed Toggle bit bits = if contains bits bit then remove bits bit else insert bits bit

-- whether a bit is set after its change
abbrev pub bit_after : BitChange → Bool → Bool
bit_after Set was_set = true
bit_after Unset was_set = false
bit_after Toggle was_set = not was_set
