-- How many visits of a payload the rules that are tried on an item take at most.
--
-- A visit is a place at which a content is compared, or from which another option is asked; the most of one rule are
-- those of option_eval specs/Values.
-- To try it on: on 1,460 bytes three rules of one content each take at most 4,383 visits together.
use Rattle.std.specs.Prelude.{ℕ, List, slice_get, sum_by}
use Rattle.std.specs.Option.{option_map_or}
use Rattle.rule_types.specs.declared.rule.Rule.{Rule}
use Rattle.option_eval.specs.Values.{most_visits}

-- the visits that the rule at a place takes at most, on a payload of `size` bytes
abbrev pub visits_at : List Rule → ℕ → ℕ → ℕ
visits_at rules size place = option_map_or (λ (rule : Rule). most_visits rule.opts size) (slice_get rules place) 0

-- the visits that the rules at these places take at most together, one after another
abbrev pub visits_among : List Rule → ℕ → List ℕ → ℕ
visits_among rules size places = sum_by (visits_at rules size) places
