-- The visits of a rule by its place.
use Rattle.std.proofs.Common.{◌≡◌, ℕ, ◌<◌, List, Option, length, get_or, sym, ap, ◌∙◌}
use Rattle.std.specs.Option.{option_map_or}
use Rattle.std.proofs.lemmas.Option.{slice_get-get_or}
use Rattle.rule_types.specs.declared.rule.Rule.{Rule}
use Rattle.option_eval.specs.Values.{most_visits}
use Rattle.rule_eval.specs.Work.{visits_at}

pub visits_at-rule : (rules : List Rule) (place size : ℕ) (rule d : Rule) → place < length rules → rule ≡ get_or rules place d → most_visits rule.opts size ≡ visits_at rules size place
visits_at-rule rules place size rule d below is =
    ap (λ (r : Rule). most_visits r.opts size) is
    ∙ ap (λ (o : Option Rule). option_map_or (λ (r : Rule). most_visits r.opts size) o 0) (sym (slice_get-get_or rules place d below))
