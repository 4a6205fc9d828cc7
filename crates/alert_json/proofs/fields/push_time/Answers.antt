-- The stamp, the flow's number, the packet's count and the kind of event are added in this order, and the number is made of
-- the hash that the definition tells: `time-group`.
use Rattle.std.proofs.Common.{List, ℕ, Option, option_map, refl, ap, ◌∙◌}
use Rattle.std.proofs.lemmas.Result.{on_ok_weaker}
use Rattle.alert_json.specs.Facts.{event_facts}
use Rattle.alert_json.specs.FlowNumbers.{first_bits}
use Rattle.alert_json.proofs.Groups.{time-group}
use Rattle.alert_json.proofs.fields.push_time.Goals as goal

pub returns-clause-added : goal.returns-clause-added
returns-clause-added c =
    let number = c.number_of.ensures ∙ ap (λ (h : Option (List ℕ)). option_map first_bits h) c.requires in
    on_ok_weaker c.push_text.result
    (λ e. time-group (event_facts c.args.event) _ _ _ _ _ _ _ refl number c.in_ok-push_moment.ensures.added c.in_ok-push_maybe_number.ensures.added c.in_ok-push_maybe_number-2.ensures.added e)
    c.push_text.ensures.added
