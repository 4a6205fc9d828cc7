-- A line that tracks an address drops an item's events just if its list has the item's address of that kind.
use Rattle.std.proofs.Common.{true, sym, ap, ◌∙◌}
use Rattle.std.specs.Option.{option_map_or}
use Rattle.net_lists.specs.Verdicts.{has_address, is_listed}
use Rattle.event_filters.specs.Events.{address_of}
use Rattle.event_filters.proofs.suppress.drops.Goals as goal

pub returns-in-Some : goal.returns-in-Some
returns-in-Some c =
    c.contains.ensures.value
    ∙ ap (λ a. is_listed (has_address a) c.in-Some.list) c.address_of.ensures
    ∙ ap (λ o. option_map_or (λ t. is_listed (has_address (address_of t.0 c.args.head.now)) t.1) o true) (sym c.in-Some.is)
