-- Empty windows stand for no event at all, so with the tables of this
-- configuration and these rules the filters stand for no item given.
use Rattle.event_filters.proofs.Given.{given-none}
use Rattle.event_filters.proofs.filters.Filters.new.Goals as goal

pub returns : goal.returns
returns c =
    let own = rw c.as_slice-filters.ensures at c.in_ok-own_places.ensures in
    let global = rw c.as_slice-filters.ensures at c.in_ok-global_places.ensures in
    λ config_sound rules_sound.
    given-none c.args.config.now c.args.rules.now _ config_sound rules_sound c.in_ok-sizes_of.ensures own global
    c.with_hasher.ensures.empty c.with_hasher-2.ensures.empty c.with_hasher-3.ensures.empty
