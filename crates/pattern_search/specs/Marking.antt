-- Which places are marked. How marks are kept is this project's own choice.
--
-- To try it on: after the marks 7, 3 and 7 the places 3 and 7 are marked, and no others.
use Rattle.std.specs.Prelude.{ℕ, Bool}
use Rattle.std.specs.Ordering.{nat_cmp}
use Rattle.std.specs.BTreeSet.{contains}
use Rattle.pattern_search.specs.declared.seen.MarkSet.{MarkSet}

-- the place is marked
unfoldable pub is_marked : MarkSet → ℕ → Bool
is_marked seen place = contains nat_cmp seen.places place
