-- Places rise with states, so only earlier states, which are shallow, have one below the bound (`shallow-place`).
use Rattle.std.proofs.Common.{arith}
use Rattle.pattern_search.proofs.States.Shallow.{shallow-place}
use Rattle.pattern_search.proofs.rows.shallow_bound.Goals as goal

pub returns : goal.returns
returns c = shallow-place c.args.trie.now c.args.dense c.shallow_count-state.result c.place_of.result c.shallow_count-state.ensures (omega (arith, c.place_of.ensures.place))
