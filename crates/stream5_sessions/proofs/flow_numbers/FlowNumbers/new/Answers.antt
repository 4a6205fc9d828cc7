-- An empty tree has no number at any key.
use Rattle.std.proofs.Common.{ℕ, List, ap}
use Rattle.std.specs.BTreeMap.{is_at}
use Rattle.std.specs.Map.{lookup}
use Rattle.stream5_sessions.specs.declared.flow_numbers.TreeKey.{TreeKey}
use Rattle.stream5_sessions.specs.Trees.{tree_key_of, tree_cmp, number_in}
use Rattle.stream5_sessions.proofs.flow_numbers.FlowNumbers.new.Goals as goal

pub returns : goal.returns
unfolding number_in
returns c = λ q. ap (λ (l : List (TreeKey × ℕ)). lookup (is_at (tree_cmp (tree_key_of q))) l) c.new.ensures.empty
