-- A removal leaves nothing at the key's place and each other place as it was (`tree_puts`).
use Rattle.std.proofs.Common.{None}
use Rattle.stream5_sessions.specs.Trees.{number_in}
use Rattle.stream5_sessions.proofs.Trees.Laws.{tree_puts}
use Rattle.stream5_sessions.proofs.flow_numbers.FlowNumbers.remove.Goals as goal

pub returns : goal.returns
unfolding number_in
returns c = tree_puts c.args.self.now.tree c.remove.new.self c.args.key.now c.of.result None c.of.ensures c.remove.ensures.updates.0
