-- An empty map, and lengths of which none is marked, index the empty list of entries: the lemma `indexed-nil`.
use Rattle.host_table.proofs.Indexed.{indexed-nil}
use Rattle.host_table.proofs.hosts.Hosts.empty.Goals as goal

pub invariant_of-result : goal.invariant_of-result
invariant_of-result c = indexed-nil _ _ _ c.new.ensures.items c.new-2.ensures.empty
