-- The map has a key just where an entry has its network, since the entries are indexed (`is_given-indexed`).
use Rattle.std.proofs.Common.{◌∙◌, ap, is_some}
use Rattle.std.specs.BTreeMap.{get}
use Rattle.host_table.specs.Keys.{key_cmp}
use Rattle.host_table.specs.HostLine.{is_given}
use Rattle.host_table.proofs.Indexed.{is_given-indexed}
use Rattle.host_table.proofs.hosts.Hosts.is_given.Goals as goal

pub returns : goal.returns
returns c =
    let given = is_given-indexed _ _ _ c.self.invariant c.args.network in
    c.contains_key.ensures ∙ ap (λ k. is_some (get key_cmp c.self.inside.places k)) c.of.ensures ∙ given ∙ ap (λ es. is_given es c.args.network) c.self.view_is
