-- A prefix length that isn't marked is no entry's, by the index, so that the map needn't be asked.
use Rattle.std.proofs.Common.{◌∙◌, sym, ap, get_or, false}
use Rattle.net_lists.specs.Addresses.{network_at}
use Rattle.host_table.specs.Index.{place_of}
use Rattle.host_table.proofs.Longest.{length-network_at}
use Rattle.host_table.proofs.hosts.Hosts.place.Goals as goal

pub returns-then-not-self-length : goal.returns-then-not-self-length
returns-then-not-self-length c =
    let net = network_at c.args.addr c.args.length in
    let none = c.self.invariant.marked net (ap (λ n. get_or c.self.inside.lengths n false) (length-network_at c.args.addr c.args.length) ∙ c.if-not-self-length.true) in
    sym (ap (λ es. place_of es net) (sym c.self.view_is) ∙ none)
