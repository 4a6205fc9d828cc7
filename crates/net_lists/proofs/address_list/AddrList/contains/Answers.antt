-- One pass over the parts decides whether the address is listed:
-- `has_address` tells it of one part, and the lemma `listed` of all.
use Rattle.std.proofs.Common.{◌∙◌, ap}
use Rattle.net_lists.specs.Membership.{HasAddress}
use Rattle.net_lists.specs.Verdicts.{has_address, is_listed}
use Rattle.net_lists.proofs.Membership.Listed.{listed, address_yes, address_no}
use Rattle.net_lists.proofs.address_list.AddrList.contains.Goals as goal

pub returns-clause-listed : goal.returns-clause-listed
returns-clause-listed c =
    let addr = c.args.addr in
    listed (has_address addr) (HasAddress addr) (address_yes addr) (address_no addr) c.args.self.now c.is_listed.result (c.is_listed.ensures ∙ ap (is_listed (has_address addr)) c.self.view_is)

pub returns-clause-value : goal.returns-clause-value
returns-clause-value c = c.is_listed.ensures ∙ ap (is_listed (has_address c.args.addr)) c.self.view_is
