-- One pass over the parts decides by the lemma `listed` whether the port
-- is listed; `has_port` decides the same, so the two answers are one.
use Rattle.std.proofs.Common.{◌∙◌, ap}
use Rattle.net_lists.specs.Membership.{Has}
use Rattle.net_lists.specs.Verdicts.{is_within, is_listed}
use Rattle.net_lists.proofs.Membership.Listed.{listed, within_yes, within_no}
use Rattle.net_lists.proofs.Membership.Ports.{has_port-is}
use Rattle.net_lists.proofs.port_list.PortList.contains.Goals as goal

pub returns-clause-listed : goal.returns-clause-listed
returns-clause-listed c =
    let port = c.args.port in
    listed (is_within port) (Has port) (within_yes port) (within_no port) c.args.self.now c.is_listed.result (c.is_listed.ensures ∙ ap (is_listed (is_within port)) c.parts.ensures)

pub returns-clause-value : goal.returns-clause-value
returns-clause-value c = has_port-is c.args.port c.args.self.now c.is_listed.result (returns-clause-listed c)
