-- The law rests on each part of `has_port` being one of `IsListed`: some part
-- without `!` has the port or all have a `!`, and none with a `!` has it.
use Rattle.net_lists.proofs.Membership.Ports.{has_port-tells, has_port-from}
use Rattle.net_lists.proofs.port_list.ports_are_as_listed.Goals as goal

pub returns : goal.returns
returns c = λ ports port. (has_port-tells port ports, has_port-from port ports)
