-- A list of ranges of one port each has a port just where one of them is that port, so that looking it up in `DEFAULT_PORTS`
-- is enough: `has_port-any`.
use Rattle.std.proofs.Common.{arith, sym, ◌∙◌}
use Rattle.conf_types.specs.Defaults.{default_ports}
use Rattle.flow_lanes.proofs.Engines.DefaultPorts.{has_port-any}
use Rattle.flow_lanes.proofs.settings.is_default_port.Goals as goal

pub returns : goal.returns
returns c = c.contains.ensures.value ∙ sym (has_port-any c.args.port default_ports (omega arith))
