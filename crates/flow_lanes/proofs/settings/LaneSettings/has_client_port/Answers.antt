-- After the last engine the default ports follow.
use Rattle.std.proofs.Common.{Option, sym, ap, ◌∙◌, unwrap_or}
use Rattle.std.specs.Option.{option_copied}
use Rattle.conf_types.specs.declared.config.StreamEngine.{StreamEngine}
use Rattle.conf_types.specs.Defaults.{default_stream_engine}
use Rattle.flow_lanes.specs.Engines.{is_listed}
use Rattle.flow_lanes.proofs.settings.LaneSettings.has_client_port.Goals as goal

pub returns-in-None : goal.returns-in-None
unfolding default_stream_engine
returns-in-None c =
    c.is_default_port.ensures
    ∙ ap (λ (found : Option StreamEngine). is_listed (unwrap_or found default_stream_engine).client_ports c.args.port) (ap option_copied (sym c.in-None.is) ∙ c.engine_at.ensures)
