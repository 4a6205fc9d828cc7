-- What engines limit, and at which ports: what the contracts of `settings` rest on.
-- the limits of an engine
pub mod LimitsTo
-- the ports of an engine without settings
pub mod DefaultPorts
