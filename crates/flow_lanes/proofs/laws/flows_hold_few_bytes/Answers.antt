-- A flow is kept by its own lane alone, in a session of two sides, each of which stays within the limits of its engine, job
-- by job; a session that isn't of TCP holds nothing.
use Rattle.flow_lanes.proofs.Held.Lanes.{bytes-few, segments-few}
use Rattle.flow_lanes.proofs.laws.flows_hold_few_bytes.Goals as goal

pub returns-clause-bytes : goal.returns-clause-bytes
returns-clause-bytes c = bytes-few

pub returns-clause-segments : goal.returns-clause-segments
returns-clause-segments c = segments-few
