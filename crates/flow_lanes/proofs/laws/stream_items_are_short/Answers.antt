-- Each payload of a stream item is one of the parts that a run is cut into, whichever flush gives it: the lemma
-- `job_short` for a whole job.
use Rattle.flow_lanes.proofs.Sessions.AreShort.{job_short}
use Rattle.flow_lanes.proofs.laws.stream_items_are_short.Goals as goal

pub returns : goal.returns
returns c = λ d engines facts before job sound. job_short d engines facts before job sound
