-- Items go between ends that packets of their flow told, so that their heads fit where those of the jobs
-- do: the lemma `job_fits`.
use Rattle.flow_lanes.proofs.Fits.{job_fits}
use Rattle.flow_lanes.proofs.laws.items_fit.Goals as goal

pub returns : goal.returns
returns c = job_fits
