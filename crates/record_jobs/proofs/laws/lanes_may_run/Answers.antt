-- New lanes have seen no job; lanes that know the earlier ones know of each flow just what its jobs' soundness is measured
-- by (`ready`), and a batch adds the same to both (`learnt`).
use Rattle.record_jobs.proofs.Ready.Learning.{learnt, new_learnt, ready}
use Rattle.record_jobs.proofs.laws.lanes_may_run.Goals as goal

pub returns-clause-new : goal.returns-clause-new
returns-clause-new c = new_learnt

pub returns-clause-ready : goal.returns-clause-ready
returns-clause-ready c = ready

pub returns-clause-learn : goal.returns-clause-learn
returns-clause-learn c = learnt
