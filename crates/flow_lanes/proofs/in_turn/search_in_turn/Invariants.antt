-- The loop of `search_in_turn` has searched the jobs so far, as if they were the whole batch, and the
-- lanes have learnt of these.
use Rattle.std.proofs.Common.{take}
use Rattle.flow_lanes.specs.Given.{inspection_of}
use Rattle.flow_lanes.specs.Batching.{HaveLearnt, HaveSearched, lanes_of}
use Rattle.flow_lanes.proofs.in_turn.search_in_turn.Given as goal

-- the jobs so far were searched
abbrev pub invariant-loop-job : goal.invariant-loop-job
invariant-loop-job g l = record {
  searched : HaveSearched (inspection_of g.P.Pattern.finds l.inspector) (lanes_of l.initial.workers) (take l.job-index l.jobs) l.found.items (lanes_of l.workers);
  learnt : HaveLearnt (lanes_of l.initial.workers) (take l.job-index l.jobs) (lanes_of l.workers);
}
