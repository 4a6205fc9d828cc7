-- Where the inspector tells all items, what `search_batch` finds is the answer itself, with the entries and the sum that
-- `batch_out` makes of it: the lemma `answered`.
use Rattle.flow_lanes.proofs.Jobs.HaveSearched.{answered}
use Rattle.flow_lanes.specs.Given.{inspection_of}
use Rattle.flow_lanes.specs.Batching.{lanes_of}
use Rattle.flow_lanes.proofs.batch.answer_batch.Goals as goal

pub returns-clause-answers : goal.returns-clause-answers
returns-clause-answers g c =
    answered (inspection_of g.P.Pattern.finds c.args.inspector.now) (lanes_of c.args.workers.now) (lanes_of c.search_batch.new.workers) c.args.jobs.now c.in_ok-found.found.items
    c.requires.all c.in_ok-found.ensures.finds c.in_ok-out.out c.in_ok-out.ensures.hits c.in_ok-out.ensures.tries
