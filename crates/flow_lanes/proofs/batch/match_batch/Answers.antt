-- Where the inspector tells matched items alone, what `search_batch` finds, put into `Matches` by `fill`, is the batch's
-- matches: the lemma `told_matches`.
use Rattle.flow_lanes.proofs.Jobs.HaveSearched.{told_matches}
use Rattle.flow_lanes.specs.Given.{inspection_of}
use Rattle.flow_lanes.specs.Batching.{lanes_of}
use Rattle.flow_lanes.proofs.batch.match_batch.Goals as goal

pub returns-clause-finds : goal.returns-clause-finds
returns-clause-finds g c =
    told_matches (inspection_of g.P.Pattern.finds c.args.inspector.now) (lanes_of c.args.workers.now) (lanes_of c.search_batch.new.workers) c.args.jobs.now c.in_ok-found.found.items
    c.requires.matched c.in_ok-found.ensures.finds c.fill.new.self c.in_ok-fill.ensures.hits c.in_ok-fill.ensures.items c.in_ok-fill.ensures.tries
