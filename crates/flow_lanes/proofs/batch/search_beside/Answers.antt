-- The workers' answers are the parts of one batch (`AreParts`): each part ascends, no number is in two of them, and so the
-- merge has each job once, in the batch's order.
use Rattle.flow_lanes.specs.Given.{inspection_of}
use Rattle.flow_lanes.proofs.Jobs.AreParts.{gathered_learns, gathered_search, parts_apart, parts_ascend}
use Rattle.flow_lanes.proofs.batch.search_beside.Goals as goal

pub merge-requires-clause-ascending : goal.merge-requires-clause-ascending
merge-requires-clause-ascending g c =
    parts_ascend (inspection_of g.P.Pattern.finds c.args.inspector.now) c.args.workers.now c.run_all.new.workers c.take_parts.new.workers c.args.jobs.now c.in_ok-parts.parts.items
    c.run_all.auto.workers c.run_all.ensures c.in_ok-parts.ensures.parts c.take_parts.ensures.lanes c.requires.ascend

pub merge-requires-clause-apart : goal.merge-requires-clause-apart
merge-requires-clause-apart g c =
    parts_apart (inspection_of g.P.Pattern.finds c.args.inspector.now) c.args.workers.now c.run_all.new.workers c.take_parts.new.workers c.args.jobs.now c.in_ok-parts.parts.items
    c.run_all.auto.workers c.run_all.ensures c.in_ok-parts.ensures.parts c.take_parts.ensures.lanes c.requires.some c.requires.ascend

pub returns-clause-finds : goal.returns-clause-finds
returns-clause-finds g c =
    gathered_search (inspection_of g.P.Pattern.finds c.args.inspector.now) c.args.workers.now c.run_all.new.workers c.take_parts.new.workers c.args.jobs.now c.in_ok-parts.parts.items
    c.run_all.auto.workers c.run_all.ensures c.in_ok-parts.ensures.parts c.take_parts.ensures.lanes c.requires.some c.requires.ascend
    c.in_ok-found.found.items c.in_ok-found.ensures.whole c.in_ok-found.ensures.ascending

pub returns-clause-learns : goal.returns-clause-learns
returns-clause-learns g c =
    gathered_learns (inspection_of g.P.Pattern.finds c.args.inspector.now) c.args.workers.now c.run_all.new.workers c.take_parts.new.workers c.args.jobs.now c.in_ok-parts.parts.items
    c.run_all.auto.workers c.run_all.ensures c.in_ok-parts.ensures.parts c.take_parts.ensures.lanes c.requires.some
