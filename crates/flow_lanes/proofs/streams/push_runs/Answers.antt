-- The items of one run more are those of its parts, appended to those of the runs before it: the lemma `items-more`.
use Rattle.flow_lanes.proofs.Sessions.ItemsWith.{items-more}
use Rattle.flow_lanes.proofs.streams.push_runs.Goals as goal

pub loop-run-preserved : goal.loop-run-preserved
loop-run-preserved c = items-more c.args.head c.args.out.now.items c.loop-run.out.items c.push_run.new.out.items c.loop-run.yielded c.in-Some.run' c.loop-run.invariant c.in_ok-push_run.ensures
