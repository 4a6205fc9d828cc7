-- What `search` finds of the job is pushed with the job's number, and no more is asked: the parts of `AddsFound` are
-- what these two calls promise.
use Rattle.flow_lanes.proofs.worker.answer.Goals as goal

pub returns : goal.returns
returns g c = record {
  found = c.in_ok-value.value;
  added = c.in_ok-push.ensures.items;
  searches = c.in_ok-value.ensures.finds;
  learns = c.in_ok-value.ensures.learns;
}
