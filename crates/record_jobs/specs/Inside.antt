-- How a `Front` keeps what it stands for.
use Rattle.std.specs.Prelude.{◌*◌, ◌^◌, ◌≤◌}
use Rattle.record_jobs.specs.declared.front.Front.TheInside.{Inside}
use Rattle.record_jobs.specs.Fronts.{FrontState}
use Rattle.record_jobs.specs.Steps.{AreFew}

-- there are at most 2 ^ 32 records; each begins one flow at most, and has three jobs at most
pub record IsFront (front : Inside) : Type 0 where
  pub room : front.counts.records ≤ 2 ^ 32
  pub flows : front.flows.next ≤ front.counts.records
  pub next : front.next ≤ 3 * front.counts.records
  pub few : AreFew front.counts

abbrev pub front_of : Inside → FrontState
front_of front = record {
  frag3 = front.frag3;
  flows = front.flows;
  begin = front.begin;
  last = front.last;
  next = front.next;
  counts = front.counts;
}
