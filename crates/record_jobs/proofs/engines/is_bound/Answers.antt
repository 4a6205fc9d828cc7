-- Where the line has a `bind_to`, being bound is by definition being in its list, which is what `contains` answers.
use Rattle.std.proofs.Common.{sym, ap, ◌∙◌}
use Rattle.record_jobs.specs.Way.{is_bound}
use Rattle.record_jobs.proofs.engines.is_bound.Goals as goal

pub returns-in-Some : goal.returns-in-Some
returns-in-Some c = c.contains.ensures.value ∙ ap (λ bind. is_bound c.args.addr bind) (sym c.in-Some.is)
