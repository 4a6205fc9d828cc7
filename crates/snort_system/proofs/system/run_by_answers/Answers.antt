-- What `run` gives, by files that agree: they may be seen.
use Rattle.std.proofs.Common.{Some}
use Rattle.snort_system.specs.Seen.{HeadlineByAgreeing}
use Rattle.snort_system.proofs.system.run_by_answers.Goals as goal

pub returns : goal.returns
unfolding HeadlineByAgreeing
returns g c = λ files agree. c.run.ensures.headline (Some files) agree
