-- The cap is above every `most`, so a number that was capped is out of the bounds, as the whole number is.
use Rattle.std.proofs.Common.{◌∙◌, arith}
use Rattle.net_lists.proofs.Numbers.Ranges.{number_in-some, number_in-none}
use Rattle.net_lists.proofs.number.number_in.Goals as goal

pub returns-in-Some-clause-value : goal.returns-in-Some-clause-value
returns-in-Some-clause-value c =
    c.kept_in.ensures.value ∙ number_in-some c.args.least c.args.most _ c.in-Some.number c.args.text.now (omega (arith, c.ranges.most.fits)) c.in-Some.ensures.value

pub returns-in-None-clause-value : goal.returns-in-None-clause-value
returns-in-None-clause-value c =
    number_in-none c.args.least c.args.most _ c.args.text.now (omega (arith, c.ranges.most.fits)) c.in-None.ensures.value
