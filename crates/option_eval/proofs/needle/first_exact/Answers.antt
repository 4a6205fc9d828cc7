-- What the finder finds in the part from `low` to `stop` is, with `low` added, the first place of the payload from there on.
use Rattle.std.proofs.Common.{Some, None}
use Rattle.option_eval.proofs.Sets.Occurrences.{first_exact}
use Rattle.option_eval.proofs.needle.first_exact.Goals as goal

pub returns-in-None : goal.returns-in-None
returns-in-None c =
    first_exact c.args.payload.now c.args.finder.now c.args.low c.args.stop c.requires.fits c.requires.some c.requires.order None c.in-None.ensures

pub returns-in-Some : goal.returns-in-Some
returns-in-Some c =
    first_exact c.args.payload.now c.args.finder.now c.args.low c.args.stop c.requires.fits c.requires.some c.requires.order (Some c.in-Some.skip) c.in-Some.ensures
