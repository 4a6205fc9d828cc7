-- `memchr2` seeks the letter's two cases from `low` to `end`, and its place in that part is, `low` more, one of the payload.
use Rattle.std.proofs.Common.{Some, None}
use Rattle.option_eval.proofs.Sets.Occurrences.{first_byte}
use Rattle.option_eval.proofs.needle.next_of.Goals as goal

pub returns-in-None : goal.returns-in-None
returns-in-None c =
    first_byte c.args.lower c.args.upper c.args.payload.now c.args.low c.args.end c.requires.order c.requires.fits None c.in-None.ensures

pub returns-in-Some : goal.returns-in-Some
returns-in-Some c =
    first_byte c.args.lower c.args.upper c.args.payload.now c.args.low c.args.end c.requires.order c.requires.fits (Some c.in-Some.skip) c.in-Some.ensures
