-- Where all matches start at place 0, with a byte of `first`, bytes that begin with no such one have none (`none_at_start`).
use Rattle.regex_maker.proofs.Sieves.{none_at_start}
use Rattle.regex_maker.proofs.sieve.MatchTests.is_ruled_out_at_start.Goals as goal

pub returns-in-None : goal.returns-in-None
returns-in-None c = λ is.
    none_at_start c.args.program.now c.args.bytes.now c.in-Some.first c.in-Some.is c.args.self.now.anchored c.requires.anchored c.requires.sieve.anchored c.in-None.ensures
