-- The ladder admits every place at which a match starts, so the first one that it finds is no later than the leftmost match,
-- and where it finds none there is no match (`first_admitted`).
use Rattle.regex_meta.specs.Plans.{IsAdmitted}
use Rattle.regex_meta.specs.Programs.{pattern_of}
use Rattle.regex_maker.proofs.Sieves.{first_admitted, holds_of}
use Rattle.regex_maker.proofs.sieve.MatchTests.first_place.Goals as goal

pub returns-in-Some : goal.returns-in-Some
returns-in-Some c =
    first_admitted (pattern_of c.args.program.now) c.in-Some.ladder c.args.bytes.now c.find.result
    (holds_of (IsAdmitted (pattern_of c.args.program.now)) c.args.self.now.ladder c.in-Some.ladder c.in-Some.is c.requires.admitted) c.find.ensures
