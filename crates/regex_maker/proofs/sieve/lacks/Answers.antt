-- Where every match contains one of the literals and none of them is found in the bytes, there is no match (`none_lacking`).
use Rattle.regex_extract.specs.Needles.{ContainsNeedle}
use Rattle.regex_meta.proofs.LeftmostLemmas.{are_bytes}
use Rattle.regex_maker.proofs.Sieves.{none_lacking, holds_of}
use Rattle.regex_maker.proofs.sieve.lacks.Goals as goal

pub returns-in-Missing : goal.returns-in-Missing
returns-in-Missing c = λ re holds is.
    none_lacking re c.args.bytes.now c.in-Some.needles (are_bytes _ c.type_inv.bytes)
    (holds_of (ContainsNeedle re) c.args.needles.now c.in-Some.needles c.in-Some.is holds) c.in-Missing.ensures.bounded
