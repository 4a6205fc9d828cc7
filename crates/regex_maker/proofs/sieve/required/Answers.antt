-- The search looks for the literals that were found of every match, if it was made (`kept_needles`).
use Rattle.std.specs.Prelude.{◌≡◌, IfSome, IsSomeAnd}
use Rattle.std.specs.Option.{ForSome}
use Rattle.std.proofs.lemmas.Result.{IfOk-weaker}
use Rattle.regex_extract.specs.Needles.{ContainsNeedle, needles_of}
use Rattle.regex_meta.specs.Programs.{pattern_of}
use Rattle.regex_maker.proofs.Sieves.{kept_needles}
use Rattle.regex_maker.proofs.sieve.required.Goals as goal

pub returns : goal.returns
returns c =
    let contains = ContainsNeedle (pattern_of c.args.program.now) in
    IfOk-weaker c.prefilter.result (λ found. IfSome found (λ search. IsSomeAnd c.in_ok-required.field-0 (λ those. search ≡ needles_of those)))
    (λ found. ∥ ForSome found contains ∥₁)
    (λ found made. ∣ kept_needles contains needles_of c.in_ok-required.field-0 found c.in_ok-required.ensures.contains made ∣₁) c.prefilter.ensures
