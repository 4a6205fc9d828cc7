-- With a literal at its end a match contains one (`ends_within`), and the search looks for these, if it was made.
use Rattle.std.specs.Prelude.{◌≡◌, IfSome, IsSomeAnd}
use Rattle.std.specs.Option.{ForSome}
use Rattle.std.proofs.lemmas.Result.{IfOk-weaker}
use Rattle.regex_extract.specs.Needles.{ContainsNeedle, EndsWithNeedle, needles_of}
use Rattle.regex_meta.specs.Programs.{pattern_of}
use Rattle.regex_maker.proofs.Sieves.{ends_within, kept_needles}
use Rattle.regex_maker.proofs.sieve.ending.Goals as goal

pub returns : goal.returns
returns c =
    let re = pattern_of c.args.program.now in
    IfOk-weaker c.prefilter.result (λ found. IfSome found (λ search. IsSomeAnd c.in_ok-needles.needles (λ those. search ≡ needles_of those)))
    (λ found. ∥ ForSome found (ContainsNeedle re) ∥₁)
    (λ found made. ∣ (λ search is. ends_within re search
    (kept_needles (EndsWithNeedle re) needles_of c.in_ok-needles.needles found c.in_ok-needles.ensures.ends made search is)) ∣₁) c.prefilter.ensures
