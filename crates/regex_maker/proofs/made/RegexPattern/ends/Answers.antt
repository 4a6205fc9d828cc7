-- The pattern's own sieve is one for its expression, so `first_place` may be asked; and where the sieve says that all
-- matches start at the first byte, they do, so that `find_at_start` may be.
use Rattle.std.proofs.Common.{ap, sym, ◌∙◌}
use Rattle.std.proofs.Math.Logic.{∥∥₁_elim, ∥∥₁_prop}
use Rattle.regex_meta.proofs.PlansLemmas.{Suits-of_truncated}
use Rattle.regex_meta.specs.Programs.{pattern_of}
use Rattle.regex_meta.specs.declared.plan.Plan.TheVariants.{AtStart}
use Rattle.regex_maker.specs.declared.sieve.MatchTests.{MatchTests}
use Rattle.regex_maker.proofs.made.RegexPattern.ends.Goals as goal

pub first_place-requires : goal.first_place-requires
first_place-requires c = rw (c.deref.ensures, c.deref-2.ensures) c.args.self.now.sifted

pub find_at_start-found-requires-clause-anchored : goal.find_at_start-found-requires-clause-anchored
find_at_start-found-requires-clause-anchored c =
    let anchored = ap (λ (sieve : MatchTests). sieve.anchored) (sym c.deref-3.ensures) ∙ c.if-deref.true in
    rw c.deref-then-deref.ensures
    (Suits-of_truncated (pattern_of c.args.self.now.program.value) AtStart
    (∥∥₁_elim c.args.self.now.sifted.anchored ∥∥₁_prop (λ anchors. ∣ anchors anchored ∣₁)))
