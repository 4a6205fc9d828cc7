-- Marks of earlier patterns stay while the next one's are set (`patterns-more`), so in the end all are there.
use Rattle.std.proofs.Common.{ℕ, List, subst, ◌∙◌}
use Rattle.pattern_search.specs.Letters.{AreMarked}
use Rattle.pattern_search.proofs.Lettering.{patterns-more, patterns-all}
use Rattle.pattern_search.proofs.letters.used_bytes.Goals as goal

pub loop-pattern-preserved : goal.loop-pattern-preserved
loop-pattern-preserved c =
    let pattern = c.pattern-item.result in
    let P : List ℕ → Type 0 = λ p. AreMarked c.mark.new.used p in
    patterns-more c.loop-pattern.used c.mark.new.used c.args.patterns.now c.loop-pattern.pattern-index pattern
    c.loop-pattern.invariant c.mark.ensures.kept c.loop-pattern-test.true
    (subst P (c.bytes.ensures ∙ c.pattern-item.is) c.mark.ensures.marked)

pub returns : goal.returns
returns c = patterns-all c.loop-pattern.used c.args.patterns.now c.loop-pattern.pattern-index c.loop-pattern-test.false c.loop-pattern.invariant
