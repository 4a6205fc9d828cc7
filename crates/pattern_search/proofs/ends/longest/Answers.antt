-- The maximum is no less than before, so earlier patterns stay below it, and the new one is by its own length.
use Rattle.std.proofs.Common.{ℕ, List, ◌≤◌, length, take, ap, sym, arith}
use Rattle.std.proofs.lemmas.List.{take_all}
use Rattle.std.proofs.lemmas.List.Elements.{All-more, All-weaker, All-same}
use Rattle.pattern_search.proofs.ends.longest.Goals as goal

pub loop-pattern-preserved : goal.loop-pattern-preserved
loop-pattern-preserved c =
    let most = c.max-most.result in
    let item = c.pattern-item.result in
    All-more (λ (pattern : List ℕ). length pattern ≤ most)
    c.args.patterns.now c.loop-pattern.pattern-index item c.loop-pattern-test.true
    (All-weaker (λ (pattern : List ℕ). length pattern ≤ c.loop-pattern.most)
    (λ (pattern : List ℕ). length pattern ≤ most)
    (λ pattern h. omega (arith, c.max-most.ensures))
    (take c.loop-pattern.pattern-index c.args.patterns.now)
    c.loop-pattern.invariant)
    (omega (arith, c.max-most.ensures, ap length c.bytes.ensures, ap length c.pattern-item.is))

pub returns : goal.returns
returns c =
    All-same (λ (pattern : List ℕ). length pattern ≤ c.loop-pattern.most)
    c.args.patterns.now
    (take c.loop-pattern.pattern-index c.args.patterns.now)
    (sym (take_all c.loop-pattern.pattern-index c.args.patterns.now c.loop-pattern-test.false))
    c.loop-pattern.invariant
